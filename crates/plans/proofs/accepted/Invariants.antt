-- `plans::accepted`: the first j entries have passed, and just their pairs are marked.
use Rattle.plans.proofs.Marks.{Passed}
use Rattle.plans.proofs.accepted.Given as goal

abbrev pub invariant-loop-j : goal.invariant-loop-j
invariant-loop-j l = Passed l.n l.plan l.marks l.j
