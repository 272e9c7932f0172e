-- `plans::put_plan`: the first i entries are laid.
use Rattle.std.proofs.Common.{◌≡◌}
use Rattle.lists.specs.Lay.{lay}
use Rattle.plans.specs.Planner.{plan_of}
use Rattle.plans.proofs.put_plan.Given as goal

abbrev pub invariant-loop-i : goal.invariant-loop-i
invariant-loop-i l = l.out ≡ lay 0 (plan_of l.i) l.fn.out
