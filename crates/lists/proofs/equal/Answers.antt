-- `lists::equal` meets its contract. Assumes nothing.
use Rattle.std.proofs.Common.{sym, ap, length, arith}
use Rattle.std.proofs.lemmas.Grind.{common_steps}
use Rattle.lists.specs.Same.{same}
use Rattle.lists.proofs.Same.{not_same, flag_more}
use Rattle.lists.proofs.equal.Goals as goal

pub returns-then-a-b : goal.returns-then-a-b
returns-then-a-b c = sym (not_same c.args.a.now c.args.b.now (λ e. c.if-a-b.true (ap length e)))

pub loop-x-preserved : goal.loop-x-preserved
loop-x-preserved c = grind (arith, common_steps, flag_more, c.in-Some.ensures.steps)

pub returns : goal.returns
unfolding same
returns c = grind (arith, common_steps, c.in-None.ensures.steps)
