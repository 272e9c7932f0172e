-- `plans::accepted` meets its contract. Assumes nothing.
use Rattle.std.proofs.Common.{◌≡◌, ◌<◌, ◌∙◌, get_or, false, arith}
use Rattle.plans.specs.Plan.{entries}
use Rattle.plans.proofs.Marks.{passed_none, passed_all}
use Rattle.plans.proofs.Plans.{accepted_long, twice_refused}
use Rattle.plans.proofs.accepted.Goals as goal

pub returns-then-plan-n : goal.returns-then-plan-n
returns-then-plan-n c = λ a. omega (arith, accepted_long _ _ a)

pub loop-j-init : goal.loop-j-init
loop-j-init c = passed_none _ _

-- in a plan entry j is for a pair below n that no earlier entry is for, which so is not marked
pub returns-then-n-i : goal.returns-then-n-i
returns-then-n-i c = λ a.
    let j = c.loop-j.j in
    let i = c.pair_at-i in
    let within : j < entries c.args.plan.now = omega arith in
    let free : get_or c.loop-j.marks i.result false ≡ false =
    c.loop-j.invariant.clear i.result (λ k b e. twice_refused _ _ k j b within (e ∙ i.ensures) a) in
    grind (arith, i.ensures, a.no_other j within, a.engines j within, free)

pub returns : goal.returns
returns c = passed_all _ _ _ _ c.loop-j.invariant (omega arith) (omega arith)
