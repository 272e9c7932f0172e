-- `plans::put_plan` meets its contract. Assumes nothing.
use Rattle.std.proofs.Common.{◌≡◌, ◌+◌, ◌*◌, ◌/◌, ◌%◌, ℕ, List, [], ◌∷◌, length, get_or, sym, ap, ap₂, ◌∙◌, arith, rules}
use Rattle.lists.specs.Lay.{lay}
use Rattle.lists.proofs.Laid.{lay-lay}
use Rattle.plans.specs.Planner.{plan_of}
use Rattle.plans.proofs.Planned.{entry_of, plan_of_more, length-plan_of}
use Rattle.plans.proofs.put_plan.Goals as goal

pub loop-i-init : goal.loop-i-init
unfolding plan_of
loop-i-init c = search rules

pub loop-i-preserved : goal.loop-i-preserved
loop-i-preserved c =
    let out = c.args.out.now in
    let i = c.loop-i.i in
    let place : 3 * i ≡ 0 + length (plan_of i) = omega (arith, length-plan_of i) in
    let bytes = c.to_be_bytes.result in
    let high : get_or bytes 0 0 ≡ i / 256 = rw c.to_be_bytes.ensures (omega arith) in
    let low : get_or bytes 1 0 ≡ i % 256 = rw c.to_be_bytes.ensures (omega arith) in
    c.lay.ensures
    ∙ ap₂ (λ (a b : ℕ). lay (3 * i) (a ∷ b ∷ i % 4 ∷ []) c.loop-i.out) high low
    ∙ ap (lay (3 * i) (entry_of i)) c.loop-i.invariant
    ∙ ap (λ (k : ℕ). lay k (entry_of i) (lay 0 (plan_of i) out)) place
    ∙ lay-lay 0 (plan_of i) (entry_of i) out (omega arith)
    ∙ ap (λ (l : List ℕ). lay 0 l out) (sym (plan_of_more i))
