-- Into masks that are doubled nothing is XORed.
use Rattle.std.proofs.Common.{◌≡◌, List, ℕ, length, sym, subst, rules}
use Rattle.lists.specs.Zeros.{zeros}
use Rattle.mode.specs.Masks.{doubled}
use Rattle.pairs.specs.Carries.{Carries}
use Rattle.pairs.proofs.Carried.{doubled_carries}
use Rattle.parts.proofs.next_pairs.Goals as goal

carries : (l r z : List ℕ) → length l ≡ 16 → length r ≡ 16 → z ≡ zeros 16 → Carries (doubled l r) l z r z
carries l r z hl hr is = subst (λ (x : List ℕ). Carries (doubled l r) l x r x) (sym is) (doubled_carries l r hl hr)

pub returns-clause-out_after : goal.returns-clause-out_after
returns-clause-out_after c =
    let k = c.args.front.masks in
    c.pairs-runs.ensures.out_after (doubled k.left k.right)
    (carries k.left k.right c.blank-zeros.result (search (rules, c.well_formed)) (search (rules, c.well_formed)) c.blank-zeros.ensures)

pub returns-clause-masks_after : goal.returns-clause-masks_after
returns-clause-masks_after c =
    let k = c.args.front.masks in
    let after = c.pairs-runs.ensures.masks_after (doubled k.left k.right)
    (carries k.left k.right c.blank-zeros.result (search (rules, c.well_formed)) (search (rules, c.well_formed)) c.blank-zeros.ensures) in
    (after.0, (after.1, cc))
