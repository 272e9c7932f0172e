-- `powers::step` meets its contract. Assumes nothing.
use Rattle.std.proofs.Common.{List, ℕ, ◌/◌, get_or, ap₂, ◌∙◌, arith, rules, Fits, w64}
use Rattle.lists.specs.Xor.{xor}
use Rattle.block.specs.Wide.{big_of}
use Rattle.block.proofs.Words.{top}
use Rattle.powers.specs.Field.{times}
use Rattle.powers.proofs.Words.{added, highest}
use Rattle.powers.proofs.step.Goals as goal

pub returns : goal.returns
unfolding big_of
returns c =
    let v = c.args in
    let d = c.double_big-d.result in
    let a : Fits w64 (get_or v.a 0 0) = search rules in
    added (get_or d 0 0) (get_or d 1 0) (get_or v.b 0 0) (get_or v.b 1 0) (get_or v.a 0 0 / top) (omega (arith, a.fits))
    ∙ ap₂ (λ (x : List ℕ) (t : ℕ). xor x (times t (big_of v.b))) c.double_big-d.ensures (highest v.a a.fits)
