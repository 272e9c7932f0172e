-- What remains of a string from some place on, read as a part block. Assumes nothing.
use mathlib.Core.Path.{◌≡◌, sym, ap, ap₂, subst, ◌∙◌}
use mathlib.Core.Bool.{Bool}
use mathlib.Core.List.{List, [], ◌∷◌}
use Prim.Native.Nat.{ℕ, ◌+◌, ◌-◌}
use native.Mathlib.Omega.{arith}
use lib.ListN.{length, take, drop, length-drop}
use lib.Seq.{take_all, drop-drop}
use Rattle.lists.specs.Lay.{lay}
use Rattle.lists.specs.Xor.{xor}
use Rattle.lists.proofs.Laid.{lay_none}
use Rattle.block.specs.Block.{filled}
use Rattle.block.proofs.Blocks.{part_filled, part_xor}

pub rest_whole : (m : List ℕ) (i : ℕ) → take (length m - i) (drop i m) ≡ drop i m
rest_whole m i = take_all (length m - i) (drop i m) (omega (arith, length-drop i m))

-- read as a block and XORed with e, of which the rest's length is taken
pub rest_masked : (m : List ℕ) (i : ℕ) (b z x e : List ℕ) → b ≡ filled (take (length m - i) (drop i m)) → z ≡ e → x ≡ xor b z
    → take (length m - i) x ≡ xor (drop i m) e
rest_masked m i b z x e hb hz hx =
    ap (take (length m - i)) (hx ∙ ap₂ xor (hb ∙ ap filled (rest_whole m i)) hz) ∙ part_xor (drop i m) e (length m - i) (length-drop i m)

-- where nothing remains there is nothing to mask, and nothing to write
pub nothing_laid : (x e out : List ℕ) (i : ℕ) → length x ≡ 0 → out ≡ lay i (xor x e) out
unfolding xor
nothing_laid [] e out i h = sym (lay_none i out)
nothing_laid (b ∷ bs) e out i h = absurd (omega arith)

pub nothing_taken : (x e a : List ℕ) (n : ℕ) → length x ≡ 0 → n ≡ 0 → take n a ≡ xor x e
unfolding xor
nothing_taken [] e a n h z = ap (λ (k : ℕ). take k a) z
nothing_taken (b ∷ bs) e a n h z = absurd (omega arith)

-- the same behind a whole block
module _ (m : List ℕ) (i : ℕ) where
  second_long : length (drop 16 (drop i m)) ≡ length m - (i + 16)
  second_long = ap length (drop-drop 16 i m) ∙ length-drop (i + 16) m

  second_whole : take (length m - (i + 16)) (drop (i + 16) m) ≡ drop 16 (drop i m)
  second_whole = rest_whole m (i + 16) ∙ sym (drop-drop 16 i m)

  pub second_masked : (b z x e : List ℕ) → b ≡ filled (take (length m - (i + 16)) (drop (i + 16) m)) → z ≡ e → x ≡ xor b z
      → take (length m - (i + 16)) x ≡ xor (drop 16 (drop i m)) e
  second_masked b z x e hb hz hx = rest_masked m (i + 16) b z x e hb hz hx ∙ ap (λ (l : List ℕ). xor l e) (sym (drop-drop 16 i m))

  pub second_filled : (b : List ℕ) → b ≡ filled (take (length m - (i + 16)) (drop (i + 16) m))
      → take (length m - (i + 16)) b ≡ drop 16 (drop i m)
  second_filled b hb =
      ap (take (length m - (i + 16))) (hb ∙ ap filled second_whole) ∙ part_filled (drop 16 (drop i m)) (length m - (i + 16)) second_long

-- what a branch gives, said by the test u that picked it: what is written, what goes into the checksum, and the runs
pub picked : (t u : Bool) → u ≡ t → (written summed : Bool → List ℕ) (runs : Bool → ℕ) (o b : List ℕ) (n : ℕ)
    → (o ≡ written t) × ((b ≡ summed t) × (n ≡ runs t)) → (o ≡ written u) × ((b ≡ summed u) × (n ≡ runs u))
picked t u is written summed runs o b n = subst (λ (v : Bool). (o ≡ written v) × ((b ≡ summed v) × (n ≡ runs v))) (sym is)
