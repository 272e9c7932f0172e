-- Zeros: their number, and that adding them changes nothing. Assumes nothing.
use mathlib.Core.Path.{◌≡◌, refl, ap₂}
use mathlib.Core.List.{List, [], ◌∷◌}
use Prim.Native.Nat.{ℕ, zero, suc, ◌≤◌}
use native.Mathlib.Nat.{le_of_suc-le-suc, not-suc-le-zero}
use lib.Bits.{xor_zero_r}
use lib.ListN.{length, length-replicate}
use Rattle.lists.specs.Xor.{xor}
use Rattle.lists.specs.Zeros.{zeros}

pub length-zeros : (n : ℕ) → length (zeros n) ≡ n
unfolding zeros
length-zeros n = length-replicate n 0

pub xor-zeros : (a : List ℕ) (n : ℕ) → length a ≤ n → xor a (zeros n) ≡ a
unfolding xor zeros
xor-zeros [] n h = refl
xor-zeros (x ∷ a) zero h = absurd (not-suc-le-zero h)
xor-zeros (x ∷ a) (suc n) h = ap₂ ◌∷◌ (xor_zero_r x) (xor-zeros a n (le_of_suc-le-suc h))
