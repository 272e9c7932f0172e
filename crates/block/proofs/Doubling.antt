-- Doubling: the shift byte by byte, and the reduction. Assumes nothing.
use mathlib.Core.Path.{◌≡◌, refl, ap, ◌∙◌}
use mathlib.Core.List.{List, [], ◌∷◌, ◌++◌}
use Prim.Native.Nat.{ℕ, zero, suc, ◌/◌, ◌<◌}
use native.Mathlib.Omega.{arith}
use lib.ListN.{length, get_or, length-append}
use Rattle.lists.specs.Xor.{xor}
use Rattle.lists.specs.Zeros.{zeros}
use Rattle.lists.proofs.Xor.{length-xor}
use Rattle.lists.proofs.Zeros.{length-zeros}
use Rattle.block.specs.Block.{shift, reduced, double, triple, seven}

pub length_shift : (x : List ℕ) → length (shift x) ≡ length x
unfolding shift
length_shift [] = refl
length_shift (a ∷ x) = ap suc (length_shift x)

pub double_low : (x : List ℕ) → get_or x 0 0 < 128 → double x ≡ shift x
unfolding double
double_low x h =
    let top : get_or x 0 0 / 128 ≡ 0 = omega arith in
    ap (λ (t : ℕ). reduced t (shift x)) top

-- ---- sixteen bytes stay sixteen
pub length-double : (x : List ℕ) → length x ≡ 16 → length (double x) ≡ 16
unfolding double
length-double x h = go (get_or x 0 0 / 128)
  where
    c : List ℕ
    c = zeros 15 ++ (0x87 ∷ [])

    go : (t : ℕ) → length (reduced t (shift x)) ≡ 16
    go zero = length_shift x ∙ h
    go (suc t) = omega (arith, length-xor (shift x) c, length-append (zeros 15) (0x87 ∷ []), length-zeros 15, length_shift x)

pub length-triple : (x : List ℕ) → length x ≡ 16 → length (triple x) ≡ 16
length-triple x h = omega (arith, length-xor (double x) x, length-double x h)

pub length-seven : (x : List ℕ) → length x ≡ 16 → length (seven x) ≡ 16
length-seven x h =
    omega (
      arith,
      length-xor (xor (double (double x)) (double x)) x,
      length-xor (double (double x)) (double x),
      length-double (double x) (length-double x h),
      length-double x h,
    )
