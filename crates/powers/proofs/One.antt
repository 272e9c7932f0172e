-- The product with 1 is the block itself: a step of Horner's rule with 1 is a shift of sum and factor side by side, and eight shifts are
-- a byte. Assumes nothing.
use mathlib.Core.Path.{◌≡◌, refl, sym, ap, ap₂, subst, ◌∙◌}
use mathlib.Core.List.{List, [], ◌∷◌, ◌++◌, append_assoc, append-nil}
use Prim.Native.Nat.{ℕ, zero, suc, ◌+◌, ◌*◌, ◌/◌, ◌%◌, ◌<◌}
use native.Mathlib.Omega.{arith}
use lib.Bits.{bit_xor, xor_zero_r, xor_block, xor_zero_l}
use lib.ListN.{length, get_or, take, drop, length-append, take-append-drop}
use lib.Seq.{length-take-le, take_at, drop_at, get_or-take, get_or-drop}
use Rattle.lists.specs.Xor.{xor}
use Rattle.lists.specs.Zeros.{zeros}
use Rattle.lists.proofs.Xor.{length-xor}
use Rattle.lists.proofs.Zeros.{length-zeros}
use Rattle.block.specs.Block.{shift, double}
use Rattle.block.proofs.Doubling.{length_shift, double_low}
use Rattle.block.proofs.Linear.{Bytes}
use Rattle.powers.specs.Field.{one, times, horner, product}
use Rattle.powers.proofs.Eight.{eight}

-- ---- a step with 1, for a sum s and a factor a
-- a bit behind an even number
bit_in : (c b : ℕ) → b < 2 → bit_xor (c * 2 + 0) b ≡ c * 2 + b
bit_in c b h =
    let bit : b ≡ 0 * 2 + b = omega arith in
    ap (bit_xor (c * 2 + 0)) bit ∙ xor_block 1 c 0 0 b (omega arith) h ∙ ap₂ (λ (x y : ℕ). x * 2 + y) (xor_zero_r c) (xor_zero_l b)

shift-append : (s a : List ℕ) (n b : ℕ) → length s ≡ suc n → get_or a 0 0 / 128 ≡ b → b < 2
    → shift (s ++ a) ≡ xor (shift s) (zeros n ++ (b ∷ [])) ++ shift a
unfolding shift xor zeros
shift-append [] a n b h e l = absurd (omega arith)
shift-append (c ∷ []) a zero b h e l = ap (λ (x : ℕ). x ∷ shift a) (ap (λ (x : ℕ). c % 128 * 2 + x) e ∙ sym (bit_in (c % 128) b l))
shift-append (c ∷ []) a (suc n) b h e l = absurd (omega arith)
shift-append (c ∷ d ∷ s) a zero b h e l = absurd (omega arith)
shift-append (c ∷ d ∷ s) a (suc n) b h e l =
    ap₂ ◌∷◌ (sym (xor_zero_r (c % 128 * 2 + d / 128))) (shift-append (d ∷ s) a n b (omega arith) e l)

-- by the bit, what goes in is that bit in the last byte
bit_one : (b : ℕ) → b < 2 → times b one ≡ zeros 15 ++ (b ∷ [])
unfolding zeros
bit_one zero h = refl
bit_one (suc zero) h = refl
bit_one (suc (suc b)) h = absurd (omega arith)

-- Horner's rule with 1, where z is the sum with the factor behind it
abbrev with_one : ℕ → List ℕ → List ℕ
with_one n z = horner n (drop 16 z) one (take 16 z)

module _ (n : ℕ) (z : List ℕ) (long : length z ≡ 32) (low : get_or z 0 0 < 128) (byte : Bytes z) where
  s : List ℕ
  s = take 16 z

  a : List ℕ
  a = drop 16 z

  bit : ℕ
  bit = get_or a 0 0 / 128

  small : bit < 2
  unfolding bit a
  small =
      let first : get_or a 0 0 ≡ get_or z 16 0 = get_or-drop 16 z 0 0 in
      omega (arith, first, byte 16)

  sum : List ℕ
  sum = xor (shift s) (zeros 15 ++ (bit ∷ []))

  s_long : length s ≡ 16
  unfolding s
  s_long = length-take-le 16 z (omega arith)

  sum_long : length sum ≡ 16
  unfolding sum
  sum_long = omega (arith, s_long, length-xor (shift s) (zeros 15 ++ (bit ∷ [])), length_shift s, length-append (zeros 15) (bit ∷ []), length-zeros 15)

  side_by_side : shift z ≡ sum ++ shift a
  unfolding s a bit sum
  side_by_side = ap shift (sym (take-append-drop 16 z)) ∙ shift-append s a 15 bit s_long refl small

  step : with_one (suc n) z ≡ with_one n (shift z)
  unfolding horner s a bit sum
  step =
      let s_low : get_or s 0 0 < 128 = omega (arith, get_or-take 16 z 0 0 (omega arith)) in
      ap (horner n (shift a) one) (ap₂ xor (double_low s s_low) (bit_one bit small))
      ∙ ap₂ (λ (x y : List ℕ). horner n x one y) (sym (drop_at sum (shift a) 16 sum_long)) (sym (take_at sum (shift a) 16 sum_long))
      ∙ ap (with_one n) (sym side_by_side)

-- ---- sixteen bytes
bytes_behind : (j : ℕ) (y : List ℕ) → Bytes y → Bytes (zeros j ++ y)
unfolding zeros
bytes_behind zero y h i = h i
bytes_behind (suc j) y h zero = omega arith
bytes_behind (suc j) y h (suc i) = bytes_behind j y h i

pub bytes-append : (x y : List ℕ) → Bytes x → Bytes y → Bytes (x ++ y)
bytes-append [] y hx hy i = hy i
bytes-append (a ∷ x) y hx hy zero = hx 0
bytes-append (a ∷ x) y hx hy (suc i) = bytes-append x y (λ j. hx (suc j)) hy i

through : (j : ℕ) (y : List ℕ) → j + length y ≡ 32 → Bytes y → with_one (8 * j) (zeros j ++ y) ≡ take 16 (y ++ zeros j)
unfolding zeros horner
through zero y long h = ap (take 16) (sym (append-nil y))
through (suc j) y long h =
    let steps : 8 * suc j ≡ 8 * j + 8 = omega arith in
    ap (λ (n : ℕ). with_one n (0 ∷ (zeros j ++ y))) steps
    ∙ eight with_one 32 step (8 * j) (zeros j ++ y) (omega (arith, length-append (zeros j) y, length-zeros j)) (bytes_behind (suc j) y h)
    ∙ ap (with_one (8 * j)) (append_assoc (zeros j) y (0 ∷ []))
    ∙ through j (y ++ (0 ∷ [])) (omega (arith, length-append y (0 ∷ []))) (bytes-append y (0 ∷ []) h (bytes_behind 1 [] λ i. omega arith))
    ∙ ap (take 16) (append_assoc y (0 ∷ []) (zeros j))

pub product_one : (x : List ℕ) → length x ≡ 16 → Bytes x → product x one ≡ x
unfolding product
product_one x long h =
    ap₂ (λ (a s : List ℕ). horner 128 a one s) (sym (drop_at (zeros 16) x 16 (length-zeros 16))) (sym (take_at (zeros 16) x 16 (length-zeros 16)))
    ∙ through 16 x (omega arith) h
    ∙ take_at x (zeros 16) 16 long

-- ---- zeros in front of a factor leave the sum zero: a byte of them can be passed over
pub pass_byte : (b : List ℕ) (n : ℕ) (y : List ℕ) → Bytes (0 ∷ y) → horner (n + 8) (0 ∷ y) b (zeros 16) ≡ horner n (y ++ (0 ∷ [])) b (zeros 16)
unfolding horner zeros shift double xor
pass_byte b n y h = eight (λ (k : ℕ) (z : List ℕ). horner k z b (zeros 16)) (length (0 ∷ y)) on n y refl h
  where
    on : (k : ℕ) (z : List ℕ) → length z ≡ length (0 ∷ y) → get_or z 0 0 < 128 → Bytes z → horner (suc k) z b (zeros 16) ≡ horner k (shift z) b (zeros 16)
    on k z long low bytes =
        let top : get_or z 0 0 / 128 ≡ 0 = omega arith in
        ap (λ (t : ℕ). horner k (shift z) b (xor (zeros 16) (times t b))) top

-- the same, where r is z without it
pub passed_over : (b : List ℕ) (n : ℕ) (z r : List ℕ) → length z ≡ 16 → Bytes z → 0 ∷ r ≡ z ++ (0 ∷ []) → horner (n + 8) z b (zeros 16) ≡ horner n r b (zeros 16)
passed_over b n [] r long h e = absurd (omega arith)
passed_over b n (c ∷ y) r long h e =
    let front : 0 ≡ c = ap (λ (l : List ℕ). get_or l 0 0) e in
    let first : c ∷ y ≡ 0 ∷ y = ap (λ (x : ℕ). x ∷ y) (sym front) in
    ap (λ (l : List ℕ). horner (n + 8) l b (zeros 16)) first
    ∙ pass_byte b n y (subst Bytes first h)
    ∙ sym (ap (λ (l : List ℕ). horner n (drop 1 l) b (zeros 16)) e)
