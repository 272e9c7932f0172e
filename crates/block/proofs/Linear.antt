-- Doubling is linear: 2(X ⊕ Y) = 2X ⊕ 2Y, for blocks of bytes. (A 'byte' of 256 breaks it, as two of its bits move.) Assumes nothing.
use mathlib.Core.Path.{◌≡◌, refl, sym, ap, ap₂, ◌∙◌}
use mathlib.Core.List.{List, [], ◌∷◌, ◌++◌}
use Prim.Native.Nat.{ℕ, zero, suc, ◌+◌, ◌*◌, ◌/◌, ◌%◌, ◌<◌}
use native.Mathlib.Omega.{arith}
use lib.Bits.{bit_xor, xor_lt, xor_block, xor_shr, xor_mod}
use lib.ListN.{length, get_or, length-append}
use Rattle.lists.specs.Xor.{xor}
use Rattle.lists.specs.Zeros.{zeros}
use Rattle.lists.proofs.Xor.{xor_comm, xor_assoc, xor_swap, xor_cancel}
use Rattle.lists.proofs.Zeros.{length-zeros}
use Rattle.block.specs.Block.{shift, reduced, double}
use Rattle.block.proofs.Doubling.{length_shift}

-- every number is a byte; behind the end there is 0
abbrev pub Bytes : List ℕ → Type 0
Bytes x = (i : ℕ) → get_or x i 0 < 256

-- ---- bytes stay bytes
pub bytes-xor : (x y : List ℕ) → Bytes x → Bytes y → Bytes (xor x y)
unfolding xor
bytes-xor [] y hx hy i = omega arith
bytes-xor (a ∷ x) [] hx hy i = omega arith
bytes-xor (a ∷ x) (b ∷ y) hx hy zero = xor_lt 8 a b (hx 0) (hy 0)
bytes-xor (a ∷ x) (b ∷ y) hx hy (suc i) = bytes-xor x y (λ j. hx (suc j)) (λ j. hy (suc j)) i

bytes-shift : (x : List ℕ) → Bytes x → Bytes (shift x)
unfolding shift
bytes-shift [] h i = omega arith
bytes-shift (a ∷ x) h zero = let next : get_or x 0 0 < 256 = h 1 in omega arith
bytes-shift (a ∷ x) h (suc i) = bytes-shift x (λ j. h (suc j)) i

pub bytes_last : (n v : ℕ) → v < 256 → Bytes (zeros n ++ (v ∷ []))
unfolding zeros
bytes_last zero v h zero = h
bytes_last zero v h (suc i) = omega arith
bytes_last (suc n) v h zero = omega arith
bytes_last (suc n) v h (suc i) = bytes_last n v h i

-- what the reduction puts in
abbrev K : List ℕ
K = zeros 15 ++ (0x87 ∷ [])

pub bytes-double : (x : List ℕ) → Bytes x → Bytes (double x)
unfolding double
bytes-double x h = go (get_or x 0 0 / 128)
  where
    go : (t : ℕ) → Bytes (reduced t (shift x))
    go zero = bytes-shift x h
    go (suc t) = bytes-xor (shift x) K (bytes-shift x h) (bytes_last 15 0x87 (omega arith))

-- ---- the shift, byte by byte
byte_step : (a b p q : ℕ) → p < 256 → q < 256 → bit_xor a b % 128 * 2 + bit_xor p q / 128 ≡ bit_xor (a % 128 * 2 + p / 128) (b % 128 * 2 + q / 128)
byte_step a b p q hp hq =
    ap₂ (λ (x y : ℕ). x * 2 + y) (xor_mod a b 7) (xor_shr p q 7) ∙ sym (xor_block 1 (a % 128) (b % 128) (p / 128) (q / 128) (omega arith) (omega arith))

first_xor : (x y : List ℕ) → length x ≡ length y → get_or (xor x y) 0 0 ≡ bit_xor (get_or x 0 0) (get_or y 0 0)
unfolding xor
first_xor [] [] h = refl
first_xor [] (b ∷ y) h = absurd (omega arith)
first_xor (a ∷ x) [] h = absurd (omega arith)
first_xor (a ∷ x) (b ∷ y) h = refl

shift-xor : (x y : List ℕ) → length x ≡ length y → Bytes x → Bytes y → shift (xor x y) ≡ xor (shift x) (shift y)
unfolding shift xor
shift-xor [] [] h hx hy = refl
shift-xor [] (b ∷ y) h hx hy = absurd (omega arith)
shift-xor (a ∷ x) [] h hx hy = absurd (omega arith)
shift-xor (a ∷ x) (b ∷ y) h hx hy =
    let same : length x ≡ length y = omega arith in
    ap₂ ◌∷◌ (ap (λ (n : ℕ). bit_xor a b % 128 * 2 + n / 128) (first_xor x y same) ∙ byte_step a b (get_or x 0 0) (get_or y 0 0) (hx 1) (hy 1))
    (shift-xor x y same (λ i. hx (suc i)) (λ i. hy (suc i)))

-- ---- the reduction, by the two top bits s and t: where both are set, what it puts in is gone
reduced_xor : (s t : ℕ) → s < 2 → t < 2 → (p q : List ℕ) → length p ≡ 16 → reduced (bit_xor s t) (xor p q) ≡ xor (reduced s p) (reduced t q)
reduced_xor zero zero hs ht p q h = refl
reduced_xor zero (suc zero) hs ht p q h = xor_assoc p q K
reduced_xor (suc zero) zero hs ht p q h = xor_assoc p q K ∙ ap (xor p) (xor_comm q K) ∙ sym (xor_assoc p K q)
reduced_xor (suc zero) (suc zero) hs ht p q h =
    let long : length K ≡ 16 = omega (arith, length-append (zeros 15) (0x87 ∷ []), length-zeros 15) in
    sym (xor_swap (xor p K) q K ∙ ap (xor q) (xor_cancel p K (omega arith)) ∙ xor_comm q p)
reduced_xor zero (suc (suc t)) hs ht p q h = absurd (omega arith)
reduced_xor (suc zero) (suc (suc t)) hs ht p q h = absurd (omega arith)
reduced_xor (suc (suc s)) t hs ht p q h = absurd (omega arith)

pub double-xor : (x y : List ℕ) → length x ≡ 16 → length y ≡ 16 → Bytes x → Bytes y → double (xor x y) ≡ xor (double x) (double y)
unfolding double
double-xor x y lx ly hx hy =
    let same : length x ≡ length y = omega arith in
    let s : get_or x 0 0 / 128 < 2 = omega (arith, hx 0) in
    let t : get_or y 0 0 / 128 < 2 = omega (arith, hy 0) in
    ap₂ reduced (ap (λ (n : ℕ). n / 128) (first_xor x y same) ∙ xor_shr (get_or x 0 0) (get_or y 0 0) 7) (shift-xor x y same hx hy)
    ∙ reduced_xor (get_or x 0 0 / 128) (get_or y 0 0 / 128) s t (shift x) (shift y) (length_shift x ∙ lx)
