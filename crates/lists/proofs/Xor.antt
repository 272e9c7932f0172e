-- XOR of two byte strings: the laws. None has a bound on the bytes, and only cancelling has one on the lengths. Assumes nothing.
use mathlib.Core.Path.{◌≡◌, refl, sym, ap, ap₂, ◌∙◌}
use mathlib.Core.List.{List, [], ◌∷◌, ◌++◌}
use Prim.Native.Nat.{ℕ, zero, suc, ◌≤◌, ◌<◌, min}
use native.Mathlib.Nat.{le_of_suc-le-suc, not-suc-le-zero, zero-min, min-zero, suc-min-suc}
use native.Mathlib.Omega.{arith}
use lib.Bits.{bit_xor, xor_comm as bits-comm}
use lib.ListN.{length, get_or, take}
use Rattle.lists.specs.Xor.{xor}
use Rattle.lists.specs.Table.{table}
use Rattle.lists.proofs.Table.{as_table}
use Rattle.std.specs.Int.Bits.{xor_assoc as bits-assoc}
use Rattle.lists.proofs.Bits.{xor_cancel as bits-cancel}

pub xor_comm : (a b : List ℕ) → xor a b ≡ xor b a
unfolding xor
xor_comm [] [] = refl
xor_comm [] (y ∷ b) = refl
xor_comm (x ∷ a) [] = refl
xor_comm (x ∷ a) (y ∷ b) = ap₂ ◌∷◌ (bits-comm x y) (xor_comm a b)

pub xor_assoc : (a b c : List ℕ) → xor (xor a b) c ≡ xor a (xor b c)
unfolding xor
xor_assoc [] b c = refl
xor_assoc (x ∷ a) [] c = refl
xor_assoc (x ∷ a) (y ∷ b) [] = refl
xor_assoc (x ∷ a) (y ∷ b) (z ∷ c) = ap₂ ◌∷◌ (bits-assoc x y z) (xor_assoc a b c)

pub xor_swap : (a b c : List ℕ) → xor a (xor b c) ≡ xor b (xor a c)
xor_swap a b c = sym (xor_assoc a b c) ∙ ap (λ (l : List ℕ). xor l c) (xor_comm a b) ∙ xor_assoc b a c

pub length-xor : (a b : List ℕ) → length (xor a b) ≡ min (length a) (length b)
unfolding xor
length-xor [] b = sym (zero-min (length b))
length-xor (x ∷ a) [] = sym (min-zero (suc (length a)))
length-xor (x ∷ a) (y ∷ b) = ap suc (length-xor a b) ∙ sym (suc-min-suc (length a) (length b))

-- what is added twice is gone
pub xor_cancel : (a z : List ℕ) → length a ≤ length z → xor (xor a z) z ≡ a
unfolding xor
xor_cancel [] z h = refl
xor_cancel (x ∷ a) [] h = absurd (not-suc-le-zero h)
xor_cancel (x ∷ a) (y ∷ z) h = ap₂ ◌∷◌ (bits-cancel x y) (xor_cancel a z (le_of_suc-le-suc h))

pub take-xor : (n : ℕ) (a b : List ℕ) → take n (xor a b) ≡ xor (take n a) b
unfolding xor
take-xor zero a b = refl
take-xor (suc n) [] b = refl
take-xor (suc n) (x ∷ a) [] = refl
take-xor (suc n) (x ∷ a) (y ∷ b) = ap (λ (l : List ℕ). bit_xor x y ∷ l) (take-xor n a b)

pub get_or-xor : (i : ℕ) (a b : List ℕ) → i < length a → i < length b → get_or (xor a b) i 0 ≡ bit_xor (get_or a i 0) (get_or b i 0)
unfolding xor
get_or-xor i [] b ha hb = absurd (not-suc-le-zero ha)
get_or-xor i (x ∷ a) [] ha hb = absurd (not-suc-le-zero hb)
get_or-xor zero (x ∷ a) (y ∷ b) ha hb = refl
get_or-xor (suc i) (x ∷ a) (y ∷ b) ha hb = get_or-xor i a b (le_of_suc-le-suc ha) (le_of_suc-le-suc hb)

pub xor-append : (a b c d : List ℕ) → length a ≡ length c → xor (a ++ b) (c ++ d) ≡ xor a c ++ xor b d
unfolding xor
xor-append [] b [] d h = refl
xor-append [] b (y ∷ c) d h = absurd (omega arith)
xor-append (x ∷ a) b [] d h = absurd (omega arith)
xor-append (x ∷ a) b (y ∷ c) d h = ap (λ (l : List ℕ). bit_xor x y ∷ l) (xor-append a b c d (omega arith))

-- byte by byte, for two strings of n bytes
pub xor-table : (a b : List ℕ) (n : ℕ) → length a ≡ n → length b ≡ n → table (λ i. bit_xor (get_or a i 0) (get_or b i 0)) n ≡ xor a b
xor-table a b n ha hb =
    as_table (xor a b) n (λ i. bit_xor (get_or a i 0) (get_or b i 0)) (omega (arith, length-xor a b))
    (λ i h. sym (get_or-xor i a b (omega arith) (omega arith)))
