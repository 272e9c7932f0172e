-- Blocks as two words: doubling, where the first byte of each word is the highest. Assumes nothing.
use mathlib.Core.Path.{◌≡◌, refl, sym, ap, ap₂, ◌∙◌}
use mathlib.Core.List.{List, [], ◌∷◌, ◌++◌, append_assoc, append-nil}
use Prim.Native.Nat.{ℕ, zero, suc, ◌+◌, ◌*◌, ◌/◌, ◌%◌, ◌<◌}
use native.Mathlib.Nat.{add-zero}
use native.Mathlib.Omega.{arith}
use lib.Bits.{bit_xor, xor_zero_r}
use lib.ListN.{length, get_or}
use Rattle.lists.specs.Zeros.{zeros}
use Rattle.lists.specs.Hex.{bytes as big}
use Rattle.lists.proofs.Xor.{xor-append}
use Rattle.lists.proofs.Zeros.{length-zeros, xor-zeros}
use Rattle.words.specs.Word.{little}
use Rattle.words.proofs.Words.{length_big, big_xor, big_above}
use Rattle.block.specs.Block.{shift, reduced, double}
use Rattle.block.specs.Wide.{bytes_of}

-- n bytes shifted, with the bytes l behind them: each takes the top bit of the next
shift_big_lem : (n x : ℕ) (l : List ℕ) → get_or l 0 0 < 256 → shift (big n x ++ l) ≡ big n (x * 2 + get_or l 0 0 / 128) ++ shift l
unfolding shift
shift_big_lem zero x l h = refl
shift_big_lem (suc n) x l h =
    let next = get_or l 0 0 / 128 in
    let front : x / 256 * 2 + x % 256 / 128 ≡ (x * 2 + next) / 256 = omega arith in
    let last : x % 256 % 128 * 2 + next ≡ (x * 2 + next) % 256 = omega arith in
    ap shift (append_assoc (big n (x / 256)) (x % 256 ∷ []) l)
    ∙ shift_big_lem n (x / 256) (x % 256 ∷ l) (omega arith)
    ∙ ap₂ (λ (p q : ℕ). big n p ++ q ∷ shift l) front last
    ∙ sym (append_assoc (big n ((x * 2 + next) / 256)) ((x * 2 + next) % 256 ∷ []) (shift l))

-- ---- a word of 64 bits
abbrev pub top : ℕ
top = 9223372036854775808

pub top_bit : (x : ℕ) → x < top * 2 → get_or (big 8 x) 0 0 / 128 ≡ x / top
top_bit x h = omega arith

-- twice x, less what is beyond 64 bits
twice : (x c : ℕ) → big 8 (x * 2 + c) ≡ big 8 (x % top * 2 + c)
twice x c =
    let split : x * 2 + c ≡ x % top * 2 + c + x / top * 18446744073709551616 = omega arith in
    ap (big 8) split ∙ big_above 8 (x % top * 2 + c) (x / top)

module _ (a b : ℕ) (ha : a < top * 2) (hb : b < top * 2) where
  pub shifted : shift (big 8 a ++ big 8 b) ≡ big 8 (a % top * 2 + b / top) ++ big 8 (b % top * 2)
  unfolding shift
  shifted =
      shift_big_lem 8 a (big 8 b) (omega arith)
      ∙ ap₂ ◌++◌ (ap (λ (c : ℕ). big 8 (a * 2 + c)) (top_bit b hb) ∙ twice a (b / top))
      (ap shift (sym (append-nil (big 8 b)))
      ∙ shift_big_lem 8 b [] (omega arith)
      ∙ append-nil (big 8 (b * 2 + 0))
      ∙ twice b 0
      ∙ ap (big 8) (add-zero (b % top * 2)))

-- formula (1), as the code has it: 87 into the last byte of the shifted block p, q, by the top bit t
pub reduced_big : (p q t : ℕ) → t < 2 → reduced t (big 8 p ++ big 8 q) ≡ big 8 p ++ big 8 (bit_xor q (t * 0x87))
unfolding zeros
reduced_big p q zero h = ap (λ (z : ℕ). big 8 p ++ big 8 z) (sym (xor_zero_r q))
reduced_big p q (suc zero) h =
    xor-append (big 8 p) (big 8 q) (zeros 8) (big 8 0x87) (length_big 8 p ∙ sym (length-zeros 8))
    ∙ ap₂ ◌++◌ (xor-zeros (big 8 p) 8 (omega (arith, length_big 8 p))) (sym (big_xor 8 q 0x87))
reduced_big p q (suc (suc t)) h = absurd (omega arith)

pub double_big : (a b : ℕ) → a < top * 2 → b < top * 2 → double (big 8 a ++ big 8 b) ≡ big 8 (a % top * 2 + b / top) ++ big 8 (bit_xor (b % top * 2) (a / top * 0x87))
unfolding double
double_big a b ha hb = ap₂ reduced (top_bit a ha) (shifted a b ha hb) ∙ reduced_big (a % top * 2 + b / top) (b % top * 2) (a / top) (omega arith)

-- two words have sixteen bytes
pub length-bytes : (x : List ℕ) → length (bytes_of x) ≡ 16
unfolding bytes_of little
length-bytes x = refl
