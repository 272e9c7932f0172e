-- Blocks as two words whose first byte is the highest: a step of Horner's rule, and a byte passed over. Assumes nothing.
use mathlib.Core.Path.{◌≡◌, sym, ap, ap₂, ◌∙◌}
use mathlib.Core.List.{List, [], ◌∷◌, ◌++◌, append_assoc}
use Prim.Native.Nat.{ℕ, zero, suc, ◌+◌, ◌*◌, ◌/◌, ◌%◌, ◌^◌, ◌<◌}
use native.Mathlib.Nat.{zero-mul, one-mul, mul_assoc, pow-suc}
use native.Mathlib.Omega.{arith}
use lib.Bits.{bit_xor, xor_zero_r}
use lib.ListN.{get_or, length-append}
use Rattle.lists.specs.Xor.{xor}
use Rattle.lists.specs.Zeros.{zeros}
use Rattle.lists.specs.Hex.{bytes as big}
use Rattle.lists.proofs.Xor.{xor-append}
use Rattle.lists.proofs.Zeros.{xor-zeros}
use Rattle.words.proofs.Words.{length_big, big_xor}
use Rattle.words.specs.Word.{little}
use Rattle.block.specs.Wide.{bytes_of, big_of}
use Rattle.block.proofs.Linear.{Bytes, bytes_last}
use Rattle.block.proofs.Words.{top, top_bit, length-bytes}
use Rattle.powers.specs.Field.{times}
use Rattle.powers.proofs.One.{bytes-append}
use Rattle.powers.proofs.Laws.{IsBlock}

module _ (d e b c : ℕ) where
  pub added : (t : ℕ) → t < 2 → big 8 (bit_xor d (t * b)) ++ big 8 (bit_xor e (t * c)) ≡ xor (big 8 d ++ big 8 e) (times t (big 8 b ++ big 8 c))
  added zero h =
      ap₂ (λ (x y : ℕ). big 8 (bit_xor d x) ++ big 8 (bit_xor e y)) (zero-mul b) (zero-mul c)
      ∙ ap₂ (λ (x y : ℕ). big 8 x ++ big 8 y) (xor_zero_r d) (xor_zero_r e)
      ∙ sym (xor-zeros (big 8 d ++ big 8 e) 16 (omega (arith, length-append (big 8 d) (big 8 e), length_big 8 d, length_big 8 e)))
  added (suc zero) h =
      ap₂ (λ (x y : ℕ). big 8 (bit_xor d x) ++ big 8 (bit_xor e y)) (one-mul b) (one-mul c)
      ∙ ap₂ ◌++◌ (big_xor 8 d b) (big_xor 8 e c)
      ∙ sym (xor-append (big 8 d) (big 8 e) (big 8 b) (big 8 c) (length_big 8 d ∙ sym (length_big 8 b)))
  added (suc (suc t)) h = absurd (omega arith)

-- the highest bit of a block
pub highest : (a : List ℕ) → get_or a 0 0 < top * 2 → get_or a 0 0 / top ≡ get_or (big_of a) 0 0 / 128
unfolding big_of
highest a h = sym (top_bit (get_or a 0 0) h)

-- ---- a byte further
big_first : (n h l : ℕ) → h < 256 → l < 256 ^ n → big (suc n) (l + h * 256 ^ n) ≡ h ∷ big n l
big_first zero h l hh hl =
    let only : (l + h * 1) % 256 ≡ h = omega arith in
    ap (λ (x : ℕ). x ∷ []) only
big_first (suc n) h l hh hl =
    let q = h * 256 ^ n in
    let whole : l + h * 256 ^ suc n ≡ l + q * 256 = ap (λ (z : ℕ). l + h * z) (pow-suc 256 n) ∙ ap (λ (z : ℕ). l + z) (sym (mul_assoc h (256 ^ n) 256)) in
    let above : (l + q * 256) / 256 ≡ l / 256 + q = omega arith in
    let last : (l + q * 256) % 256 ≡ l % 256 = omega arith in
    ap (big (suc (suc n))) whole
    ∙ ap₂ (λ (x : ℕ) (z : ℕ). big (suc n) x ++ (z ∷ [])) above last
    ∙ ap (λ (x : List ℕ). x ++ (l % 256 ∷ [])) (big_first n h (l / 256) hh (omega (arith, pow-suc 256 n)))

abbrev lowest : ℕ
lowest = 72057594037927936

pub next_big : (a b : ℕ) → a < lowest → b < top * 2 → 0 ∷ (big 8 (a * 256 + b / lowest) ++ big 8 (b % lowest * 256)) ≡ (big 8 a ++ big 8 b) ++ (0 ∷ [])
next_big a b ha hb =
    let h = b / lowest in
    let l = b % lowest * 256 in
    let in_a : a * 256 + h ≡ a * 256 + h + 0 * 256 ^ 8 = omega arith in
    let up : (a * 256 + h) / 256 ≡ a = omega arith in
    let down : (a * 256 + h) % 256 ≡ h = omega arith in
    let in_b : l + h * 256 ^ 8 ≡ b * 256 = omega arith in
    let up_b : b * 256 / 256 ≡ b = omega arith in
    let down_b : b * 256 % 256 ≡ 0 = omega arith in
    ap (λ (x : List ℕ). x ++ big 8 l) (sym (big_first 8 0 (a * 256 + h) (omega arith) (omega arith)) ∙ ap (big 9) (sym in_a) ∙ ap₂ (λ (x y : ℕ). big 8 x ++ (y ∷ [])) up down)
    ∙ append_assoc (big 8 a) (h ∷ []) (big 8 l)
    ∙ ap (λ (x : List ℕ). big 8 a ++ x) (sym (big_first 8 h l (omega arith) (omega arith)) ∙ ap (big 9) in_b ∙ ap₂ (λ (x y : ℕ). big 8 x ++ (y ∷ [])) up_b down_b)
    ∙ sym (append_assoc (big 8 a) (big 8 b) (0 ∷ []))

-- ---- bytes
-- two words are a block
bytes-little : (n x : ℕ) → Bytes (little n x)
unfolding little
bytes-little zero x i = omega arith
bytes-little (suc n) x zero = omega arith
bytes-little (suc n) x (suc i) = bytes-little n (x / 256) i

pub words_block : (x : List ℕ) → IsBlock (bytes_of x)
unfolding bytes_of
words_block x = record {
  long = length-bytes x;
  bytes = bytes-append (little 8 (get_or x 0 0)) (little 8 (get_or x 1 0)) (bytes-little 8 (get_or x 0 0)) (bytes-little 8 (get_or x 1 0));
}

bytes_big : (n x : ℕ) → Bytes (big n x)
unfolding zeros
bytes_big zero x i = omega arith
bytes_big (suc n) x i = bytes-append (big n (x / 256)) (x % 256 ∷ []) (bytes_big n (x / 256)) (bytes_last 0 (x % 256) (omega arith)) i

pub big_block : (x : List ℕ) → IsBlock (big_of x)
unfolding big_of
big_block x = record {
  long = omega (arith, length-append (big 8 (get_or x 0 0)) (big 8 (get_or x 1 0)), length_big 8 (get_or x 0 0), length_big 8 (get_or x 1 0));
  bytes = bytes-append (big 8 (get_or x 0 0)) (big 8 (get_or x 1 0)) (bytes_big 8 (get_or x 0 0)) (bytes_big 8 (get_or x 1 0));
}
