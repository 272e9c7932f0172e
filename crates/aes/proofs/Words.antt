-- The words of an expanded key: how long they are, what each is made from, and one more. Assumes nothing.
use mathlib.Core.Path.{◌≡◌, refl, sym, ap, ap₂, ◌∙◌}
use mathlib.Core.Bool.{Bool, true, false}
use mathlib.Core.List.{List, ◌++◌}
use Prim.Native.Nat.{ℕ, zero, suc, ◌+◌, ◌-◌, ◌*◌, ◌/◌, ◌%◌, ◌≤◌, ◌<◌}
use native.Mathlib.Numerals.{add-one}
use native.Mathlib.Omega.{arith}
use lib.Dec.{eqb, ltb}
use lib.ListN.{length, get_or, drop, length-append, get_or-append}
use Rattle.lists.specs.Xor.{xor}
use Rattle.lists.specs.Lay.{lay}
use Rattle.lists.proofs.Xor.{length-xor}
use Rattle.lists.proofs.Laid.{lay-lay}
use Rattle.lists.proofs.Four.{four}
use Rattle.aes.specs.State.{word}
use Rattle.aes.specs.Expansion.{sub_word, rot_word, rcon, if, temp, next, words}

-- ---- four bytes to a word
length_if : (t : Bool) (a b : List ℕ) → length a ≡ 4 → length b ≡ 4 → length (if t a b) ≡ 4
length_if true a b ha hb = ha
length_if false a b ha hb = hb

length-temp : (nk i : ℕ) (a : List ℕ) → length a ≡ 4 → length (temp nk i a) ≡ 4
unfolding temp
length-temp nk i a h =
    length_if (eqb (i % nk) 0) (xor (sub_word (rot_word a)) (rcon (i / nk))) (if (ltb 6 nk) (if (eqb (i % nk) 4) (sub_word a) a) a)
    (length-xor (sub_word (rot_word a)) (rcon (i / nk)))
    (length_if (ltb 6 nk) (if (eqb (i % nk) 4) (sub_word a) a) a (length_if (eqb (i % nk) 4) (sub_word a) a refl h) h)

pub length_next : (nk i : ℕ) (w : List ℕ) → length (next nk i w) ≡ 4
unfolding next
length_next nk i w =
    omega (arith, length-xor (word w (i - nk)) (temp nk i (word w (i - 1))), length-temp nk i (word w (i - 1)) refl)

pub length-words : (nk : ℕ) (key : List ℕ) (n : ℕ) → length key ≡ 4 * nk → length (words nk key n) ≡ 4 * (nk + n)
unfolding words
length-words nk key zero h = omega arith
length-words nk key (suc n) h =
    omega (
      arith,
      length-append (words nk key n) (next nk (nk + n) (words nk key n)),
      length-words nk key n h,
      length_next nk (nk + n) (words nk key n),
    )

-- ---- a word is read in the front part that holds it
pub word_front : (a b : List ℕ) (i : ℕ) → 4 * i + 4 ≤ length a → word (a ++ b) i ≡ word a i
word_front a b i h = four (byte 0 (omega arith)) (byte 1 (omega arith)) (byte 2 (omega arith)) (byte 3 (omega arith))
  where
    byte : (r : ℕ) → 4 * i + r < length a → get_or (a ++ b) (4 * i + r) 0 ≡ get_or a (4 * i + r) 0
    byte r l = get_or-append a b 0 (4 * i + r) l

pub next_front : (nk i : ℕ) (a b : List ℕ) → 1 ≤ nk → nk ≤ i → 4 * i ≤ length a → next nk i (a ++ b) ≡ next nk i a
unfolding next
next_front nk i a b h l e =
    ap₂ xor (word_front a b (i - nk) (omega arith)) (ap (temp nk i) (word_front a b (i - 1) (omega arith)))

-- ---- one word more: the loop's own step
pub words_step : (nk : ℕ) (key : List ℕ) (n : ℕ) → words nk key n ++ next nk (nk + n) (words nk key n) ≡ words nk key (n + 1)
unfolding words
words_step nk key n = sym (ap (words nk key) (add-one n))

module _ (nk k : ℕ) (key out : List ℕ) (own : length key ≡ 4 * nk) (least : 1 ≤ nk) (fits : 4 * (nk + k) + 4 ≤ length out) where
  so_far : List ℕ
  so_far = words nk key k

  so_long : length so_far ≡ 4 * (nk + k)
  unfolding so_far
  so_long = length-words nk key k own

  pub fill_step : lay (4 * (nk + k)) (next nk (nk + k) (lay 0 (words nk key k) out)) (lay 0 (words nk key k) out) ≡ lay 0 (words nk key (k + 1)) out
  unfolding so_far
  fill_step =
      ap₂ (λ (i : ℕ) (a : List ℕ). lay i a (lay 0 so_far out)) place word_is
      ∙ lay-lay 0 so_far (next nk (nk + k) so_far) out (omega (arith, so_long, length_next nk (nk + k) so_far))
      ∙ ap (λ (l : List ℕ). lay 0 l out) (words_step nk key k)
    where
      place : 4 * (nk + k) ≡ 0 + length so_far
      place = omega (arith, so_long)

      word_is : next nk (nk + k) (lay 0 so_far out) ≡ next nk (nk + k) so_far
      word_is = next_front nk (nk + k) so_far (drop (0 + length so_far) out) least (omega arith) (omega (arith, so_long))
