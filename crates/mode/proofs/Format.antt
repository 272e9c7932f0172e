-- The nonce block: its 16 bytes; that it is what it was for nonces of 1 to 14 bytes; that no two pairs of a tag length and a nonce
-- share one; and that it is the paper's Format, bit for bit. Assumes nothing.
use mathlib.Core.Path.{◌≡◌, refl, sym, ap, ap₂, ◌∙◌}
use mathlib.Core.List.{List, [], ◌∷◌, ◌++◌, zip_with, append_assoc}
use Prim.Native.Nat.{ℕ, zero, suc, ◌+◌, ◌-◌, ◌*◌, ◌/◌, ◌%◌, ◌≤◌, ◌<◌}
use native.Mathlib.Nat.{zero-add, add-zero, le_of_suc-le-suc, not-suc-le-zero}
use native.Mathlib.Omega.{arith}
use lib.ListN.{length, get_or, drop, length-append, length-drop, replicate-append-replicate}
use lib.Seq.{drop-cons}
use Rattle.lists.specs.Zeros.{zeros}
use Rattle.lists.proofs.Zeros.{length-zeros}
use Rattle.mode.specs.Nonce.{tag_byte, nonce_part, format}

-- adding zeros changes nothing
pub zeros_plus : (m : ℕ) (r : List ℕ) → length r ≤ m → zip_with ◌+◌ (zeros m) r ≡ r
unfolding zeros zip_with
zeros_plus zero [] h = refl
zeros_plus zero (x ∷ r) h = absurd (not-suc-le-zero h)
zeros_plus (suc m) [] h = refl
zeros_plus (suc m) (x ∷ r) h = ap₂ ◌∷◌ (zero-add x) (zeros_plus m r (le_of_suc-le-suc h))

-- ---- the nonce part: 16 bytes, of which the first is 0 or 1
length-nonce_part : (n : List ℕ) → length n ≤ 15 → length (nonce_part n) ≡ 16
length-nonce_part n h = omega (arith, length-append (zeros (15 - length n)) (1 ∷ n), length-zeros (15 - length n))

first_bit : (j : ℕ) (n : List ℕ) → get_or (zeros j ++ (1 ∷ n)) 0 0 < 2
unfolding zeros
first_bit zero n = omega arith
first_bit (suc j) n = omega arith

-- ---- the sum: the tag byte, which is even, takes that one as its last bit, and the other bytes are the nonce part's
with_tag : (h : ℕ) (l : List ℕ) → length l ≡ 16 → zip_with ◌+◌ (h ∷ zeros 15) l ≡ (h + get_or l 0 0) ∷ drop 1 l
unfolding zip_with
with_tag h [] e = absurd (omega arith)
with_tag h (x ∷ l) e = ap (λ (r : List ℕ). (h + x) ∷ r) (zeros_plus 15 l (omega arith))

module _ (t : ℕ) (n : List ℕ) (most : length n ≤ 15) where
  pub by_parts : format t n ≡ (tag_byte t + get_or (nonce_part n) 0 0) ∷ drop 1 (nonce_part n)
  unfolding format
  by_parts = with_tag (tag_byte t) (nonce_part n) (length-nonce_part n most)

  pub length-format : length (format t n) ≡ 16
  length-format = ap length by_parts ∙ omega (arith, length-drop 1 (nonce_part n), length-nonce_part n most)

-- ---- what document 01 laid down for 1 to 14 bytes: the tag byte; zeros; 01; the nonce
abbrev pub format_was : ℕ → List ℕ → List ℕ
format_was t n = tag_byte t ∷ (zeros (14 - length n) ++ (1 ∷ n))

pub as_it_was : (t : ℕ) (n : List ℕ) → length n ≤ 14 → format t n ≡ format_was t n
unfolding zeros
as_it_was t n h =
    let behind : 15 - length n ≡ suc (14 - length n) = omega arith in
    by_parts t n (omega arith)
    ∙ ap (λ (j : ℕ). (tag_byte t + get_or (zeros j ++ (1 ∷ n)) 0 0) ∷ drop 1 (zeros j ++ (1 ∷ n))) behind
    ∙ ap (λ (b : ℕ). b ∷ (zeros (14 - length n) ++ (1 ∷ n))) (add-zero (tag_byte t))

-- ---- bytes: beyond its end a list has 0 for `get_or`
abbrev pub Bytes : List ℕ → Type 0
Bytes l = (i : ℕ) → get_or l i 0 < 256

marked_bytes : (j : ℕ) (n : List ℕ) → Bytes n → Bytes (zeros j ++ (1 ∷ n))
unfolding zeros
marked_bytes zero n h zero = omega arith
marked_bytes zero n h (suc i) = h i
marked_bytes (suc j) n h zero = omega arith
marked_bytes (suc j) n h (suc i) = marked_bytes j n h i

tail_bytes : (x : ℕ) (l : List ℕ) → x < 256 → Bytes l → Bytes (x ∷ drop 1 l)
tail_bytes x l hx h zero = hx
tail_bytes x [] hx h (suc i) = omega arith
tail_bytes x (y ∷ l) hx h (suc i) = h (suc i)

pub bytes-format : (t : ℕ) (n : List ℕ) → length n ≤ 15 → Bytes n → Bytes (format t n)
bytes-format t n most h i =
    rw (by_parts t n most)
    (tail_bytes (tag_byte t + get_or (nonce_part n) 0 0) (nonce_part n) (omega (arith, first_bit (15 - length n) n))
    (marked_bytes (15 - length n) n h) i)

-- ---- one nonce block, one tag length and one nonce: the first 1 behind the zeros shows where the nonce begins
same_nonce : (a b : ℕ) (n p : List ℕ) → zeros a ++ (1 ∷ n) ≡ zeros b ++ (1 ∷ p) → n ≡ p
unfolding zeros
same_nonce zero zero n p e = ap (drop 1) e
same_nonce zero (suc b) n p e = absurd (let z : ◌≡◌ {A = ℕ} 1 0 = ap (λ (l : List ℕ). get_or l 0 0) e in omega arith)
same_nonce (suc a) zero n p e = absurd (let z : ◌≡◌ {A = ℕ} 0 1 = ap (λ (l : List ℕ). get_or l 0 0) e in omega arith)
same_nonce (suc a) (suc b) n p e = same_nonce a b n p (ap (drop 1) e)

eighth : (t : ℕ) → 8 * t % 128 ≡ 8 * (t % 16)
eighth t = omega arith

module _ (t t' : ℕ) (n n' : List ℕ) (most : length n ≤ 15) (most' : length n' ≤ 15) (e : format t n ≡ format t' n') where
  parts : (tag_byte t + get_or (nonce_part n) 0 0) ∷ drop 1 (nonce_part n)
      ≡ (tag_byte t' + get_or (nonce_part n') 0 0) ∷ drop 1 (nonce_part n')
  parts = sym (by_parts t n most) ∙ e ∙ by_parts t' n' most'

  first : tag_byte t + get_or (nonce_part n) 0 0 ≡ tag_byte t' + get_or (nonce_part n') 0 0
  first = ap (λ (l : List ℕ). get_or l 0 0) parts

  same_first : get_or (nonce_part n) 0 0 ≡ get_or (nonce_part n') 0 0
  same_first = omega (arith, first, first_bit (15 - length n) n, first_bit (15 - length n') n')

  pub same_parts : (t % 16 ≡ t' % 16) × (n ≡ n')
  same_parts = (
    omega (arith, first, same_first, eighth t, eighth t'),
    same_nonce (15 - length n) (15 - length n') n n'
        (drop-cons (nonce_part n) 0 0 (omega (arith, length-nonce_part n most))
        ∙ ap₂ ◌∷◌ same_first (ap (drop 1) parts)
        ∙ sym (drop-cons (nonce_part n') 0 0 (omega (arith, length-nonce_part n' most')))),
  )

pub format_injective : (t t' : ℕ) (n n' : List ℕ) → (4 ≤ t) × (t ≤ 16) → (4 ≤ t') × (t' ≤ 16) → length n ≤ 15 → length n' ≤ 15
    → format t n ≡ format t' n' → (t ≡ t') × (n ≡ n')
format_injective t t' n n' h h' most most' e =
    let p = same_parts t t' n n' most most' e in
    (omega (arith, p.0, h.0, h.1, h'.0, h'.1), p.1)

-- ---- in the paper's bits (source document 000, section 1.3): n2s(x, l) is x in l bits, the most significant first
unfoldable pub n2s : ℕ → ℕ → List ℕ
n2s x zero = []
n2s x (suc l) = n2s (x / 2) l ++ (x % 2 ∷ [])

-- the paper's own example
pub n2s_example : n2s 11 5 ≡ 0 ∷ 1 ∷ 0 ∷ 1 ∷ 1 ∷ []
unfolding n2s
n2s_example = refl

-- a string of bytes, bit by bit
unfoldable pub bits : List ℕ → List ℕ
bits [] = []
bits (x ∷ l) = n2s x 8 ++ bits l

more_zeros : (a b c : ℕ) (l : List ℕ) → a + b ≡ c → zeros a ++ (zeros b ++ l) ≡ zeros c ++ l
unfolding zeros
more_zeros a b c l e = sym (append_assoc (zeros a) (zeros b) l) ∙ ap (λ (z : List ℕ). z ++ l) (replicate-append-replicate a b 0 ∙ ap zeros e)

-- behind j bytes of zeros: their bits, seven bits more, and the 1
marked_bits : (j : ℕ) (n : List ℕ) → bits (zeros j ++ (1 ∷ n)) ≡ zeros (8 * j + 7) ++ (1 ∷ bits n)
unfolding zeros bits n2s
marked_bits zero n = refl
marked_bits (suc j) n =
    ap (λ (l : List ℕ). zeros 8 ++ l) (marked_bits j n) ∙ more_zeros 8 (8 * j + 7) (8 * suc j + 7) (1 ∷ bits n) (omega arith)

-- the same from the last bit of byte 0 on
from_last_bit : (j : ℕ) (n : List ℕ)
    → get_or (zeros j ++ (1 ∷ n)) 0 0 ∷ bits (drop 1 (zeros j ++ (1 ∷ n))) ≡ zeros (8 * j) ++ (1 ∷ bits n)
unfolding zeros
from_last_bit zero n = refl
from_last_bit (suc j) n =
    ap (λ (l : List ℕ). 0 ∷ l) (marked_bits j n) ∙ more_zeros 1 (8 * j + 7) (8 * suc j) (1 ∷ bits n) (omega arith)

-- Format(τ, N), for τ of 8t bits: n2s(τ mod 128, 7) ∥ 0^(128 − 8 − |N|) ∥ 1 ∥ N
pub is_format : (t : ℕ) (n : List ℕ) → length n ≤ 15
    → bits (format t n) ≡ n2s (8 * t % 128) 7 ++ (zeros (128 - 8 - 8 * length n) ++ (1 ∷ bits n))
unfolding bits n2s
is_format t n most =
    let y = 8 * t % 128 in
    let x = get_or (nonce_part n) 0 0 in
    let halved : (2 * y + x) / 2 ≡ y = omega (arith, first_bit (15 - length n) n) in
    let last : (2 * y + x) % 2 ≡ x = omega (arith, first_bit (15 - length n) n) in
    let gap : 8 * (15 - length n) ≡ 128 - 8 - 8 * length n = omega arith in
    ap bits (by_parts t n most)
    ∙ ap₂ (λ (h b : ℕ). n2s h 7 ++ (b ∷ []) ++ bits (drop 1 (nonce_part n))) halved last
    ∙ append_assoc (n2s y 7) (x ∷ []) (bits (drop 1 (nonce_part n)))
    ∙ ap (λ (l : List ℕ). n2s y 7 ++ l) (from_last_bit (15 - length n) n)
    ∙ ap (λ (i : ℕ). n2s y 7 ++ (zeros i ++ (1 ∷ bits n))) gap
