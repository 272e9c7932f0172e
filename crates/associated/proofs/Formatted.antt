-- The nonce block as the code puts it together: the tag byte before zeros, 1 added to byte 15 − k, and the nonce written behind that.
-- Assumes nothing.
use mathlib.Core.Path.{◌≡◌, refl, sym, ap, ap₂, ◌∙◌}
use mathlib.Core.List.{List, [], ◌∷◌, ◌++◌, zip_with, append-nil}
use Prim.Native.Nat.{ℕ, zero, suc, ◌+◌, ◌-◌, ◌≤◌, ◌<◌}
use native.Mathlib.Nat.{add-zero}
use native.Mathlib.Omega.{arith}
use native.Mathlib.Numerals.{add-one}
use borrow.Rule.Slice.PartMut.{put_mid}
use lib.ListN.{length, get_or, set, take, drop, length-set, length-drop, drop_of_length-le}
use Rattle.lists.specs.Zeros.{zeros}
use Rattle.lists.proofs.Zeros.{length-zeros}
use Rattle.mode.specs.Nonce.{tag_byte, tag_part, format}
use Rattle.mode.proofs.Format.{zeros_plus}

-- the tag byte stored into zeros
tag_stored : (t : ℕ) (b : List ℕ) → b ≡ zeros 16 → set b 0 (tag_byte t) ≡ tag_part t
unfolding zeros
tag_stored t b e = ap (λ (l : List ℕ). set l 0 (tag_byte t)) e

-- 1 more than any byte of that is still a byte
zero_at : (m j : ℕ) → get_or (zeros m) j 0 ≡ 0
unfolding zeros
zero_at zero j = refl
zero_at (suc m) zero = refl
zero_at (suc m) (suc j) = zero_at m j

one_more : (t j : ℕ) → get_or (tag_part t) j 0 + 1 < 256
one_more t zero = omega arith
one_more t (suc j) = omega (arith, zero_at 15 j)

pub one_more_fits : (t j : ℕ) (b : List ℕ) → b ≡ zeros 16 → get_or (set b 0 (tag_byte t)) j 0 + 1 < 256
one_more_fits t j b e = rw (tag_stored t b e) (one_more t j)

-- 1 added to byte j of h and zeros, and n behind that
added : (j m h : ℕ) (n : List ℕ) → j + length n ≡ m
    → take (suc j) (set (h ∷ zeros m) j (get_or (h ∷ zeros m) j 0 + 1)) ++ n ≡ zip_with ◌+◌ (h ∷ zeros m) (zeros j ++ (1 ∷ n))
unfolding zeros zip_with
added zero m h n e = ap (λ (l : List ℕ). (h + 1) ∷ l) (sym (zeros_plus m n (omega arith)))
added (suc j) zero h n e = absurd (omega arith)
added (suc j) (suc m) h n e = ap₂ ◌∷◌ (sym (add-zero h)) (added j m 0 n (omega arith))

-- what is written from place i to the end
put_end : (i k : ℕ) (out new : List ℕ) → length out ≤ i + k → put_mid i k out new ≡ take i out ++ new
put_end i k out new h =
    let none : drop k (drop i out) ≡ [] = drop_of_length-le (drop i out) {i = k} (omega (arith, length-drop i out)) in
    ap (λ (l : List ℕ). take i out ++ (new ++ l)) none ∙ ap (λ (l : List ℕ). take i out ++ l) (append-nil new)

-- 1 added to byte j
abbrev pub marked : ℕ → List ℕ → List ℕ
marked j l = set l j (get_or l j 0 + 1)

-- what the code puts together, from zeros b
pub formatted : (t : ℕ) (n b : List ℕ) → length n ≤ 15 → b ≡ zeros 16
    → put_mid (15 - length n + 1) (16 - (15 - length n + 1)) (marked (15 - length n) (set b 0 (tag_byte t))) n ≡ format t n
unfolding format
formatted t n b most e =
    let j = 15 - length n in
    ap (λ (l : List ℕ). put_mid (j + 1) (16 - (j + 1)) (marked j l) n) (tag_stored t b e)
    ∙ put_end (j + 1) (16 - (j + 1)) (marked j (tag_part t)) n
    (omega (arith, length-set (tag_part t) j (get_or (tag_part t) j 0 + 1), length-zeros 15))
    ∙ ap (λ (i : ℕ). take i (marked j (tag_part t)) ++ n) (add-one j)
    ∙ added j 15 (tag_byte t) n (omega arith)
