-- The message pass in the parts that code computes it in, by whether one block or two remain: the ciphertext, and TE of a message
-- and of one that was undone. Assumes nothing.
use mathlib.Core.Path.{◌≡◌, ap, ap₂, subst, ◌∙◌}
use mathlib.Core.Bool.{Bool}
use mathlib.Core.List.{List, ◌++◌}
use Prim.Native.Nat.{ℕ, ◌*◌}
use native.Mathlib.Omega.{arith}
use lib.Dec.{ltb}
use lib.ListN.{length, drop}
use lib.Seq.{drop_at}
use Rattle.lists.specs.Xor.{xor}
use Rattle.mode.specs.Masks.{Masks, IsCipher, AreMasks}
use Rattle.mode.specs.Message.{pairs_of, even, rest, last_length, short, sum, base, final, pairs, ending, end_sum, l, r, body, checksum, te}
use Rattle.mode.specs.Undoing.{swapped, unending, undone_sum, unbody}
use Rattle.mode.proofs.Counts.{pairs-within}
use Rattle.mode.proofs.Pairs.{swapped_masks, length_pairs}
use Rattle.mode.proofs.Front.{sum_front}
use Rattle.mode.proofs.Ends.{Remains, length-unending, undone_sum_lem}
use Rattle.mode.proofs.Walk.{remains, length-unbody}

module _ (E : List ℕ → List ℕ) (k : Masks) where
  -- TE from its parts: b bytes that remain behind n pairs, the pairs' sum s, and what the end puts into the checksum
  abbrev pub te_of : Bool → ℕ → ℕ → List ℕ → List ℕ → List ℕ
  te_of t b n s x = E (xor (final k (ltb (last_length t b) 16) (base t (k.left n) (k.right n))) (xor s x))

  module _ (t : Bool) (m : List ℕ) (h : even (length m) ≡ t) where
    pub body_parts : body E k m
        ≡ pairs E k (pairs_of (length m)) m ++ ending E t (l E k m) (r E k m) (rest m)
    unfolding body
    body_parts =
        ap (λ (u : Bool). pairs E k (pairs_of (length m)) m ++ ending E u (l E k m) (r E k m) (rest m)) h

    pub te_parts : te E k m
        ≡ te_of t (length (rest m)) (pairs_of (length m)) (sum (pairs_of (length m)) m) (end_sum E t (l E k m) (rest m))
    unfolding te checksum short
    te_parts =
        ap
        (λ (u : Bool). te_of u (length (rest m)) (pairs_of (length m)) (sum (pairs_of (length m)) m) (end_sum E u (l E k m) (rest m)))
        h

module _ (E : List ℕ → List ℕ) (e : IsCipher E) (k : Masks) (s : AreMasks k) (t : Bool) (c : List ℕ) (h : even (length c) ≡ t) where
  n : ℕ
  n = pairs_of (length c)

  front : List ℕ
  front = pairs E (swapped k) n c

  end : List ℕ
  end = unending E t (k.left n) (k.right n) (rest c)

  front_long : length front ≡ 32 * n
  unfolding n front
  front_long = length_pairs E e (swapped k) (swapped_masks s) n c (pairs-within (length c))

  pub unbody_parts : unbody E k c
      ≡ pairs E (swapped k) (pairs_of (length c)) c ++ unending E t (l E k c) (r E k c) (rest c)
  unfolding unbody
  unbody_parts =
      ap (λ (u : Bool). pairs E (swapped k) (pairs_of (length c)) c ++ unending E u (l E k c) (r E k c) (rest c)) h

  -- what remains of it is the end undone
  pub rest_undone : drop (32 * pairs_of (length c)) (unbody E k c) ≡ unending E t (l E k c) (r E k c) (rest c)
  unfolding n front end
  rest_undone = ap (drop (32 * n)) unbody_parts ∙ drop_at front end (32 * n) front_long

  left_over : Remains t (rest c)
  left_over = subst (λ (u : Bool). Remains u (rest c)) h (remains c)

  pub te_undone : te E k (unbody E k c)
      ≡ te_of E k t (length (rest c)) (pairs_of (length c)) (sum (pairs_of (length c)) (pairs E (swapped k) (pairs_of (length c)) c))
      (undone_sum E t (l E k c) (r E k c) (rest c))
  unfolding n front end
  te_undone =
      te_parts E k t m (ap even long ∙ h)
      ∙ ap (λ (b : ℕ). te_of E k t (length (drop (32 * pairs_of b) m)) (pairs_of b) (sum (pairs_of b) m) (end_sum E t (k.left (pairs_of b)) (drop (32 * pairs_of b) m))) long
      ∙ ap₂ (λ (x y : List ℕ). te_of E k t (length x) n y (end_sum E t (k.left n) x)) rest_undone before
      ∙ ap₂ (λ (b : ℕ) (x : List ℕ). te_of E k t b n (sum n front) x)
      (length-unending E e (k.left n) (k.right n) (s.left n) (s.right n) t (rest c) left_over)
      (undone_sum_lem E e (k.left n) (k.right n) (s.left n) (s.right n) t (rest c) left_over)
    where
      m : List ℕ
      m = unbody E k c

      long : length m ≡ length c
      long = length-unbody E e k s c

      before : sum n m ≡ sum n front
      before = ap (sum n) unbody_parts ∙ sum_front n front end (omega (arith, front_long))
