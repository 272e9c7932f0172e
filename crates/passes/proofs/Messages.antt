-- The message pass as the code puts it together, over any cipher and any masks, with the number of pairs n and the masks L and R that it
-- has computed. Assumes nothing.
use mathlib.Core.Path.{◌≡◌, refl, sym, ap, ap₂, subst, ◌∙◌}
use mathlib.Core.Bool.{Bool}
use mathlib.Core.List.{List, ◌++◌}
use Prim.Native.Nat.{ℕ, ◌+◌, ◌-◌, ◌*◌, ◌/◌, ◌≤◌}
use native.Mathlib.Omega.{arith}
use lib.Dec.{ltb}
use lib.ListN.{length, drop, length-drop}
use Rattle.lists.specs.Lay.{lay}
use Rattle.lists.specs.Xor.{xor}
use Rattle.lists.proofs.Laid.{lay-lay}
use Rattle.mode.specs.Masks.{Masks, IsCipher, AreMasks}
use Rattle.mode.specs.Message.{pairs_of, even, rest, last_length, sum, base, final, pairs, ending, end_sum, l, r, body, te}
use Rattle.mode.specs.Message.{pairs_inputs, ending_inputs}
use Rattle.mode.specs.Undoing.{swapped, unending, unending_inputs, undone_sum, unbody}
use Rattle.mode.proofs.Counts.{pairs_are, pairs-within, even_is, even_left}
use Rattle.mode.proofs.Pairs.{swapped_masks, length_pairs}
use Rattle.mode.proofs.Ends.{Remains, length-ending, length-unending}
use Rattle.mode.proofs.Runs.{length-pairs_inputs, length-ending_inputs, length-unending_inputs}
use Rattle.mode.proofs.Walk.{remains}
use Rattle.mode.proofs.Front.{sum_front}
use Rattle.mode.proofs.Parts.{te_of, body_parts, te_parts, unbody_parts, te_undone}

-- ---- how often the cipher runs
module _ (m : List ℕ) (n : ℕ) (hn : n ≡ pairs_of (length m)) where
  -- one block or two remain behind the pairs
  remains_behind : Remains (ltb (32 * n + 16) (length m)) (drop (32 * n) m)
  remains_behind =
      subst (λ (i : ℕ). Remains (ltb (32 * i + 16) (length m)) (drop (32 * i) m)) (sym hn)
      (subst (λ (t : Bool). Remains t (rest m)) (even_is (length m)) (remains m))

  -- twice a pair, once for each block behind them, and once for TE
  all_runs : (p e t : ℕ) → p ≡ 2 * n → e ≡ (length (drop (32 * n) m) + 15) / 16 → t ≡ 1 → p + e + t ≡ (length m + 15) / 16 + 1
  all_runs p e t hp he ht = omega (arith, hn, hp, he, ht, length-drop (32 * n) m, pairs_are (length m))

  module _ (E : List ℕ → List ℕ) (k : Masks) (L R : List ℕ) (p e t : ℕ) (hp : p ≡ length (pairs_inputs E k n m)) (ht : t ≡ 1) where
    pub sealed_runs : e ≡ length (ending_inputs E (ltb (32 * n + 16) (length m)) L R (drop (32 * n) m))
        → p + e + t ≡ (length m + 15) / 16 + 1
    sealed_runs he =
        all_runs p e t (hp ∙ length-pairs_inputs E k n m)
        (he ∙ length-ending_inputs E (ltb (32 * n + 16) (length m)) L R (drop (32 * n) m) remains_behind) ht

    pub undone_runs : e ≡ length (unending_inputs E (ltb (32 * n + 16) (length m)) L R (drop (32 * n) m))
        → p + e + t ≡ (length m + 15) / 16 + 1
    undone_runs he =
        all_runs p e t (hp ∙ length-pairs_inputs E k n m)
        (he ∙ length-unending_inputs E (ltb (32 * n + 16) (length m)) L R (drop (32 * n) m) remains_behind) ht

-- ---- what is written
-- an end laid directly behind the pairs
behind : (p x out : List ℕ) (n : ℕ) → length p ≡ 32 * n → 32 * n + length x ≤ length out → lay (32 * n) x (lay 0 p out) ≡ lay 0 (p ++ x) out
behind p x out n h fits =
    let place : 32 * n ≡ 0 + length p = omega arith in
    ap (λ (i : ℕ). lay i x (lay 0 p out)) place ∙ lay-lay 0 p x out (omega arith)

module _ (E : List ℕ → List ℕ) (e : IsCipher E) (k : Masks) (s : AreMasks k) (m out : List ℕ) (n : ℕ) (L R : List ℕ)
    (hn : n ≡ pairs_of (length m))
    (h_l : L ≡ k.left n)
    (h_r : R ≡ k.right n)
    (fits : length m ≤ length out) where
  -- the computed ones are those of the definition
  hl : L ≡ l E k m
  hl = h_l ∙ ap k.left hn

  hr : R ≡ r E k m
  hr = h_r ∙ ap k.right hn

  two : ltb (32 * n + 16) (length m) ≡ even (length m)
  two = ap (λ (i : ℕ). ltb (32 * i + 16) (length m)) hn ∙ sym (even_is (length m))

  left : length m - 32 * n ≡ length (rest m)
  left = ap (λ (i : ℕ). length m - 32 * i) hn ∙ sym (length-drop (32 * pairs_of (length m)) m)

  two_left : ltb 16 (length m - 32 * n) ≡ even (length m)
  two_left = ap (λ (i : ℕ). ltb 16 (length m - 32 * i)) hn ∙ sym (even_left (length m))

  -- what is laid with n, t, a and b in the places of the definition's own
  laid : (Bool → List ℕ → List ℕ → List ℕ → List ℕ) → Masks → ℕ → Bool → List ℕ → List ℕ → List ℕ
  laid f j i t a b = lay (32 * i) (f t a b (drop (32 * i) m)) (lay 0 (pairs E j i m) out)

  -- the pairs of masks j, and an end f behind them that is as long as what remains
  all_laid : (f : Bool → List ℕ → List ℕ → List ℕ → List ℕ) (j : Masks) → AreMasks j
      → length (f (even (length m)) (l E k m) (r E k m) (rest m)) ≡ length (rest m)
      → laid f j n (ltb (32 * n + 16) (length m)) L R
      ≡ lay 0 (pairs E j (pairs_of (length m)) m ++ f (even (length m)) (l E k m) (r E k m) (rest m)) out
  unfolding laid
  all_laid f j sj long =
      ap (λ (t : Bool). laid f j n t L R) two
      ∙ ap₂ (laid f j n (even (length m))) hl hr
      ∙ ap (λ (i : ℕ). laid f j i (even (length m)) (l E k m) (r E k m)) hn
      ∙ behind (pairs E j (pairs_of (length m)) m) (f (even (length m)) (l E k m) (r E k m) (rest m)) out (pairs_of (length m))
      (length_pairs E e j sj (pairs_of (length m)) m (pairs-within (length m)))
      (omega (arith, long, length-drop (32 * pairs_of (length m)) m, pairs-within (length m)))

  pub sealed_laid : (now next : List ℕ) → now ≡ lay 0 (pairs E k n m) out
      → next ≡ lay (32 * n) (ending E (ltb (32 * n + 16) (length m)) L R (drop (32 * n) m)) now → next ≡ lay 0 (body E k m) out
  unfolding laid
  sealed_laid now next held is =
      is
      ∙ ap (lay (32 * n) (ending E (ltb (32 * n + 16) (length m)) L R (drop (32 * n) m))) held
      ∙ all_laid (ending E) k s
      (length-ending E e (l E k m) (r E k m) (s.left (pairs_of (length m))) (s.right (pairs_of (length m)))
      (even (length m)) (rest m) (remains m))
      ∙ ap (λ (x : List ℕ). lay 0 x out) (sym (body_parts E k (even (length m)) m refl))

  pub undone_laid : (now next : List ℕ) → now ≡ lay 0 (pairs E (swapped k) n m) out
      → next ≡ lay (32 * n) (unending E (ltb (32 * n + 16) (length m)) L R (drop (32 * n) m)) now → next ≡ lay 0 (unbody E k m) out
  unfolding laid
  undone_laid now next held is =
      is
      ∙ ap (lay (32 * n) (unending E (ltb (32 * n + 16) (length m)) L R (drop (32 * n) m))) held
      ∙ all_laid (unending E) (swapped k) (swapped_masks s)
      (length-unending E e (l E k m) (r E k m) (s.left (pairs_of (length m))) (s.right (pairs_of (length m)))
      (even (length m)) (rest m) (remains m))
      ∙ ap (λ (x : List ℕ). lay 0 x out) (sym (unbody_parts E e k s (even (length m)) m refl))

  -- the final mask, and TE of a sum S and an end X
  abbrev mask : List ℕ
  mask = final k (ltb (last_length (ltb 16 (length m - 32 * n)) (length m - 32 * n)) 16) (base (ltb 16 (length m - 32 * n)) L R)

  te_with : (S X : List ℕ) → E (xor mask (xor S X)) ≡ te_of E k (even (length m)) (length (rest m)) (pairs_of (length m)) S X
  te_with S X =
      ap₂ (λ (t : Bool) (d : ℕ). E (xor (final k (ltb (last_length t d) 16) (base t L R)) (xor S X))) two_left left
      ∙ ap₂
      (λ (a b : List ℕ). E (xor (final k (ltb (last_length (even (length m)) (length (rest m))) 16) (base (even (length m)) a b)) (xor S X)))
      hl hr

  pub te-sealed : (S X x T : List ℕ) → S ≡ sum n m → X ≡ end_sum E (ltb (32 * n + 16) (length m)) L (drop (32 * n) m)
      → x ≡ xor S X
      → T ≡ E (xor mask x)
      → T ≡ te E k m
  te-sealed S X x T h_s h_x hx is =
      is
      ∙ ap (λ (y : List ℕ). E (xor mask y)) hx
      ∙ te_with S X
      ∙ ap₂ (te_of E k (even (length m)) (length (rest m)) (pairs_of (length m))) (h_s ∙ ap (λ (i : ℕ). sum i m) hn)
      (h_x
      ∙ ap₂ (λ (t : Bool) (a : List ℕ). end_sum E t a (drop (32 * n) m)) two hl
      ∙ ap (λ (i : ℕ). end_sum E (even (length m)) (l E k m) (drop (32 * i) m)) hn)
      ∙ sym (te_parts E k (even (length m)) m refl)

  pub te-opened : (S X x T : List ℕ) → S ≡ sum n (lay 0 (pairs E (swapped k) n m) out)
      → X ≡ undone_sum E (ltb (32 * n + 16) (length m)) L R (drop (32 * n) m)
      → x ≡ xor S X
      → T ≡ E (xor mask x)
      → T ≡ te E k (unbody E k m)
  te-opened S X x T h_s h_x hx is =
      is
      ∙ ap (λ (y : List ℕ). E (xor mask y)) hx
      ∙ te_with S X
      ∙ ap₂ (te_of E k (even (length m)) (length (rest m)) (pairs_of (length m)))
      (h_s
      ∙ ap (λ (i : ℕ). sum i (lay 0 (pairs E (swapped k) i m) out)) hn
      ∙ sum_front (pairs_of (length m)) (pairs E (swapped k) (pairs_of (length m)) m)
      (drop (0 + length (pairs E (swapped k) (pairs_of (length m)) m)) out)
      (omega (arith, length_pairs E e (swapped k) (swapped_masks s) (pairs_of (length m)) m (pairs-within (length m)))))
      (h_x
      ∙ ap (λ (t : Bool). undone_sum E t L R (drop (32 * n) m)) two
      ∙ ap₂ (λ (a b : List ℕ). undone_sum E (even (length m)) a b (drop (32 * n) m)) hl hr
      ∙ ap (λ (i : ℕ). undone_sum E (even (length m)) (l E k m) (r E k m) (drop (32 * i) m)) hn)
      ∙ sym (te_undone E e k s (even (length m)) m refl)
