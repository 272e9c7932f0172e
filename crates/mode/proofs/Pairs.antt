-- The pairs: their length, and that the same step with its masks exchanged undoes them. Assumes nothing.
use mathlib.Core.Path.{◌≡◌, refl, sym, ap, ap₂, ◌∙◌}
use mathlib.Core.List.{List, ◌++◌, append_assoc}
use Prim.Native.Nat.{ℕ, zero, suc, ◌+◌, ◌*◌, ◌≤◌}
use native.Mathlib.Numerals.{add-one}
use native.Mathlib.Omega.{arith}
use lib.ListN.{length, take, drop, length-append, length-drop}
use lib.Seq.{length-take-le, take_at, drop_at, take-add, drop-drop}
use Rattle.lists.specs.Xor.{xor}
use Rattle.lists.proofs.Xor.{length-xor, xor_cancel}
use Rattle.mode.specs.Masks.{Masks, IsCipher, AreMasks}
use Rattle.mode.specs.Message.{block, half, pair, pairs}
use Rattle.mode.specs.Undoing.{swapped}

pub length-block : (m : List ℕ) (i : ℕ) → i + 16 ≤ length m → length (block m i) ≡ 16
length-block m i h = length-take-le 16 (drop i m) (omega (arith, length-drop i m))

-- exchanged masks are masks
pub swapped_masks : {k : Masks} → AreMasks k → AreMasks (swapped k)
swapped_masks s = record { left = s.right; right = s.left; if_short = s.if_short; if_full = s.if_full }

-- ---- half a pair, E(l ⊕ x) ⊕ y
module _ (E : List ℕ → List ℕ) (e : IsCipher E) (l x : List ℕ) (hl : length l ≡ 16) (hx : length x ≡ 16) where
  pub length_inner : length (E (xor l x)) ≡ 16
  length_inner = e (xor l x) (omega (arith, length-xor l x))

  pub length-half : (y : List ℕ) → length y ≤ 16 → length (half E l x y) ≡ length y
  length-half y h = omega (arith, length-xor y (E (xor l x)), length_inner)

  -- done twice it is undone
  pub half-half : (y : List ℕ) → length y ≤ 16 → half E l x (half E l x y) ≡ y
  half-half y h = xor_cancel y (E (xor l x)) (omega (arith, length_inner))

-- ---- one pair, p and q with the masks l and r
module _
    (E : List ℕ → List ℕ)
    (e : IsCipher E)
    (l r p q : List ℕ)
    (hl : length l ≡ 16)
    (hr : length r ≡ 16)
    (hp : length p ≡ 16)
    (hq : length q ≡ 16) where
  c1 : List ℕ
  c1 = half E l p q

  c2 : List ℕ
  c2 = half E r c1 p

  length_c1 : length c1 ≡ 16
  unfolding c1
  length_c1 = length-half E e l p hl hp q (omega arith) ∙ hq

  length_c2 : length c2 ≡ 16
  unfolding c2
  length_c2 = length-half E e r c1 hr length_c1 p (omega arith) ∙ hp

  pub length-pair : length (pair E l r p q) ≡ 32
  unfolding c1 c2
  length-pair = omega (arith, length-append c1 c2, length_c1, length_c2)

  pub first_of_pair : (t : List ℕ) → take 16 (pair E l r p q ++ t) ≡ half E l p q
  unfolding c1 c2
  first_of_pair t = ap (take 16) (append_assoc c1 c2 t) ∙ take_at c1 (c2 ++ t) 16 length_c1

  pub second_of_pair : (t : List ℕ) → take 16 (drop 16 (pair E l r p q ++ t)) ≡ half E r (half E l p q) p
  unfolding c1 c2
  second_of_pair t =
      ap (λ (x : List ℕ). take 16 (drop 16 x)) (append_assoc c1 c2 t)
      ∙ ap (take 16) (drop_at c1 (c2 ++ t) 16 length_c1)
      ∙ take_at c2 t 16 length_c2

  pub pair_undone : pair E r l (half E l p q) (half E r (half E l p q) p) ≡ p ++ q
  unfolding c1 c2
  pair_undone =
      let back_p : half E r c1 c2 ≡ p = half-half E e r c1 hr length_c1 p (omega arith) in
      let back_q : half E l p c1 ≡ q = half-half E e l p hl hp q (omega arith) in
      ap₂ ◌++◌ back_p (ap (λ (x : List ℕ). half E l x c1) back_p ∙ back_q)

-- ---- n pairs
module _ (E : List ℕ → List ℕ) (e : IsCipher E) (k : Masks) (s : AreMasks k) where
  -- pair n of a string
  abbrev pub here : ℕ → List ℕ → List ℕ
  here n m = pair E (k.left n) (k.right n) (block m (32 * n)) (block m (32 * n + 16))

  pub pairs_step : (n : ℕ) (m : List ℕ) → pairs E k n m ++ here n m ≡ pairs E k (n + 1) m
  unfolding pairs
  pairs_step n m = sym (ap (λ (j : ℕ). pairs E k j m) (add-one n))

  pub length_here : (n : ℕ) (m : List ℕ) → 32 * n + 32 ≤ length m → length (here n m) ≡ 32
  length_here n m h =
      length-pair E e (k.left n) (k.right n) (block m (32 * n)) (block m (32 * n + 16)) (s.left n) (s.right n)
      (length-block m (32 * n) (omega arith)) (length-block m (32 * n + 16) (omega arith))

  pub length_pairs : (n : ℕ) (m : List ℕ) → 32 * n ≤ length m → length (pairs E k n m) ≡ 32 * n
  unfolding pairs
  length_pairs zero m h = refl
  length_pairs (suc n) m h =
      omega (arith, length-append (pairs E k n m) (here n m), length_pairs n m (omega arith), length_here n m (omega arith))

  -- two blocks more of a string
  next_32 : (n : ℕ) (m : List ℕ) → take (32 * n) m ++ (block m (32 * n) ++ block m (32 * n + 16)) ≡ take (32 * suc n) m
  next_32 n m =
      let all : 32 * n + (16 + 16) ≡ 32 * suc n = omega arith in
      ap (λ (l : List ℕ). take (32 * n) m ++ (block m (32 * n) ++ take 16 l)) (sym (drop-drop 16 (32 * n) m))
      ∙ ap (λ (l : List ℕ). take (32 * n) m ++ l) (sym (take-add 16 16 (drop (32 * n) m)))
      ∙ sym (take-add (32 * n) (16 + 16) m)
      ∙ ap (λ (j : ℕ). take j m) all

  pub pairs_undone : (n : ℕ) (m t : List ℕ) → 32 * n ≤ length m → pairs E (swapped k) n (pairs E k n m ++ t) ≡ take (32 * n) m
  unfolding pairs
  pairs_undone zero m t h = refl
  pairs_undone (suc n) m t h =
      ap (pairs E (swapped k) (suc n)) (append_assoc (pairs E k n m) (here n m) t)
      ∙ ap₂ ◌++◌ (pairs_undone n m (here n m ++ t) (omega arith))
      (ap₂ (pair E (k.right n) (k.left n)) block_1 block_2
      ∙ pair_undone E e (k.left n) (k.right n) p q (s.left n) (s.right n) hp hq)
      ∙ next_32 n m
    where
      p : List ℕ
      p = block m (32 * n)

      q : List ℕ
      q = block m (32 * n + 16)

      hp : length p ≡ 16
      hp = length-block m (32 * n) (omega arith)

      hq : length q ≡ 16
      hq = length-block m (32 * n + 16) (omega arith)

      behind : drop (32 * n) (pairs E k n m ++ (here n m ++ t)) ≡ here n m ++ t
      behind = drop_at (pairs E k n m) (here n m ++ t) (32 * n) (length_pairs n m (omega arith))

      block_1 : block (pairs E k n m ++ (here n m ++ t)) (32 * n) ≡ half E (k.left n) p q
      block_1 = ap (take 16) behind ∙ first_of_pair E e (k.left n) (k.right n) p q (s.left n) (s.right n) hp hq t

      block_2 : block (pairs E k n m ++ (here n m ++ t)) (32 * n + 16) ≡ half E (k.right n) (half E (k.left n) p q) p
      block_2 =
          ap (take 16) (sym (drop-drop 16 (32 * n) (pairs E k n m ++ (here n m ++ t))) ∙ ap (drop 16) behind)
          ∙ second_of_pair E e (k.left n) (k.right n) p q (s.left n) (s.right n) hp hq t
