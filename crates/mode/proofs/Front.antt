-- Sums and pairs read the front of a string alone: what follows the pairs that are counted does not matter. Assumes nothing.
use mathlib.Core.Path.{◌≡◌, refl, sym, ap, ap₂, ◌∙◌}
use mathlib.Core.List.{List, ◌++◌}
use Prim.Native.Nat.{ℕ, zero, suc, ◌+◌, ◌*◌, ◌≤◌, ◌<◌}
use native.Mathlib.Omega.{arith}
use lib.ListN.{length, take, drop, length-drop}
use lib.Seq.{take-append-le, drop-append-le}
use Rattle.lists.specs.Xor.{xor}
use Rattle.mode.specs.Masks.{Masks}
use Rattle.mode.specs.Message.{block, sum, pair, pair_inputs, pairs, pairs_inputs}

block_front : (a b : List ℕ) (i : ℕ) → i + 16 ≤ length a → block (a ++ b) i ≡ block a i
block_front a b i h =
    ap (take 16) (drop-append-le i a b (omega arith)) ∙ take-append-le 16 (drop i a) b (omega (arith, length-drop i a))

pub sum_front : (n : ℕ) (a b : List ℕ) → 32 * n ≤ length a → sum n (a ++ b) ≡ sum n a
unfolding sum
sum_front zero a b h = refl
sum_front (suc n) a b h = ap₂ xor (sum_front n a b (omega arith)) (block_front a b (32 * n + 16) (omega arith))

-- lists that grow at their end by the same steps are the same
module _ {A : Type 0} (f h g : ℕ → List A) (grows : (i : ℕ) → f (suc i) ≡ f i ++ g i) where
  grown_same : f zero ≡ h zero → (n : ℕ) → ((i : ℕ) → i < n → h (suc i) ≡ h i ++ g i) → f n ≡ h n
  grown_same first zero alike = first
  grown_same first (suc n) alike =
      grows n ∙ ap (λ (x : List A). x ++ g n) (grown_same first n (λ i b. alike i (omega arith))) ∙ sym (alike n (omega arith))

module _ (E : List ℕ → List ℕ) (k : Masks) (a b : List ℕ) where
  left_front : (n i : ℕ) → 32 * n ≤ length a → i < n → block (a ++ b) (32 * i) ≡ block a (32 * i)
  left_front n i h less = block_front a b (32 * i) (omega arith)

  right_front : (n i : ℕ) → 32 * n ≤ length a → i < n → block (a ++ b) (32 * i + 16) ≡ block a (32 * i + 16)
  right_front n i h less = block_front a b (32 * i + 16) (omega arith)

  pub pairs_front : (n : ℕ) → 32 * n ≤ length a → pairs E k n (a ++ b) ≡ pairs E k n a
  unfolding pairs
  pairs_front n h =
      sym
      (grown_same (λ i. pairs E k i a) (λ i. pairs E k i (a ++ b)) _ (λ i. refl) refl n
      (λ i less. ap (λ (x : List ℕ). pairs E k i (a ++ b) ++ x) (ap₂ (pair E (k.left i) (k.right i)) (left_front n i h less) (right_front n i h less))))

  pub pairs_inputs_front : (n : ℕ) → 32 * n ≤ length a → pairs_inputs E k n (a ++ b) ≡ pairs_inputs E k n a
  unfolding pairs_inputs
  pairs_inputs_front n h =
      sym
      (grown_same (λ i. pairs_inputs E k i a) (λ i. pairs_inputs E k i (a ++ b)) _ (λ i. refl) refl n
      (λ i less. ap (λ (x : List (List ℕ)). pairs_inputs E k i (a ++ b) ++ x) (ap₂ (pair_inputs E (k.left i) (k.right i)) (left_front n i h less) (right_front n i h less))))
