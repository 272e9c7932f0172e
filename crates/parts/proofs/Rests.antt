-- The end of what is kept, 32 bytes at most: no pair goes before it. Assumes nothing.
use mathlib.Core.Path.{◌≡◌, refl, sym, ap, ap₂, subst, ◌∙◌}
use mathlib.Core.Bool.{Bool, true, false}
use mathlib.Core.List.{List, [], ◌∷◌, ◌++◌}
use Prim.Native.Nat.{ℕ, ◌+◌, ◌-◌, ◌*◌, ◌≤◌}
use native.Mathlib.Omega.{arith}
use lib.Dec.{ltb}
use lib.ListN.{length, drop, length-append}
use Rattle.lists.specs.Lay.{lay}
use Rattle.lists.specs.Xor.{xor}
use Rattle.lists.specs.Zeros.{zeros}
use Rattle.lists.proofs.Laid.{lay-lay}
use Rattle.lists.proofs.Xor.{xor_comm, xor_swap}
use Rattle.lists.proofs.Zeros.{xor-zeros}
use Rattle.mode.specs.Masks.{Masks, IsCipher, AreMasks, doubled, third}
use Rattle.mode.specs.Message.{pairs_of, even, last_length, short, sum, base, final, pairs, pairs_inputs, ending, ending_inputs, end_sum, body, body_inputs, checksum}
use Rattle.mode.specs.Feeding.{end_input, end_inputs}
use Rattle.mode.proofs.Counts.{pairs_are, even_left}
use Rattle.mode.proofs.Ends.{Remains, length-ending}
use Rattle.mode.proofs.Walk.{remains}
use Rattle.mode.proofs.Tag.{length-end_sum}

-- the end rules of doubled masks are those of v3.1
pub final_doubled : (l r : List ℕ) (t : Bool) (b : List ℕ) → final (third l) t b ≡ final (doubled l r) t b
final_doubled l r true b = refl
final_doubled l r false b = refl

module _ (E : List ℕ → List ℕ) (e : IsCipher E) (k : Masks) (a : AreMasks k) (m : List ℕ) (most : length m ≤ 32) where
  abbrev two : Bool
  two = ltb 16 (length m)

  none : pairs_of (length m) ≡ 0
  none = omega (arith, pairs_are (length m))

  two_is : even (length m) ≡ two
  two_is =
      let all : length m - 32 * pairs_of (length m) ≡ length m = omega (arith, none) in
      even_left (length m) ∙ ap (ltb 16) all

  pub left_over : Remains two m
  left_over = subst (λ (t : Bool). Remains t m) two_is (subst (λ (i : ℕ). Remains (even (length m)) (drop (32 * i) m)) none (remains m))

  body_whole : body E k m ≡ ending E two (k.left 0) (k.right 0) m
  unfolding body pairs
  body_whole =
      ap₂ (λ (i : ℕ) (t : Bool). pairs E k i m ++ ending E t (k.left i) (k.right i) (drop (32 * i) m)) none two_is

  inputs_whole : body_inputs E k m ≡ ending_inputs E two (k.left 0) (k.right 0) m
  unfolding body_inputs pairs_inputs
  inputs_whole =
      ap₂ (λ (i : ℕ) (t : Bool). pairs_inputs E k i m ++ ending_inputs E t (k.left i) (k.right i) (drop (32 * i) m)) none two_is

  checksum_whole : checksum E k m ≡ end_sum E two (k.left 0) m
  unfolding checksum sum
  checksum_whole =
      ap₂ (λ (i : ℕ) (t : Bool). xor (sum i m) (end_sum E t (k.left i) (drop (32 * i) m))) none two_is
      ∙ xor_comm (zeros 16) (end_sum E two (k.left 0) m)
      ∙ xor-zeros (end_sum E two (k.left 0) m) 16 (omega (arith, length-end_sum E e k a two (k.left 0) m (a.left 0) left_over))

  -- what TE's cipher takes, with the sum s of the pairs that are out
  pub te_whole : (s : List ℕ) → end_input E (record { masks = k; sum = s; kept = m })
      ≡ xor (final k (ltb (last_length two (length m)) 16) (base two (k.left 0) (k.right 0))) (xor s (end_sum E two (k.left 0) m))
  unfolding short
  te_whole s =
      xor_swap s (final k (short m) (base (even (length m)) (k.left (pairs_of (length m))) (k.right (pairs_of (length m))))) (checksum E k m)
      ∙ ap₂ (λ (i : ℕ) (t : Bool). xor (final k (ltb (last_length t (length (drop (32 * i) m))) 16) (base t (k.left i) (k.right i))) (xor s (checksum E k m))) none two_is
      ∙ ap (λ (x : List ℕ). xor (final k (ltb (last_length two (length m)) 16) (base two (k.left 0) (k.right 0))) (xor s x)) checksum_whole

  pub runs_whole : (s : List ℕ) (i j : ℕ) → i ≡ length (ending_inputs E two (k.left 0) (k.right 0) m) → j ≡ 1
      → i + j ≡ length (end_inputs E (record { masks = k; sum = s; kept = m }))
  runs_whole s i j hi hj =
      omega (arith, hi, hj, ap length inputs_whole, length-append (body_inputs E k m) (end_input E (record { masks = k; sum = s; kept = m }) ∷ []))

  -- the tag's bytes y, laid behind what is kept
  pub end_laid : (y out : List ℕ) → length m + length y ≤ length out
      → lay (length m) y (lay 0 (ending E two (k.left 0) (k.right 0) m) out) ≡ lay 0 (body E k m ++ y) out
  end_laid y out fits =
      let x = ending E two (k.left 0) (k.right 0) m in
      let long : length x ≡ length m = length-ending E e (k.left 0) (k.right 0) (a.left 0) (a.right 0) two m left_over in
      let place : length m ≡ 0 + length x = omega arith in
      ap (λ (i : ℕ). lay i y (lay 0 x out)) place
      ∙ lay-lay 0 x y out (omega arith)
      ∙ ap (λ (b : List ℕ). lay 0 (b ++ y) out) (sym body_whole)
