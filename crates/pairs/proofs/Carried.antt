-- Masks as they are carried are masks; and masks that are alike at every pair give the same pairs. Assumes nothing.
use mathlib.Core.Path.{◌≡◌, refl, sym, ap, ap₂, ◌∙◌}
use mathlib.Core.List.{List, ◌++◌}
use Prim.Native.Nat.{ℕ, zero, suc, ◌+◌, ◌*◌, ◌≤◌}
use native.Mathlib.Numerals.{add-one}
use native.Mathlib.Omega.{arith}
use lib.ListN.{length}
use Rattle.lists.specs.Lay.{lay}
use Rattle.lists.specs.Xor.{xor}
use Rattle.lists.specs.Zeros.{zeros}
use Rattle.lists.proofs.Zeros.{xor-zeros}
use Rattle.block.specs.Block.{double}
use Rattle.block.proofs.Doubling.{length-double}
use Rattle.mode.specs.Masks.{Masks, IsCipher, AreMasks, doubles, doubled}
use Rattle.mode.specs.Message.{block, pair, pairs}
use Rattle.mode.proofs.Tag.{xor_sixteen}
use Rattle.mode.proofs.Data.{length-doubles}
use Rattle.pairs.specs.Carries.{Steps, Carries}
use Rattle.pairs.proofs.Steps.{laid_more}

-- the sequence from x on
unfoldable pub steps : List ℕ → List ℕ → ℕ → List ℕ
steps x a zero = x
steps x a (suc i) = xor (double (steps x a i)) a

length_steps : (x a : List ℕ) → length x ≡ 16 → length a ≡ 16 → (i : ℕ) → length (steps x a i) ≡ 16
unfolding steps
length_steps x a hx ha zero = hx
length_steps x a hx ha (suc i) = xor_sixteen (double (steps x a i)) a (length-double (steps x a i) (length_steps x a hx ha i)) ha

-- one more
step_more : (x a : List ℕ) (i : ℕ) → xor (double (steps x a i)) a ≡ steps x a (i + 1)
unfolding steps
step_more x a i = sym (ap (steps x a) (add-one i))

-- a sequence that steps so is that one
steps_are : (s : ℕ → List ℕ) (x a : List ℕ) → Steps s x a → (i : ℕ) → steps x a i ≡ s i
unfolding steps
steps_are s x a h zero = sym h.0
steps_are s x a h (suc i) = ap (λ (y : List ℕ). xor (double y) a) (steps_are s x a h i) ∙ sym (h.1 i)

-- the end rules play no part in the pairs
abbrev pub carried : List ℕ → List ℕ → List ℕ → List ℕ → Masks
carried l a r b = record { left = steps l a; right = steps r b; if_short = λ x. x; if_full = λ x. x }

pub carried_masks : (l a r b : List ℕ) → length l ≡ 16 → length a ≡ 16 → length r ≡ 16 → length b ≡ 16 → AreMasks (carried l a r b)
carried_masks l a r b hl ha hr hb =
    record { left = length_steps l a hl ha; right = length_steps r b hr hb; if_short = λ x h. h; if_full = λ x h. h }

-- a mask that is doubled from pair to pair has nothing XORed in
pub doubles_steps : (x : List ℕ) → length x ≡ 16 → Steps (λ i. doubles i x) x (zeros 16)
unfolding doubles
doubles_steps x h = (refl, λ i. sym (xor-zeros (double (doubles i x)) 16 (omega (arith, length-doubles (suc i) x h))))

pub doubled_carries : (l r : List ℕ) → length l ≡ 16 → length r ≡ 16 → Carries (doubled l r) l (zeros 16) r (zeros 16)
doubled_carries l r hl hr = (doubles_steps l hl, doubles_steps r hr)

pairs_alike : (E : List ℕ → List ℕ) (k j : Masks) → ((i : ℕ) → k.left i ≡ j.left i) → ((i : ℕ) → k.right i ≡ j.right i)
    → (n : ℕ) (m : List ℕ) → pairs E k n m ≡ pairs E j n m
unfolding pairs
pairs_alike E k j hl hr zero m = refl
pairs_alike E k j hl hr (suc n) m =
    ap₂ ◌++◌ (pairs_alike E k j hl hr n m) (ap₂ (λ (l r : List ℕ). pair E l r (block m (32 * n)) (block m (32 * n + 16))) (hl n) (hr n))

-- i pairs of m laid into out, which is now so, and the masks of the pair behind them
pub record Laid (E : List ℕ → List ℕ) (l a r b m out : List ℕ) (i : ℕ) (now left right : List ℕ) : Type 0 where
  pub laid : now ≡ lay 0 (pairs E (carried l a r b) i m) out
  pub left_is : left ≡ steps l a i
  pub right_is : right ≡ steps r b i

module _ (E : List ℕ → List ℕ) (l a r b m out : List ℕ) where
  pub none_laid : (left right : List ℕ) → left ≡ l → right ≡ r → Laid E l a r b m out 0 out left right
  unfolding pairs steps
  none_laid left right is_left is_right = record { laid = refl; left_is = is_left; right_is = is_right }

  -- the same by other names
  pub laid_as : (i n : ℕ) (now left right next next_left next_right : List ℕ) → Laid E l a r b m out i now left right
      → n ≡ i → next ≡ now → next_left ≡ left → next_right ≡ right → Laid E l a r b m out n next next_left next_right
  laid_as i n now left right next next_left next_right h hn is is_left is_right = record {
    laid = is ∙ h.laid ∙ ap (λ (j : ℕ). lay 0 (pairs E (carried l a r b) j m) out) (sym hn);
    left_is = is_left ∙ h.left_is ∙ ap (steps l a) (sym hn);
    right_is = is_right ∙ h.right_is ∙ ap (steps r b) (sym hn);
  }

  module _ (e : IsCipher E) (s : AreMasks (carried l a r b)) where
    -- one pair more, whose blocks are at places p and q
    pub one_more : (i n p q : ℕ) (now left right next next_left next_right : List ℕ) → Laid E l a r b m out i now left right
        → n ≡ i + 1 → p ≡ 32 * i → q ≡ 32 * i + 16 → 32 * n ≤ length m → 32 * n ≤ length out
        → next ≡ lay p (pair E left right (block m p) (block m q)) now
        → next_left ≡ xor (double left) a → next_right ≡ xor (double right) b → Laid E l a r b m out n next next_left next_right
    one_more i n p q now left right next next_left next_right h hn hp hq hm ho is is_left is_right = record {
      laid =
          is
          ∙ laid_more E e (carried l a r b) s m out i p q left right now hp hq (omega arith) (omega arith) h.left_is h.right_is h.laid
          ∙ ap (λ (j : ℕ). lay 0 (pairs E (carried l a r b) j m) out) (sym hn);
      left_is = is_left ∙ ap (λ (x : List ℕ). xor (double x) a) h.left_is ∙ step_more l a i ∙ ap (steps l a) (sym hn);
      right_is = is_right ∙ ap (λ (x : List ℕ). xor (double x) b) h.right_is ∙ step_more r b i ∙ ap (steps r b) (sym hn);
    }

    -- two pairs more from place p on, the second with the masks y and z
    pub two_more : (i n p : ℕ) (now left right y z next next_left next_right : List ℕ) → Laid E l a r b m out i now left right
        → n ≡ i + 2 → p ≡ 32 * i → 32 * n ≤ length m → 32 * n ≤ length out
        → next ≡ lay (p + 32) (pair E y z (block m (p + 32)) (block m (p + 48))) (lay p (pair E left right (block m p) (block m (p + 16))) now)
        → y ≡ xor (double left) a → z ≡ xor (double right) b
        → next_left ≡ xor (double y) a → next_right ≡ xor (double z) b → Laid E l a r b m out n next next_left next_right
    two_more i n p now left right y z next next_left next_right h hn hp hm ho is y_is z_is is_left is_right =
        let first = lay p (pair E left right (block m p) (block m (p + 16))) now in
        let one = one_more i (i + 1) p (p + 16) now left right first y z h refl hp (omega arith) (omega arith) (omega arith) refl y_is z_is in
        one_more (i + 1) n (p + 32) (p + 48) first y z next next_left next_right one (omega arith) (omega arith) (omega arith) hm ho
        is is_left is_right

  -- the same said of any masks k that are carried so
  pub laid_with : (n : ℕ) (now left right : List ℕ) → Laid E l a r b m out n now left right → (k : Masks) → Carries k l a r b
      → (now ≡ lay 0 (pairs E k n m) out) × ((left ≡ k.left n) × (right ≡ k.right n))
  laid_with n now left right h k carries =
      let left_are = steps_are k.left l a carries.0 in
      let right_are = steps_are k.right r b carries.1 in (
        h.laid ∙ ap (λ (x : List ℕ). lay 0 x out) (pairs_alike E (carried l a r b) k left_are right_are n m),
        (h.left_is ∙ left_are n, h.right_is ∙ right_are n),
      )
