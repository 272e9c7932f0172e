-- Opening, stated over sealing alone: for every cipher, all masks, every TA of 16 bytes and every t up to 16. Assumes nothing.
use mathlib.Core.Path.{◌≡◌, refl, sym, ap, ap₂, ◌∙◌}
use mathlib.Core.Bool.{Bool, true, false}
use mathlib.Core.Logic.{◌⊎◌, inl, inr}
use mathlib.Core.List.{List, ◌++◌}
use Prim.Native.Nat.{ℕ, ◌+◌, ◌-◌, ◌≤◌}
use native.Mathlib.Omega.{arith}
use lib.ListN.{length, take, drop, length-append, take-append-drop}
use lib.Seq.{take_at, take_all, drop_at}
use Rattle.lists.specs.Same.{same}
use Rattle.lists.specs.Xor.{xor}
use Rattle.lists.proofs.Same.{same_true, same_false}
use Rattle.lists.proofs.Xor.{length-xor, xor_comm, xor_cancel}
use Rattle.mode.specs.Masks.{Masks, IsCipher, AreMasks}
use Rattle.mode.specs.Message.{body, te}
use Rattle.mode.specs.Sealing.{tag, sealed}
use Rattle.mode.specs.Opening.{Opened, accepted, refused, Allowed}
use Rattle.mode.specs.Undoing.{unbody, answer, plain, opened}
use Rattle.mode.proofs.Walk.{length-body, body_undone, unbody-sealed}
use Rattle.mode.proofs.Tag.{length-te, length-tag}

-- either exactly one message seals to the string x, and the answer o is that one; or none does, and the answer is to refuse
abbrev pub OneOrNone : (List ℕ → List ℕ) → List ℕ → Opened → Type 0
OneOrNone seal x o =
    ((m : List ℕ) × (seal m ≡ x) × ((n : List ℕ) → seal n ≡ x → n ≡ m) × (o ≡ accepted m))
    ⊎ (((m : List ℕ) → seal m ≡ x → ⊥) × (o ≡ refused))

module _ (E : List ℕ → List ℕ) (e : IsCipher E) (k : Masks) (s : AreMasks k) (a : List ℕ) (ha : length a ≡ 16) (t : ℕ) (ht : t ≤ 16) where
  -- the sealed string is t bytes longer than the message
  pub length-sealed : (m : List ℕ) → length (sealed E k a t m) ≡ length m + t
  unfolding sealed
  length-sealed m =
      omega (arith, length-append (body E k m) (tag E k a t m), length-body E e k s m, length-tag E e k s a t ha ht m)

  -- a sealed string, taken apart again
  module _ (m : List ℕ) where
    place : length (body E k m) ≡ length (sealed E k a t m) - t
    place = omega (arith, length-body E e k s m, length-sealed m)

    pub front_is : take (length (sealed E k a t m) - t) (sealed E k a t m) ≡ body E k m
    unfolding sealed
    front_is = take_at (body E k m) (tag E k a t m) (length (sealed E k a t m) - t) place

    pub back_is : drop (length (sealed E k a t m) - t) (sealed E k a t m) ≡ tag E k a t m
    unfolding sealed
    back_is = drop_at (body E k m) (tag E k a t m) (length (sealed E k a t m) - t) place

    pub plain_is : plain E k a t (sealed E k a t m) ≡ m
    plain_is = ap (unbody E k) front_is ∙ body_undone E e k s m

  -- no two messages seal to the same string
  pub injective : (m n : List ℕ) → sealed E k a t m ≡ sealed E k a t n → m ≡ n
  injective m n h = sym (plain_is m) ∙ ap (plain E k a t) h ∙ plain_is n

  -- what opening finds is allowed, for every string of at least t bytes
  pub opens : (x : List ℕ) → t ≤ length x → Allowed (sealed E k a t) x (opened E k a t x)
  unfolding opened sealed
  opens x h = go (same (tag E k a t (plain E k a t x)) (drop (length x - t) x)) refl
    where
      go : (b : Bool) → same (tag E k a t (plain E k a t x)) (drop (length x - t) x) ≡ b → Allowed (sealed E k a t) x (answer b (plain E k a t x))
      go true p =
          ap₂ ◌++◌ (unbody-sealed E e k s (take (length x - t) x)) (same_true (tag E k a t (plain E k a t x)) (drop (length x - t) x) p)
          ∙ take-append-drop (length x - t) x
      go false p =
          λ m q.
          same_false (tag E k a t (plain E k a t x)) (drop (length x - t) x) p
          (ap (λ (y : List ℕ). tag E k a t (plain E k a t y)) (sym q)
          ∙ ap (tag E k a t) (plain_is m)
          ∙ sym (back_is m)
          ∙ ap (λ (y : List ℕ). drop (length y - t) y) q)

  -- two answers that are allowed for one string are equal
  pub one_answer : (x : List ℕ) (o p : Opened) → Allowed (sealed E k a t) x o → Allowed (sealed E k a t) x p → o ≡ p
  one_answer x (accepted m) (accepted n) q r = ap accepted (injective m n (q ∙ sym r))
  one_answer x (accepted m) refused q r = absurd (r m q)
  one_answer x refused (accepted n) q r = absurd (q n r)
  one_answer x refused refused q r = refl

  -- so the allowed answer is the one that opening finds, and opening a sealed message gives it back
  pub only : (x : List ℕ) (o : Opened) → t ≤ length x → Allowed (sealed E k a t) x o → o ≡ opened E k a t x
  only x o h q = one_answer x o (opened E k a t x) q (opens x h)

  pub round_trip : (m : List ℕ) → opened E k a t (sealed E k a t m) ≡ accepted m
  round_trip m = sym (only (sealed E k a t m) (accepted m) (omega (arith, length-sealed m)) refl)

  -- the same in one statement, for every string of at least t bytes
  pub opening : (x : List ℕ) → t ≤ length x → OneOrNone (sealed E k a t) x (opened E k a t x)
  opening x h = go (opened E k a t x) (opens x h)
    where
      go : (o : Opened) → Allowed (sealed E k a t) x o → OneOrNone (sealed E k a t) x o
      go (accepted m) q = inl (m, q, λ n r. injective n m (r ∙ sym q), refl)
      go refused q = inr (q, refl)

-- a tag of 16 bytes shows what goes into it
pub shows_added : (E : List ℕ → List ℕ) (e : IsCipher E) (k : Masks) (s : AreMasks k) (a b : List ℕ) → length a ≡ 16 → length b ≡ 16 → (m : List ℕ)
    → sealed E k a 16 m ≡ sealed E k b 16 m → a ≡ b
unfolding tag
shows_added E e k s a b ha hb m h =
    let all : 16 ≤ 16 = omega arith in
    let te_long : length (te E k m) ≡ 16 = length-te E e k s m in
    let tags = sym (back_is E e k s a ha 16 all m) ∙ ap (λ (x : List ℕ). drop (length x - 16) x) h ∙ back_is E e k s b hb 16 all m in
    let whole : (x : List ℕ) → take 16 (xor (te E k m) x) ≡ xor x (te E k m) =
    λ x. take_all 16 (xor (te E k m) x) (omega (arith, length-xor (te E k m) x)) ∙ xor_comm (te E k m) x in
    sym (xor_cancel a (te E k m) (omega arith)) ∙ ap (λ (x : List ℕ). xor x (te E k m)) (sym (whole a) ∙ tags ∙ whole b) ∙ xor_cancel b (te E k m) (omega arith)
