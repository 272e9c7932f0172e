-- The tag behind the ciphertext, and the answer that goes by it. Assumes nothing.
use mathlib.Core.Path.{◌≡◌, refl, sym, ap, ap₂, ◌∙◌}
use mathlib.Core.Bool.{Bool, true, false}
use mathlib.Core.List.{List}
use Prim.Native.Nat.{ℕ, ◌+◌, ◌-◌, ◌≤◌}
use native.Mathlib.Omega.{arith}
use lib.ListN.{length, take, drop}
use Rattle.lists.specs.Lay.{lay}
use Rattle.lists.specs.Same.{same}
use Rattle.lists.specs.Xor.{xor}
use Rattle.lists.proofs.Laid.{lay-lay}
use Rattle.mode.specs.Masks.{Masks, IsCipher, AreMasks}
use Rattle.mode.specs.Message.{body, te}
use Rattle.mode.specs.Sealing.{tag, sealed}
use Rattle.mode.specs.Undoing.{unbody, answer, plain, opened}
use Rattle.mode.proofs.Walk.{length-body}
use Rattle.mode.proofs.Tag.{length-tag}
use Rattle.ends.proofs.Rest.{rest_whole}
use Rattle.passes.specs.Shown.{flag}

module _ (E : List ℕ → List ℕ) (e : IsCipher E) (k : Masks) (s : AreMasks k) (a : List ℕ) (ha : length a ≡ 16) (t : ℕ) (ht : t ≤ 16) where
  pub tagged : (m out : List ℕ) → length m + t ≤ length out
      → lay (length m) (take t (xor (te E k m) a)) (lay 0 (body E k m) out) ≡ lay 0 (sealed E k a t m) out
  unfolding sealed tag
  tagged m out fits =
      let long : length (tag E k a t m) ≡ t = length-tag E e k s a t ha ht m in
      let place : length m ≡ 0 + length (body E k m) = omega (arith, length-body E e k s m) in
      ap (λ (i : ℕ). lay i (tag E k a t m) (lay 0 (body E k m) out)) place
      ∙ lay-lay 0 (body E k m) (tag E k a t m) out (omega (arith, length-body E e k s m))

-- opening answers by the comparison of the tags, where T is TE, A what goes into the tag, and b the answer
pub opened_by : (E : List ℕ → List ℕ) (k : Masks) (a : List ℕ) (t : ℕ) (s T A x : List ℕ) (b : Bool)
    → T ≡ te E k (unbody E k (take (length s - t) s)) → A ≡ a → x ≡ xor T A
    → b ≡ same (take t x) (take (length s - (length s - t)) (drop (length s - t) s)) → opened E k a t s ≡ answer b (plain E k a t s)
unfolding opened tag
opened_by E k a t s T A x b hT hA hx hb =
    ap (λ (c : Bool). answer c (plain E k a t s))
    (sym (hb ∙ ap₂ (λ (y z : List ℕ). same (take t y) z) (hx ∙ ap₂ xor hT hA) (rest_whole s (length s - t))))

pub flag_by : (b : Bool) (m : List ℕ) → flag (answer b m) ≡ b
flag_by true m = refl
flag_by false m = refl
