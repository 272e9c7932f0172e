-- What an early part may reveal (document 02, wish 12), over any cipher that takes 16 bytes to 16 bytes and any masks: of two messages that
-- are longer than 32·j bytes, the first 32·j bytes of what comes out agree exactly if those of the messages do. What stays out, and why,
-- is in `StaysOut`. Assumes nothing.
use mathlib.Core.Path.{◌≡◌, sym, ap, subst, ◌∙◌}
use mathlib.Core.Logic.{◌↔◌}
use mathlib.Core.List.{List, [], ◌++◌, append_assoc}
use Prim.Native.Nat.{ℕ, ◌*◌, ◌≤◌}
use native.Mathlib.Omega.{arith}
use lib.ListN.{length, drop, take-append-drop}
use lib.Seq.{length-take-le, take_at}
use Rattle.mode.specs.Form.{Form, Parallel}
use Rattle.mode.specs.Edition.{Edition, form_in}
use Rattle.mode.specs.Masks.{Masks, IsCipher, AreMasks, masks_of}
use Rattle.mode.specs.Message.{pairs_of, pairs, body}
use Rattle.mode.specs.Nonce.{nonce_block}
use Rattle.mode.specs.Sealing.{tag, sealed, first_mask, data_tag, masks}
use Rattle.mode.specs.Undoing.{swapped}
use Rattle.mode.specs.Feeding.{from}
use Rattle.mode.specs.EarlyPart.{early, Longer}
use Rattle.mode.proofs.Counts.{pairs_are, pairs-within}
use Rattle.mode.proofs.Pairs.{length_pairs, pairs_undone}
use Rattle.mode.proofs.Front.{pairs_front}
use Rattle.mode.proofs.Feeding.{body_behind}

-- what an equation says, another says whose sides are the same by other names
pub renamed : {A : Type 0} {B : Type 0} {x x' y y' : A} → x ≡ y → x' ≡ y' → (y ≡ y') ↔ B → (x ≡ x') ↔ B
renamed is is' says = (λ same. says.0 (sym is ∙ same ∙ is'), λ b. is ∙ says.1 b ∙ sym is')

-- ---- the early part has 32·j bytes, and of what begins with so many it is these
length_early : (j : ℕ) (m : List ℕ) → 32 * j ≤ length m → length (early j m) ≡ 32 * j
length_early j m h = length-take-le (32 * j) m h

early_at : (j : ℕ) (x y : List ℕ) → length x ≡ 32 * j → early j (x ++ y) ≡ x
early_at j x y h = take_at x y (32 * j) h

-- where something follows 32·j bytes, these are j of the message's pairs
pub are_pairs : (j : ℕ) (m : List ℕ) → Longer j m → j ≤ pairs_of (length m)
are_pairs j m h = omega (arith, pairs_are (length m))

module _ (E : List ℕ → List ℕ) (e : IsCipher E) (k : Masks) (s : AreMasks k) where
  -- ---- where 32·j bytes are j of the message's pairs, what comes out begins with these
  pub early_is : (j : ℕ) (a : List ℕ) (t : ℕ) (m : List ℕ) → j ≤ pairs_of (length m) → early j (sealed E k a t m) ≡ pairs E k j m
  unfolding sealed
  early_is j a t m h =
      let behind = body E (from j k) (drop (32 * j) m) in
      ap (λ (b : List ℕ). early j (b ++ tag E k a t m)) (body_behind m j h E k)
      ∙ ap (early j) (append_assoc (pairs E k j m) behind (tag E k a t m))
      ∙ early_at j (pairs E k j m) (behind ++ tag E k a t m) (length_pairs E e k s j m (omega (arith, pairs-within (length m))))

  -- ---- j pairs read the first 32·j bytes alone, and are undone to these
  of_early : (j : ℕ) (m : List ℕ) → 32 * j ≤ length m → pairs E k j m ≡ pairs E k j (early j m)
  of_early j m h =
      ap (pairs E k j) (sym (take-append-drop (32 * j) m))
      ∙ pairs_front E k (early j m) (drop (32 * j) m) j (omega (arith, length_early j m h))

  pub pairs_tell : (j : ℕ) (m m' : List ℕ) → 32 * j ≤ length m → 32 * j ≤ length m' → (pairs E k j m ≡ pairs E k j m') ↔ (early j m ≡ early j m')
  pairs_tell j m m' h h' = (
    λ same. sym (pairs_undone E e k s j m [] h) ∙ ap (λ (c : List ℕ). pairs E (swapped k) j (c ++ [])) same ∙ pairs_undone E e k s j m' [] h',
    λ same. of_early j m h ∙ ap (pairs E k j) same ∙ sym (of_early j m' h'),
  )

  -- the law, whatever follows, and whatever goes into the tags
  pub early_part : (j : ℕ) (a a' : List ℕ) (t t' : ℕ) (m m' : List ℕ) → Longer j m → Longer j m'
      → (early j (sealed E k a t m) ≡ early j (sealed E k a' t' m')) ↔ (early j m ≡ early j m')
  early_part j a a' t t' m m' h h' =
      renamed (early_is j a t m (are_pairs j m h)) (early_is j a' t' m' (are_pairs j m' h')) (pairs_tell j m m' (omega arith) (omega arith))

  -- ---- in parts: once the bytes of m are fed, the pairs that are out tell those of m, and their number
  module _ (m m' : List ℕ) where
    abbrev n : ℕ
    n = pairs_of (length m)

    abbrev n' : ℕ
    n' = pairs_of (length m')

    -- with as many pairs out on either side
    as_many : n ≡ n' → (pairs E k n m ≡ pairs E k n' m') ↔ (early n m ≡ early n' m')
    as_many same =
        subst (λ (i : ℕ). (pairs E k n m ≡ pairs E k i m') ↔ (early n m ≡ early i m')) same
        (pairs_tell n m m' (pairs-within (length m)) (omega (arith, same, pairs-within (length m'))))

    pub fed_tell : (pairs E k n m ≡ pairs E k n' m') ↔ (early n m ≡ early n' m')
    fed_tell = (
      λ same. (as_many (omega (arith, ap length same, length_pairs E e k s n m (pairs-within (length m)), length_pairs E e k s n' m' (pairs-within (length m'))))).0 same,
      λ same. (as_many (omega (arith, ap length same, length_early n m (pairs-within (length m)), length_early n' m' (pairs-within (length m'))))).1 same,
    )

-- ---- AES-OTR in the parallel form, which is v1's too: U goes by the nonce block alone, whatever the associated data, and whatever the
-- first mask of their pass
pub parallel_masks : (E : List ℕ → List ℕ) (q q' : List ℕ) (f : Edition) → form_in f ≡ Parallel → (nonce ad ad' : List ℕ) (t : ℕ)
    → masks E q f nonce ad t ≡ masks E q' f nonce ad' t
parallel_masks E q q' f is nonce ad ad' t =
    let with : List ℕ → Form → Masks = λ a g. masks_of f (first_mask g (E (nonce_block f t nonce)) a) in
    ap (with (data_tag E q f ad)) is ∙ sym (ap (with (data_tag E q' f ad')) is)
