-- Where the masks and what goes into the tag do not go by the tag length, a tag of t bytes is the front of one of 16. So it is in v1: its
-- nonce block has no tag length in it (document 02, wish 7). Assumes nothing.
use mathlib.Core.Path.{◌≡◌, sym, ap, ap₂, ◌∙◌}
use mathlib.Core.List.{List, ◌++◌}
use Prim.Native.Nat.{ℕ, ◌+◌, ◌≤◌}
use lib.ListN.{length, take}
use lib.Seq.{take_at, drop_at, take-add, take-take}
use Rattle.lists.specs.Xor.{xor}
use Rattle.mode.specs.Edition.{V1}
use Rattle.mode.specs.Masks.{Masks, IsCipher, AreMasks}
use Rattle.mode.specs.Message.{body, te}
use Rattle.mode.specs.Sealing.{tag, sealed, data_tag, masks, added, otr_from}
use Rattle.mode.proofs.Walk.{length-body}
use Rattle.mode.proofs.Otr.{otr-masks}

sealed_cut : (E : List ℕ → List ℕ) → IsCipher E → (k : Masks) → AreMasks k → (a : List ℕ) (t : ℕ) → t ≤ 16 → (m : List ℕ)
    → sealed E k a t m ≡ take (length m + t) (sealed E k a 16 m)
unfolding sealed tag
sealed_cut E e k s a t h m =
    let long = length-body E e k s m in
    sym
    (take-add (length m) t (body E k m ++ tag E k a 16 m)
    ∙ ap₂ ◌++◌ (take_at (body E k m) (tag E k a 16 m) (length m) long)
    (ap (take t) (drop_at (body E k m) (tag E k a 16 m) (length m) long) ∙ take-take t 16 (xor (te E k m) a) h))

pub first_cut : (E : List ℕ → List ℕ) → IsCipher E → (q nonce ad : List ℕ) → length (data_tag E q V1 ad) ≡ 16 → length nonce ≤ 15 → (t : ℕ) → t ≤ 16 → (m : List ℕ)
    → otr_from E q V1 nonce ad t m ≡ take (length m + t) (otr_from E q V1 nonce ad 16 m)
first_cut E e q nonce ad ha hn t = sealed_cut E e (masks E q V1 nonce ad 16) (otr-masks E e q V1 nonce ad 16 ha hn) (added E q V1 nonce ad 16) t
