-- Document 02, wish 12, for both editions, parallel form, with one edition, key, nonce and tag length. Under a prepared key the first mask
-- of the data pass is the record's, and nothing is asked of it. Assumes nothing.
use mathlib.Core.Path.{◌≡◌, ap, ◌∙◌}
use mathlib.Core.Bool.{Bool}
use mathlib.Core.List.{List}
use Prim.Native.Nat.{ℕ, ◌+◌, ◌*◌, ◌≤◌}
use native.Mathlib.Omega.{arith}
use lib.ListN.{length, drop}
use lib.Seq.{take-append-le}
use Rattle.lists.specs.Zeros.{zeros}
use Rattle.aes.specs.Expansion.{aes}
use Rattle.mode.specs.Edition.{edition_of}
use Rattle.mode.specs.declared.edition.Edition.{Edition}
use Rattle.mode.specs.Masks.{Masks, IsCipher}
use Rattle.mode.specs.Sealing.{sealed, data_tag, masks, added, otr_from}
use Rattle.mode.specs.EarlyPart.{early, Longer}
use Rattle.mode.proofs.Editions.{form_0}
use Rattle.mode.proofs.Otr.{otr-masks, length-otr}
use Rattle.mode.proofs.EarlyPart.{renamed, early_part, parallel_masks}
use Rattle.pairs.proofs.Cipher.{is_cipher, length-ta}
use Rattle.link.specs.Answers.{Answer, number_of}
use Rattle.link.specs.Checks.{call_check, seal_next}
use Rattle.link.specs.Prepared.{cipher_of}
use Rattle.link.specs.Promises.{seal_runs, SealsBy, Seals, seal_runs_with, SealsWith}
use Rattle.link.specs.declared.prepared.Prepared.{Prepared}
use Rattle.link.proofs.Entries.{aes_cipher, aes_ta}
use Rattle.link.proofs.Verdicts.{sealing_done, seal_verdict}
use Rattle.demands.specs.Calls.{key_known, rounds_known}
use Rattle.demands.specs.EarlyPart.{EarlyPart}

-- ---- whatever seals: any cipher E, and any first mask q with which TA has 16 bytes; runs is what a call reports
module _ (E : List ℕ → List ℕ) (e : IsCipher E) (q : List ℕ) (edition : ℕ) (known : Bool) (nonce : List ℕ) (t : ℕ)
    (tas : (ad : List ℕ) → length (data_tag E q (edition_of edition 0) ad) ≡ 16) (runs : List ℕ → List ℕ → ℕ) where
  abbrev f : Edition
  f = edition_of edition 0

  abbrev Sealed : List ℕ → List ℕ → List ℕ → Answer → List ℕ → Type 0
  Sealed ad m out r after =
      SealsBy (call_check edition 0 known (length nonce) t (length ad) (seal_next t (length m) (length out))) (runs ad m) (otr_from E q f nonce ad t m) out r after

  -- with answer 0: the nonce is within its limits, and the buffer begins as what m seals to does
  begins : (j : ℕ) (ad m out : List ℕ) (r : Answer) (after : List ℕ) → Longer j m → Sealed ad m out r after → number_of r ≡ 0
      → (length nonce ≤ 15) × (early j after ≡ early j (otr_from E q f nonce ad t m))
  begins j ad m out r after h p z =
      let x = otr_from E q f nonce ad t m in
      let done = sealing_done (seal_verdict edition 0 known (length nonce) t (length ad) (length m) (length out)) (runs ad m) x out r after p z in
      let most = done.0.0.nonces.1 in
      let long : length x ≡ length m + t = length-otr E e q f nonce ad t (tas ad) most done.0.0.tags.1 m in
      (most, ap (early j) done.2 ∙ take-append-le (32 * j) x (drop (0 + length x) out) (omega (arith, long)))

  sealed_early : EarlyPart Sealed
  sealed_early j ad ad' m m' out out' r r' after after' h h' p p' z z' =
      let one = begins j ad m out r after h p z in
      let other = begins j ad' m' out' r' after' h' p' z' in
      let same-masks = ap (λ (k : Masks). early j (sealed E k (added E q f nonce ad' t) t m')) (parallel_masks E q q f (form_0 edition) nonce ad' ad t) in
      renamed one.1 (other.1 ∙ same-masks)
      (early_part E e (masks E q f nonce ad t) (otr-masks E e q f nonce ad t (tas ad) one.0) j (added E q f nonce ad t) (added E q f nonce ad' t) t t m m' h h')

-- ---- under a raw key
pub seals_early : (edition : ℕ) (key nonce : List ℕ) (t : ℕ) → EarlyPart (λ ad m out r after. Seals edition 0 key nonce ad m t out r after)
unfolding Seals
seals_early edition key nonce t =
    sealed_early (aes key) (aes_cipher key) (aes key (zeros 16)) edition (key_known key) nonce t (aes_ta key (edition_of edition 0))
    (λ ad m. seal_runs edition 0 key nonce ad t m)

-- ---- under a prepared key, whatever the record's cipher and its first mask are
pub seals_with_early : (edition : ℕ) (p : Prepared) (nonce : List ℕ) (t : ℕ) → EarlyPart (λ ad m out r after. SealsWith edition 0 p nonce ad m t out r after)
unfolding SealsWith
seals_with_early edition p nonce t =
    sealed_early (cipher_of p) (is_cipher p.rounds p.words) p.zero edition (rounds_known p) nonce t
    (length-ta p.rounds p.words p.zero (edition_of edition 0)) (λ ad m. seal_runs_with edition 0 p nonce ad t m)
