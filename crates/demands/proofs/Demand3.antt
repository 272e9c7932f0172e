-- Demand 3: for inputs that pass checks 10, 8 and 1 to 6, opening answers 7 exactly if no message at all, sealed in the same edition and
-- form under the same key, nonce, associated data and tag length, gives those bytes. When it accepts, it returns the one message that
-- does. This holds for any fixed rule from blocks to blocks put in the cipher's place, and so for that of a record, with its first mask
-- as it stands. Assumes nothing.
use mathlib.Core.Path.{◌≡◌, sym, ap, subst, ◌∙◌}
use mathlib.Core.Logic.{◌↔◌}
use mathlib.Core.List.{List}
use Prim.Native.Nat.{ℕ, ◌+◌, ◌-◌, ◌≤◌}
use native.Mathlib.Omega.{arith}
use lib.ListN.{length}
use Rattle.std.specs.Prelude.{Ok}
use Rattle.lists.specs.Lay.{lay}
use Rattle.lists.specs.Zeros.{zeros}
use Rattle.aes.specs.Expansion.{aes}
use Rattle.mode.specs.Edition.{edition_of}
use Rattle.mode.specs.declared.edition.Edition.{Edition}
use Rattle.mode.specs.Masks.{IsCipher}
use Rattle.mode.specs.Sealing.{data_tag, otr_from, otr}
use Rattle.mode.specs.Opening.{accepted, refused}
use Rattle.mode.proofs.Otr.{length-otr, otr_injective}
use Rattle.pairs.proofs.Cipher.{is_cipher, length-ta}
use Rattle.link.specs.Answers.{Answer, number_of, length_of}
use Rattle.link.specs.Checks.{Check}
use Rattle.link.specs.Prepared.{cipher_of}
use Rattle.link.specs.Promises.{open_runs, OpensBy, Opens, sealing_with, open_runs_with, OpensWith}
use Rattle.link.specs.declared.prepared.Prepared.{Prepared}
use Rattle.link.proofs.Entries.{aes_cipher, aes_ta}
use Rattle.demands.specs.Calls.{key_known, rounds_known, Limits, OneOf}
use Rattle.demands.proofs.Limits.{known, open_passes}

-- what an opening of s says of the messages that seal to s
pub record Opening (seal : List ℕ → List ℕ) (s out : List ℕ) (r : Answer) (after : List ℕ) : Type 0 where
  -- 7 exactly if no message does
  pub forged : (number_of r ≡ 7) ↔ ((m : List ℕ) → seal m ≡ s → ⊥)
  -- done: one message does, no other, and it is what comes back
  pub done : number_of r ≡ 0
      → (m : List ℕ) × (seal m ≡ s) × ((n : List ℕ) → seal n ≡ s → n ≡ m) × (length_of r ≡ length m) × (after ≡ lay 0 m out)

-- ---- for any cipher E, and any first mask q with which TA has 16 bytes, as it has where q has
module _ (E : List ℕ → List ℕ) (e : IsCipher E) (q : List ℕ) (f : Edition) (nonce ad s : List ℕ) (t : ℕ) (h : length (data_tag E q f ad) ≡ 16)
    (hn : length nonce ≤ 15) (ht : t ≤ 16) (out : List ℕ) (r : Answer) (after : List ℕ) where
  pub any_cipher : (k : ℕ) → OpensBy (Ok (length s - t)) k (otr_from E q f nonce ad t) s out r after → Opening (otr_from E q f nonce ad t) s out r after
  any_cipher k (accepted m, a, is, b) =
      let done_is : number_of r ≡ 0 = ap number_of is in
      let long : length s ≡ length m + t = sym (ap length a) ∙ length-otr E e q f nonce ad t h hn ht m in
      let left : length s - t ≡ length m = omega arith in
      record {
        forged = (λ z. absurd (omega arith), λ none. absurd (none m a));
        done = λ z. (m, a, λ n g. otr_injective E e q f nonce ad t h hn ht n m (g ∙ sym a), ap length_of is ∙ left, b);
      }
  any_cipher k (refused, a, is, b) =
      let forged_is : number_of r ≡ 7 = ap number_of is in
      record {
        forged = (λ z. a, λ none. forged_is);
        done = λ z. absurd (omega arith);
      }

-- ---- a call within the limits
module _ (edition form : ℕ) (nonce ad s : List ℕ) (t : ℕ) (out : List ℕ) (r : Answer) (after : List ℕ) (f : Limits edition form (length nonce) t (length ad))
    (least : t ≤ length s) (most : length s ≤ 16384 + t) (room : length s - t ≤ length out) where
  -- under a raw key, for AES
  pub opening : (key : List ℕ) → OneOf 16 24 32 (length key) → Opens edition form key nonce ad s t out r after → Opening (otr (aes key) (edition_of edition form) nonce ad t) s out r after
  unfolding Opens
  opening key keys p =
      any_cipher (aes key) (aes_cipher key) (aes key (zeros 16)) (edition_of edition form) nonce ad s t (aes_ta key (edition_of edition form) ad) f.nonces.1 f.tags.1 out r after
      (open_runs edition form key nonce ad t s)
      (subst (λ (c : Check). OpensBy c (open_runs edition form key nonce ad t s) (otr (aes key) (edition_of edition form) nonce ad t) s out r after)
      (open_passes edition form (key_known key) (length nonce) t (length ad) (known 16 24 32 (length key) keys) f (length s) (length out) least most room) p)

  -- under a prepared key, for the cipher of the record and its first mask, whatever they are
  pub opening_with : (p : Prepared) → OneOf 10 12 14 p.rounds → OpensWith edition form p nonce ad s t out r after
      → Opening (otr_from (cipher_of p) p.zero (edition_of edition form) nonce ad t) s out r after
  unfolding OpensWith
  opening_with p rounds h =
      any_cipher (cipher_of p) (is_cipher p.rounds p.words) p.zero (edition_of edition form) nonce ad s t (length-ta p.rounds p.words p.zero (edition_of edition form) ad)
      f.nonces.1 f.tags.1 out r after (open_runs_with edition form p nonce ad t s)
      (subst (λ (c : Check). OpensBy c (open_runs_with edition form p nonce ad t s) (sealing_with edition form p nonce ad t) s out r after)
      (open_passes edition form (rounds_known p) (length nonce) t (length ad) (known 10 12 14 p.rounds rounds) f (length s) (length out) least most room) h)
