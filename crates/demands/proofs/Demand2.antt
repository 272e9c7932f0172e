-- Demand 2: everything within the stated limits is sealed, given room, and the bytes are exactly AES-OTR in the edition and form named,
-- over the AES of FIPS 197; opening what was sealed gives the message back. Under a record the bytes are AES-OTR over its own cipher, with
-- its own first mask. Assumes nothing.
use mathlib.Core.Path.{◌≡◌, refl, ap, subst, ◌∙◌}
use mathlib.Core.Bool.{Bool, true}
use mathlib.Core.List.{List}
use Prim.Native.Nat.{ℕ, ◌+◌, ◌-◌, ◌≤◌}
use native.Mathlib.Omega.{arith}
use lib.ListN.{length}
use Rattle.std.specs.Prelude.{Ok}
use Rattle.lists.specs.Lay.{lay}
use Rattle.lists.specs.Zeros.{zeros}
use Rattle.aes.specs.Expansion.{aes}
use Rattle.mode.specs.Edition.{edition_of}
use Rattle.mode.specs.declared.edition.Edition.{Edition}
use Rattle.mode.specs.Masks.{IsCipher}
use Rattle.mode.specs.Sealing.{data_tag, otr_from, otr}
use Rattle.mode.specs.Opening.{accepted, refused}
use Rattle.mode.proofs.Otr.{length-otr, otr_injective}
use Rattle.pairs.proofs.Cipher.{is_cipher, length-ta}
use Rattle.link.specs.Answers.{Answer, done}
use Rattle.link.specs.Checks.{Check, call_check, seal_next, open_next}
use Rattle.link.specs.Prepared.{cipher_of}
use Rattle.link.specs.Promises.{seal_runs, open_runs, SealsBy, Seals, OpensBy, Opens, seal_runs_with, open_runs_with, SealsWith, OpensWith}
use Rattle.link.specs.declared.prepared.Prepared.{Prepared}
use Rattle.link.proofs.Entries.{aes_cipher, aes_ta}
use Rattle.demands.specs.Calls.{key_known, rounds_known, Limits, OneOf}
use Rattle.demands.proofs.Limits.{known, seal_passes, open_passes}

-- ---- for any cipher E, and any first mask q with which TA has 16 bytes, as it has where q has: opening what sealing gives, the
-- message comes back, and nothing else
module _ (E : List ℕ → List ℕ) (e : IsCipher E) (q : List ℕ) (f : Edition) (nonce ad m : List ℕ) (t : ℕ) (h : length (data_tag E q f ad) ≡ 16)
    (hn : length nonce ≤ 15) (ht : t ≤ 16) (out : List ℕ) (r : Answer) (after : List ℕ) where
  pub any_cipher : (k : ℕ) → OpensBy (Ok (length m)) k (otr_from E q f nonce ad t) (otr_from E q f nonce ad t m) out r after
      → (r ≡ done (length m) k) × (after ≡ lay 0 m out)
  any_cipher k (accepted n, a, is, b) = (is, b ∙ ap (λ (x : List ℕ). lay 0 x out) (otr_injective E e q f nonce ad t h hn ht n m a))
  any_cipher k (refused, a, is, b) = absurd (a m refl)

-- ---- a call within the limits
module _ (E : List ℕ → List ℕ) (e : IsCipher E) (q : List ℕ) (edition form : ℕ) (key : Bool) (nonce ad m : List ℕ) (t : ℕ) (h : length (data_tag E q (edition_of edition form) ad) ≡ 16)
    (is : key ≡ true) (limits : Limits edition form (length nonce) t (length ad)) (short : length m ≤ 16384) (k : ℕ) (out : List ℕ) (r : Answer) (after : List ℕ) where
  seal : List ℕ → List ℕ
  seal = otr_from E q (edition_of edition form) nonce ad t

  sealing_is : length m + t ≤ length out → SealsBy (call_check edition form key (length nonce) t (length ad) (seal_next t (length m) (length out))) k (seal m) out r after
      → (r ≡ done (length m + t) k) × (after ≡ lay 0 (seal m) out)
  sealing_is room =
      subst (λ (c : Check). SealsBy c k (seal m) out r after)
      (seal_passes edition form key (length nonce) t (length ad) is limits (length m) (length out) short room)

  sealed_long : length (seal m) ≡ length m + t
  unfolding seal
  sealed_long = length-otr E e q (edition_of edition form) nonce ad t h limits.nonces.1 limits.tags.1 m

  opening_is : length m ≤ length out → OpensBy (call_check edition form key (length nonce) t (length ad) (open_next t (length (seal m)) (length out))) k seal (seal m) out r after
      → (r ≡ done (length m) k) × (after ≡ lay 0 m out)
  unfolding seal
  opening_is room p =
      any_cipher E e q (edition_of edition form) nonce ad m t h limits.nonces.1 limits.tags.1 out r after k
      (subst (λ (c : Check). OpensBy c k seal (seal m) out r after)
      (open_passes edition form key (length nonce) t (length ad) is limits (length (seal m)) (length out) (omega (arith, sealed_long)) (omega (arith, sealed_long)) (omega (arith, left)) ∙ ap Ok left) p)
    where
      left : length (seal m) - t ≡ length m
      left = omega (arith, sealed_long)

-- ---- under a raw key, for AES
module _ (edition form : ℕ) (key nonce ad m : List ℕ) (t : ℕ) (keys : OneOf 16 24 32 (length key)) (limits : Limits edition form (length nonce) t (length ad)) (short : length m ≤ 16384) where
  -- given room, the call is done, and the buffer has exactly the sealed bytes in front
  pub is_sealed : (out : List ℕ) → length m + t ≤ length out → (r : Answer) (after : List ℕ) → Seals edition form key nonce ad m t out r after
      → (r ≡ done (length m + t) (seal_runs edition form key nonce ad t m)) × (after ≡ lay 0 (otr (aes key) (edition_of edition form) nonce ad t m) out)
  unfolding Seals seal
  is_sealed out room r after =
      sealing_is (aes key) (aes_cipher key) (aes key (zeros 16)) edition form (key_known key) nonce ad m t (aes_ta key (edition_of edition form) ad) (known 16 24 32 (length key) keys) limits short
      (seal_runs edition form key nonce ad t m) out r after room

  -- and opened again: the message, and nothing else
  pub round_trip : (out : List ℕ) → length m ≤ length out → (r : Answer) (after : List ℕ) → Opens edition form key nonce ad (otr (aes key) (edition_of edition form) nonce ad t m) t out r after
      → (r ≡ done (length m) (open_runs edition form key nonce ad t (otr (aes key) (edition_of edition form) nonce ad t m))) × (after ≡ lay 0 m out)
  unfolding Opens seal
  round_trip out room r after =
      opening_is (aes key) (aes_cipher key) (aes key (zeros 16)) edition form (key_known key) nonce ad m t (aes_ta key (edition_of edition form) ad) (known 16 24 32 (length key) keys) limits short
      (open_runs edition form key nonce ad t (otr (aes key) (edition_of edition form) nonce ad t m)) out r after room

-- ---- under a prepared key, for the cipher of the record and its first mask, whatever they are
module _ (edition form : ℕ) (p : Prepared) (nonce ad m : List ℕ) (t : ℕ) (rounds : OneOf 10 12 14 p.rounds) (limits : Limits edition form (length nonce) t (length ad)) (short : length m ≤ 16384) where
  long : length (data_tag (cipher_of p) p.zero (edition_of edition form) ad) ≡ 16
  long = length-ta p.rounds p.words p.zero (edition_of edition form) ad

  pub is_sealed_with : (out : List ℕ) → length m + t ≤ length out → (r : Answer) (after : List ℕ) → SealsWith edition form p nonce ad m t out r after
      → (r ≡ done (length m + t) (seal_runs_with edition form p nonce ad t m)) × (after ≡ lay 0 (otr_from (cipher_of p) p.zero (edition_of edition form) nonce ad t m) out)
  unfolding SealsWith seal
  is_sealed_with out room r after =
      sealing_is (cipher_of p) (is_cipher p.rounds p.words) p.zero edition form (rounds_known p) nonce ad m t long (known 10 12 14 p.rounds rounds) limits short
      (seal_runs_with edition form p nonce ad t m) out r after room

  pub round_trip_with : (out : List ℕ) → length m ≤ length out → (r : Answer) (after : List ℕ)
      → OpensWith edition form p nonce ad (otr_from (cipher_of p) p.zero (edition_of edition form) nonce ad t m) t out r after
      → (r ≡ done (length m) (open_runs_with edition form p nonce ad t (otr_from (cipher_of p) p.zero (edition_of edition form) nonce ad t m))) × (after ≡ lay 0 m out)
  unfolding OpensWith seal
  round_trip_with out room r after =
      opening_is (cipher_of p) (is_cipher p.rounds p.words) p.zero edition form (rounds_known p) nonce ad m t long (known 10 12 14 p.rounds rounds) limits short
      (open_runs_with edition form p nonce ad t (otr_from (cipher_of p) p.zero (edition_of edition form) nonce ad t m)) out r after room
