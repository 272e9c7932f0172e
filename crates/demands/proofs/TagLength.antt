-- Edition 1 does not bind the tag length (document 02, wish 7). A record of it with a tag of t bytes begins with the ciphertext and the
-- first t tag bytes of the one with 16; and the one with 16, cut down to t, opens to its message. For what edition 3 does see
-- `Rattle.mode`, `binds_the_tag_length`. Assumes nothing.
use mathlib.Core.Path.{◌≡◌, refl, sym, ap, subst, ◌∙◌}
use mathlib.Core.Logic.{inl}
use mathlib.Core.List.{List}
use Prim.Native.Nat.{ℕ, ◌+◌, ◌≤◌}
use native.Mathlib.Omega.{arith}
use lib.ListN.{length, take, drop}
use lib.Seq.{take_at, take-append-le}
use Rattle.lists.specs.Lay.{lay}
use Rattle.lists.specs.Zeros.{zeros}
use Rattle.aes.specs.Expansion.{aes}
use Rattle.mode.specs.declared.edition.Edition.TheVariants.{V1}
use Rattle.mode.specs.Masks.{IsCipher}
use Rattle.mode.specs.Sealing.{data_tag, otr_from, otr}
use Rattle.mode.proofs.TagLength.{first_cut}
use Rattle.mode.proofs.Otr.{length-otr}
use Rattle.pairs.proofs.Cipher.{is_cipher, length-ta}
use Rattle.link.specs.Answers.{Answer, done}
use Rattle.link.specs.Prepared.{cipher_of}
use Rattle.link.specs.Promises.{open_runs, Seals, Opens, open_runs_with, SealsWith, OpensWith}
use Rattle.link.specs.declared.prepared.Prepared.{Prepared}
use Rattle.link.proofs.Entries.{aes_cipher, aes_ta}
use Rattle.demands.specs.Calls.{Limits, OneOf}
use Rattle.demands.proofs.Demand2.{is_sealed, round_trip, is_sealed_with, round_trip_with}

-- the limits, for a tag of 16 in the place of t
all_of_it : {nonce t ad : ℕ} → Limits 1 0 nonce t ad → Limits 1 0 nonce 16 ad
all_of_it f = record { named = inl (refl, refl); nonces = f.nonces; tags = (omega arith, omega arith); most = f.most }

-- buffers that begin with the two records begin alike
module _ (E : List ℕ → List ℕ) (e : IsCipher E) (q nonce ad m : List ℕ) (t : ℕ) (ha : length (data_tag E q V1 ad) ≡ 16) (hn : length nonce ≤ 15) (ht : t ≤ 16) where
  fronts : (out out' after after' : List ℕ) → after ≡ lay 0 (otr_from E q V1 nonce ad t m) out → after' ≡ lay 0 (otr_from E q V1 nonce ad 16 m) out'
      → take (length m + t) after ≡ take (length m + t) after'
  fronts out out' after after' is is' =
      let n = length m + t in
      let x = otr_from E q V1 nonce ad t m in
      let y = otr_from E q V1 nonce ad 16 m in
      let long : length x ≡ n = length-otr E e q V1 nonce ad t ha hn ht m in
      let longer : length y ≡ length m + 16 = length-otr E e q V1 nonce ad 16 ha hn (omega arith) m in
      ap (take n) is
      ∙ take_at x (drop (0 + length x) out) n long
      ∙ first_cut E e q nonce ad ha hn t ht m
      ∙ sym (ap (take n) is' ∙ take-append-le n y (drop (0 + length y) out') (omega (arith, longer)))

module _ (nonce ad m : List ℕ) (t : ℕ) (limits : Limits 1 0 (length nonce) t (length ad)) (short : length m ≤ 16384) where
  -- ---- under a raw key
  module _ (key : List ℕ) (keys : OneOf 16 24 32 (length key)) where
    pub seals_cut : (out out' : List ℕ) → length m + t ≤ length out → length m + 16 ≤ length out' → (r r' : Answer) (after after' : List ℕ)
        → Seals 1 0 key nonce ad m t out r after → Seals 1 0 key nonce ad m 16 out' r' after' → take (length m + t) after ≡ take (length m + t) after'
    seals_cut out out' room room' r r' after after' p p' =
        fronts (aes key) (aes_cipher key) (aes key (zeros 16)) nonce ad m t (aes_ta key V1 ad) limits.nonces.1 limits.tags.1 out out' after after'
        (is_sealed 1 0 key nonce ad m t keys limits short out room r after p).1
        (is_sealed 1 0 key nonce ad m 16 keys (all_of_it limits) short out' room' r' after' p').1

    cut_is : take (length m + t) (otr (aes key) V1 nonce ad 16 m) ≡ otr (aes key) V1 nonce ad t m
    cut_is = sym (first_cut (aes key) (aes_cipher key) (aes key (zeros 16)) nonce ad (aes_ta key V1 ad) limits.nonces.1 t limits.tags.1 m)

    pub opens_cut : (out : List ℕ) → length m ≤ length out → (r : Answer) (after : List ℕ) → Opens 1 0 key nonce ad (take (length m + t) (otr (aes key) V1 nonce ad 16 m)) t out r after
        → (r ≡ done (length m) (open_runs 1 0 key nonce ad t (otr (aes key) V1 nonce ad t m))) × (after ≡ lay 0 m out)
    opens_cut out room r after p =
        round_trip 1 0 key nonce ad m t keys limits short out room r after (subst (λ (s : List ℕ). Opens 1 0 key nonce ad s t out r after) cut_is p)

  -- ---- under a prepared key
  module _ (p : Prepared) (rounds : OneOf 10 12 14 p.rounds) where
    ta_long : length (data_tag (cipher_of p) p.zero V1 ad) ≡ 16
    ta_long = length-ta p.rounds p.words p.zero V1 ad

    pub seals_with_cut : (out out' : List ℕ) → length m + t ≤ length out → length m + 16 ≤ length out' → (r r' : Answer) (after after' : List ℕ)
        → SealsWith 1 0 p nonce ad m t out r after → SealsWith 1 0 p nonce ad m 16 out' r' after' → take (length m + t) after ≡ take (length m + t) after'
    seals_with_cut out out' room room' r r' after after' h h' =
        fronts (cipher_of p) (is_cipher p.rounds p.words) p.zero nonce ad m t ta_long limits.nonces.1 limits.tags.1 out out' after after'
        (is_sealed_with 1 0 p nonce ad m t rounds limits short out room r after h).1
        (is_sealed_with 1 0 p nonce ad m 16 rounds (all_of_it limits) short out' room' r' after' h').1

    with_cut_is : take (length m + t) (otr_from (cipher_of p) p.zero V1 nonce ad 16 m) ≡ otr_from (cipher_of p) p.zero V1 nonce ad t m
    with_cut_is = sym (first_cut (cipher_of p) (is_cipher p.rounds p.words) p.zero nonce ad ta_long limits.nonces.1 t limits.tags.1 m)

    pub opens_with_cut : (out : List ℕ) → length m ≤ length out → (r : Answer) (after : List ℕ)
        → OpensWith 1 0 p nonce ad (take (length m + t) (otr_from (cipher_of p) p.zero V1 nonce ad 16 m)) t out r after
        → (r ≡ done (length m) (open_runs_with 1 0 p nonce ad t (otr_from (cipher_of p) p.zero V1 nonce ad t m))) × (after ≡ lay 0 m out)
    opens_with_cut out room r after h =
        round_trip_with 1 0 p nonce ad m t rounds limits short out room r after (subst (λ (s : List ℕ). OpensWith 1 0 p nonce ad s t out r after) with_cut_is h)
