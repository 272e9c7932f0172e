-- Wrong programs of document 02's wish 9, each with named inputs at which its result does not meet the promise; whatever edition and form
-- are named. The named inputs are those of `Calls`, with one byte of associated data, 0, and the record of `Held`. What the promises of a
-- raw key rule out by number and buffer, those of its record rule out too (`demands`, `Prepared`, `seals_ruled_out` and
-- `opens_ruled_out`). Assumes nothing.
use mathlib.Core.Path.{◌≡◌, refl, sym, ap, ◌∙◌}
use mathlib.Core.Logic.{◌⊎◌, inl, inr}
use mathlib.Core.List.{List, ◌++◌}
use Prim.Native.Nat.{ℕ, suc, ◌+◌}
use native.Mathlib.Omega.{arith}
use lib.ListN.{length, get_or}
use Rattle.lists.specs.Hex.{bytes}
use Rattle.lists.specs.Lay.{lay}
use Rattle.lists.specs.Zeros.{zeros}
use Rattle.lists.proofs.Laid.{lay_whole}
use Rattle.aes.specs.Key.{size_of, expanded}
use Rattle.mode.specs.Edition.{edition_of}
use Rattle.mode.specs.Sealing.{otr_from}
use Rattle.mode.proofs.Otr.{length-otr}
use Rattle.pairs.proofs.Cipher.{is_cipher, length-ta}
use Rattle.link.specs.Answers.{Answer, number_of}
use Rattle.link.specs.Prepared.{cipher_of, preparation}
use Rattle.link.specs.Promises.{SealsWith, OpensWith}
use Rattle.link.specs.declared.prepared.Prepared.{Prepared}
use Rattle.link.specs.declared.prepared.Preparation.{Preparation}
use Rattle.demands.specs.Calls.{first_failing, rounds_known, open_checks, Named, Limits}
use Rattle.demands.proofs.Limits.{edition_known, form_known}
use Rattle.demands.proofs.Demand1.{sealing_with_answers, opening_with_answers}
use Rattle.demands.proofs.Demand2.{is_sealed_with, round_trip_with}
use Rattle.demands.proofs.Demand3.{opening_with}
use Rattle.wrong.proofs.Named.{key, nonce, one, w, w_is}
use Rattle.wrong.proofs.Held.{held, masks_apart}
use Rattle.wrong.proofs.Calls.{room, small}

-- what the byte 0 seals to under the record with the first mask q
abbrev pub sealed_held : ℕ → ℕ → List ℕ → List ℕ
sealed_held edition form q = otr_from (cipher_of (held q)) q (edition_of edition form) nonce (one 0) 16 (one 0)

-- E(zero)
abbrev pub own_mask : List ℕ
own_mask = cipher_of (held (zeros 16)) (zeros 16)

module _ (edition form : ℕ) (named : Named edition form) where
  limits : Limits edition form 12 16 1
  limits = record { named = named; nonces = (omega arith, omega arith); tags = (omega arith, omega arith); most = omega arith }

  long : (q m : List ℕ) → length (otr_from (cipher_of (held q)) q (edition_of edition form) nonce (one 0) 16 m) ≡ length m + 16
  long q = length-otr (cipher_of (held q)) (is_cipher 10 (w ++ zeros 64)) q (edition_of edition form) nonce (one 0) 16 (length-ta 10 (w ++ zeros 64) q (edition_of edition form) (one 0)) (omega arith) (omega arith)

  -- 17 bytes hold the sealed byte afterwards
  sealed_held_lem : (q : List ℕ) (r : Answer) (after : List ℕ) → SealsWith edition form (held q) nonce (one 0) (one 0) 16 room r after → (number_of r ≡ 0) × (after ≡ sealed_held edition form q)
  sealed_held_lem q r after p =
      let s = is_sealed_with edition form (held q) nonce (one 0) (one 0) 16 (inl refl) limits (omega arith) room (omega arith) r after p in
      (ap number_of s.0, s.1 ∙ lay_whole (sealed_held edition form q) room (omega (arith, long q (one 0))))

  -- ---- ciphers the zero block itself and ignores the record's mask: what is right for the mask E(zero) is not for one of zeros
  pub seals_ignoring_mask : (r r' : Answer) (after : List ℕ)
      → SealsWith edition form (held own_mask) nonce (one 0) (one 0) 16 room r after → SealsWith edition form (held (zeros 16)) nonce (one 0) (one 0) 16 room r' after → ⊥
  seals_ignoring_mask r r' after p q = masks_apart (edition_of edition form) (sym (sealed_held_lem own_mask r after p).1 ∙ (sealed_held_lem (zeros 16) r' after q).1)

  -- opening what the record sealed, whatever runs it reports: were it done with the right message, both masks would seal that one alike
  pub opens_ignoring_mask : (r r' : Answer) (after : List ℕ) → number_of r ≡ number_of r'
      → OpensWith edition form (held own_mask) nonce (one 0) (sealed_held edition form (zeros 16)) 16 small r after
      → OpensWith edition form (held (zeros 16)) nonce (one 0) (sealed_held edition form (zeros 16)) 16 small r' after → ⊥
  opens_ignoring_mask r r' after same p q =
      let right = round_trip_with edition form (held (zeros 16)) nonce (one 0) (one 0) 16 (inl refl) limits (omega arith) small (omega arith) r' after q in
      let s_long = long (zeros 16) (one 0) in
      let f = (opening_with edition form nonce (one 0) (sealed_held edition form (zeros 16)) 16 small r after limits (omega (arith, s_long)) (omega (arith, s_long)) (omega (arith, s_long)) (held own_mask) (inl refl) p).done
      (same ∙ ap number_of right.0) in
      let whole = lay_whole f.0 small (omega (arith, s_long, long own_mask f.0, ap length f.1)) in
      masks_apart (edition_of edition form) (ap (otr_from (cipher_of (held own_mask)) own_mask (edition_of edition form) nonce (one 0) 16) (sym right.1 ∙ f.4 ∙ whole) ∙ f.1)

  -- ---- takes 11 rounds, whatever the round keys and the mask are
  module _ (words zero : List ℕ) (r : Answer) (after : List ℕ) where
    abbrev eleven : Prepared
    eleven = record { rounds = 11; words = words; zero = zero }

    pub seals_11_rounds : number_of r ≡ 0 → SealsWith edition form eleven nonce (one 0) (one 0) 16 room r after → ⊥
    seals_11_rounds h p =
        let z : number_of r ≡ 1 = (sealing_with_answers edition form eleven nonce (one 0) (one 0) 16 room r after p).0 ∙ rw (edition_known edition form named, form_known edition form named) in
        omega arith

    pub opens_11_rounds : (number_of r ≡ 0) ⊎ (number_of r ≡ 7) → OpensWith edition form eleven nonce (one 0) room 16 small r after → ⊥
    opens_11_rounds h p = go h
      where
        first : first_failing (open_checks edition form (rounds_known eleven) nonce (one 0) room 16 small) ≡ 1
        first = rw (edition_known edition form named, form_known edition form named)

        one_is : number_of r ≡ 1
        one_is = ((opening_with_answers edition form eleven nonce (one 0) room 16 small r after p).stopped (λ z. omega (arith, first))).0 ∙ first

        go : (number_of r ≡ 0) ⊎ (number_of r ≡ 7) → ⊥
        go (inl z) = omega (arith, one_is)
        go (inr z) = omega (arith, one_is)

-- ---- a `prepare` that leaves the words not used as they were: for the named key the last byte is one of them, and was not 0
words_are : (preparation key).key.words ≡ lay 0 w (zeros 240)
unfolding preparation expanded size_of
words_are = ap (λ (k : List ℕ). lay 0 k (zeros 240)) w_is

last_is : get_or (lay 0 w (zeros 240)) 239 0 ≡ 0
unfolding w zeros
last_is = refl

pub leaves_unused : (x : ℕ) (r : Preparation) → get_or r.key.words 239 0 ≡ suc x → r ≡ preparation key → ⊥
leaves_unused x r h is =
    let z : suc x ≡ 0 = sym h ∙ ap (λ (q : Preparation). get_or q.key.words 239 0) is ∙ ap (λ (l : List ℕ). get_or l 239 0) words_are ∙ last_is in
    omega arith

-- ---- a `prepare` that takes a key of 17 bytes, or refuses it with a record that is not zero
pub takes_17 : (r : Preparation) → (number_of r.answer ≡ 0) ⊎ (r.key.rounds ≡ 10) → r ≡ preparation (bytes 17 0) → ⊥
unfolding preparation
takes_17 r (inl h) is = let z : number_of r.answer ≡ 1 = ap (λ (q : Preparation). number_of q.answer) is in omega arith
takes_17 r (inr h) is = let z : r.key.rounds ≡ 0 = ap (λ (q : Preparation). q.key.rounds) is in omega arith
