-- Wrong programs, each with a named input at which its result does not meet the promise; whatever edition and form are named, where it is
-- not said which. The named inputs: a key of 16 zeros, a nonce of 12 zeros, no associated data, 16 bytes of tag, messages of one byte, 0
-- and 1; and what stands with the program. Assumes nothing.
use mathlib.Core.Path.{◌≡◌, refl, sym, ap, ◌∙◌}
use mathlib.Core.Logic.{◌⊎◌, inl, inr}
use mathlib.Core.List.{List, [], ◌∷◌}
use Prim.Native.Nat.{ℕ, ◌+◌, ◌-◌, ◌/◌, ◌≤◌}
use native.Mathlib.Omega.{arith}
use lib.ListN.{length, get_or}
use Rattle.lists.specs.Hex.{bytes}
use Rattle.lists.specs.Zeros.{zeros}
use Rattle.lists.proofs.Laid.{lay_whole}
use Rattle.aes.specs.Expansion.{aes}
use Rattle.mode.specs.Form.{form_of}
use Rattle.mode.specs.declared.edition.Form.TheVariants.{Parallel}
use Rattle.mode.specs.Edition.{edition_of}
use Rattle.mode.specs.declared.edition.Edition.{Edition}
use Rattle.mode.specs.declared.edition.Edition.TheVariants.{V3}
use Rattle.mode.specs.Sealing.{otr}
use Rattle.mode.proofs.Otr.{length-otr, otr_injective}
use Rattle.link.specs.Answers.{Answer, number_of, runs_of}
use Rattle.link.specs.Promises.{Seals, Opens}
use Rattle.link.proofs.Entries.{aes_cipher, aes_ta}
use Rattle.demands.specs.Calls.{first_failing, key_known, seal_checks, open_checks, Named, Limits, formula}
use Rattle.demands.proofs.Limits.{edition_known, form_known}
use Rattle.demands.proofs.Demand1.{sealing_answers, opening_answers}
use Rattle.demands.proofs.Demand2.{is_sealed, round_trip}
use Rattle.demands.proofs.Demand3.{opening}
use Rattle.demands.proofs.Count.{named_alike, sealing_formula, opening_formula}
use Rattle.wrong.proofs.Named.{key, nonce, nonce15, one, m33, from_block, first_some, forms_apart, last_some, laid_apart}

-- buffers of 17 zeros, of one, of 49 and of 16
abbrev pub room : List ℕ
room = bytes 17 0

abbrev pub small : List ℕ
small = 0 ∷ []

abbrev pub room33 : List ℕ
room33 = bytes 49 0

abbrev pub room16 : List ℕ
room16 = bytes 16 0

-- what the message of one byte x seals to
pub s : ℕ → ℕ → ℕ → List ℕ
s edition form x = otr (aes key) (edition_of edition form) nonce [] 16 (one x)

differ : one 0 ≡ one 1 → ⊥
differ e =
    let z : ◌≡◌ {A = ℕ} 0 1 = ap (λ (l : List ℕ). get_or l 0 0) e in
    omega arith

empty : (m : List ℕ) → length m ≡ 0 → m ≡ []
empty [] h = refl
empty (x ∷ m) h = absurd (omega arith)

-- without data, a message of so many bytes runs the cipher as often whatever is named
runs_are : (f : Edition) (m : ℕ) → formula f m 0 ≡ 2 + (m + 15) / 16
runs_are f m = named_alike f (V3 Parallel) m 0 ∙ omega arith

-- edition 3, parallel and serial, and edition 1
pub third_parallel : Named 3 0
third_parallel = inr (refl, omega arith)

pub third_serial : Named 3 1
third_serial = inr (refl, omega arith)

pub first_parallel : Named 1 0
first_parallel = inl (refl, refl)

module _ (edition form : ℕ) (named : Named edition form) where
  within : (k t : ℕ) → (1 ≤ k) × (k ≤ 15) → (4 ≤ t) × (t ≤ 16) → Limits edition form k t 0
  within k t hk ht = record { named = named; nonces = hk; tags = ht; most = omega arith }

  pub limits : Limits edition form 12 16 0
  limits = within 12 16 (omega arith, omega arith) (omega arith, omega arith)

  injective : s edition form 0 ≡ s edition form 1 → ⊥
  unfolding s
  injective e = differ (otr_injective (aes key) (aes_cipher key) (aes key (zeros 16)) (edition_of edition form) nonce [] 16 (aes_ta key (edition_of edition form) []) (omega arith) (omega arith) (one 0) (one 1) e)

  -- a buffer with exactly the room is the sealed string afterwards
  pub all_sealed : (nonce m : List ℕ) (t : ℕ) (room : List ℕ) → Limits edition form (length nonce) t 0 → length m ≤ 16384 → length room ≡ length m + t
      → (r : Answer) (after : List ℕ) → Seals edition form key nonce [] m t room r after → (number_of r ≡ 0) × (after ≡ otr (aes key) (edition_of edition form) nonce [] t m)
  all_sealed nonce m t room f short exact r after p =
      let q = is_sealed edition form key nonce [] m t (inl refl) f short room (omega arith) r after p in
      let long = length-otr (aes key) (aes_cipher key) (aes key (zeros 16)) (edition_of edition form) nonce [] t (aes_ta key (edition_of edition form) []) f.nonces.1 f.tags.1 m in
      (ap number_of q.0, q.1 ∙ lay_whole (otr (aes key) (edition_of edition form) nonce [] t m) room (omega (arith, long)))

  -- so 17 bytes hold the sealed byte afterwards; and one byte, after opening that, the message again
  pub sealed_one : (x : ℕ) (r : Answer) (after : List ℕ) → Seals edition form key nonce [] (one x) 16 room r after → (number_of r ≡ 0) × (after ≡ s edition form x)
  unfolding s
  sealed_one x = all_sealed nonce (one x) 16 room limits (omega arith) refl

  pub opened_one : (x : ℕ) (r : Answer) (after : List ℕ) → Opens edition form key nonce [] (s edition form x) 16 small r after → (number_of r ≡ 0) × (after ≡ one x)
  unfolding s
  opened_one x r after p =
      let q = round_trip edition form key nonce [] (one x) 16 (inl refl) limits (omega arith) small (omega arith) r after p in
      (ap number_of q.0, q.1)

  -- ---- refuses everything
  pub refuses_sealing : (r : Answer) (after : List ℕ) → (number_of r ≡ 0 → ⊥) → Seals edition form key nonce [] (one 0) 16 room r after → ⊥
  refuses_sealing r after z p = z (sealed_one 0 r after p).0

  pub refuses_opening : (r : Answer) (after : List ℕ) → (number_of r ≡ 0 → ⊥) → Opens edition form key nonce [] (s edition form 0) 16 small r after → ⊥
  refuses_opening r after z p = z (opened_one 0 r after p).0

  -- ---- one fixed ciphertext, or message, for all: it cannot be right for both
  pub fixed_ciphertext : (r r' : Answer) (after : List ℕ)
      → Seals edition form key nonce [] (one 0) 16 room r after → Seals edition form key nonce [] (one 1) 16 room r' after → ⊥
  fixed_ciphertext r r' after p q = injective (sym (sealed_one 0 r after p).1 ∙ (sealed_one 1 r' after q).1)

  pub fixed_message : (r r' : Answer) (after : List ℕ)
      → Opens edition form key nonce [] (s edition form 0) 16 small r after → Opens edition form key nonce [] (s edition form 1) 16 small r' after → ⊥
  fixed_message r r' after p q = differ (sym (opened_one 0 r after p).1 ∙ (opened_one 1 r' after q).1)

  -- ---- opening accepts only empty messages: it answers 7 to a sealed byte
  pub only_empty : (r : Answer) (after : List ℕ) → number_of r ≡ 7 → Opens edition form key nonce [] (s edition form 0) 16 small r after → ⊥
  only_empty r after h p = let z = (opened_one 0 r after p).0 in omega arith

  -- ---- opening accepts any tag: an empty message has one tag, and not both of these
  -- what seals to 16 bytes is empty
  none : (m x : List ℕ) → length x ≡ 16 → otr (aes key) (edition_of edition form) nonce [] 16 m ≡ x → m ≡ []
  none m x h e =
      empty m (omega (arith, length-otr (aes key) (aes_cipher key) (aes key (zeros 16)) (edition_of edition form) nonce [] 16 (aes_ta key (edition_of edition form) []) (omega arith) (omega arith) m, ap length e))

  pub any_tag : (r r' : Answer) (a a' : List ℕ) → number_of r ≡ 0 → number_of r' ≡ 0
      → Opens edition form key nonce [] (bytes 16 0) 16 [] r a → Opens edition form key nonce [] (bytes 16 1) 16 [] r' a' → ⊥
  any_tag r r' a a' h h' p q =
      let f = (opening edition form nonce [] (bytes 16 0) 16 [] r a limits (omega arith) (omega arith) (omega arith) key (inl refl) p).done h in
      let g = (opening edition form nonce [] (bytes 16 1) 16 [] r' a' limits (omega arith) (omega arith) (omega arith) key (inl refl) q).done h' in
      let same : f.0 ≡ g.0 = none f.0 (bytes 16 0) refl f.1 ∙ sym (none g.0 (bytes 16 1) refl g.1) in
      let e : bytes 16 0 ≡ bytes 16 1 = sym f.1 ∙ ap (otr (aes key) (edition_of edition form) nonce [] 16) same ∙ g.1 in
      let z : ◌≡◌ {A = ℕ} 0 1 = ap (λ (l : List ℕ). get_or l 15 0) e in
      omega arith

  -- ---- reports one run more on refusal 7: of the two tags one at least is refused, after two runs
  done_with_tag : (b : ℕ) (r : Answer) (after : List ℕ) → (number_of r ≡ 7 → runs_of r ≡ 3) → Opens edition form key nonce [] (bytes 16 b) 16 [] r after → number_of r ≡ 0
  done_with_tag b r after h p = go ((opening_answers edition form key nonce [] (bytes 16 b) 16 [] r after p).through (rw (edition_known edition form named, form_known edition form named)))
    where
      go : (number_of r ≡ 0) ⊎ (number_of r ≡ 7) → number_of r ≡ 0
      go (inl z) = z
      go (inr seven) =
          let two : runs_of r ≡ 2 = opening_formula edition form key nonce [] 16 [] r after (bytes 16 b) p (inr seven) ∙ runs_are (edition_of edition form) 0 in
          let three = h seven in
          absurd (omega arith)

  pub one_more_on_7 : (r r' : Answer) (a a' : List ℕ) → (number_of r ≡ 7 → runs_of r ≡ 3) → (number_of r' ≡ 7 → runs_of r' ≡ 3)
      → Opens edition form key nonce [] (bytes 16 0) 16 [] r a → Opens edition form key nonce [] (bytes 16 1) 16 [] r' a' → ⊥
  one_more_on_7 r r' a a' h h' p q = any_tag r r' a a' (done_with_tag 0 r a h p) (done_with_tag 1 r' a' h' q) p q

  -- ---- is done and writes no message
  pub writes_no_message : (r : Answer) → Opens edition form key nonce [] (s edition form 1) 16 small r small → ⊥
  writes_no_message r p = differ (opened_one 1 r small p).1

  -- ---- copies the plaintext through, or is done and writes nothing: the first byte would still be 0
  pub copies_through : (r : Answer) (after : List ℕ) → get_or after 0 0 ≡ 0 → Seals edition form key nonce [] (one 0) 16 room r after → ⊥
  unfolding s
  copies_through r after h p = first_some (edition_of edition form) (sym (ap (λ (l : List ℕ). get_or l 0 0) (sealed_one 0 r after p).1) ∙ h)

  pub writes_nothing : (r : Answer) → Seals edition form key nonce [] (one 0) 16 room r room → ⊥
  writes_nothing r p = copies_through r room refl p

  -- ---- seals the first pair and copies the rest: of 33 zeros the last byte would still be 0
  pub first_pair_alone : (r : Answer) (after : List ℕ) → get_or after 32 0 ≡ 0 → Seals edition form key nonce [] m33 16 room33 r after → ⊥
  first_pair_alone r after h p =
      last_some (edition_of edition form)
      (sym (ap (λ (l : List ℕ). get_or l 32 0) (all_sealed nonce m33 16 room33 limits (omega arith) refl r after p).1) ∙ h)

  -- the same with the right number of runs: what it reports does not help it
  pub formula_and_first_pair : (r : Answer) (after : List ℕ) → get_or after 32 0 ≡ 0 → runs_of r ≡ formula (edition_of edition form) 33 0
      → Seals edition form key nonce [] m33 16 room33 r after → ⊥
  formula_and_first_pair r after h reported p = first_pair_alone r after h p

  -- ---- reports no runs: one byte takes three
  pub seals_reporting_0 : (r : Answer) (after : List ℕ) → runs_of r ≡ 0 → Seals edition form key nonce [] (one 0) 16 room r after → ⊥
  seals_reporting_0 r after h p =
      let three : runs_of r ≡ 3 = sealing_formula edition form key nonce [] 16 room r after (one 0) p (sealed_one 0 r after p).0 ∙ runs_are (edition_of edition form) 1 in
      omega arith

  pub opens_reporting_0 : (r : Answer) (after : List ℕ) → runs_of r ≡ 0 → Opens edition form key nonce [] (s edition form 0) 16 small r after → ⊥
  unfolding s
  opens_reporting_0 r after h p =
      let long = length-otr (aes key) (aes_cipher key) (aes key (zeros 16)) (edition_of edition form) nonce [] 16 (aes_ta key (edition_of edition form) []) (omega arith) (omega arith) (one 0) in
      let ran = opening_formula edition form key nonce [] 16 small r after (s edition form 0) p (inl (opened_one 0 r after p).0) ∙ runs_are (edition_of edition form) (length (s edition form 0) - 16) in
      omega (arith, long, ran)

  -- ---- counts a run for the empty block of an empty message
  pub counts_the_empty_block : (r : Answer) (after : List ℕ) → runs_of r ≡ 3 → Seals edition form key nonce [] [] 16 room16 r after → ⊥
  counts_the_empty_block r after h p =
      let done_is : number_of r ≡ 0 = (all_sealed nonce [] 16 room16 limits (omega arith) refl r after p).0 in
      let two : runs_of r ≡ 2 = sealing_formula edition form key nonce [] 16 room16 r after [] p done_is ∙ runs_are (edition_of edition form) 0 in
      omega arith

  -- ---- a nonce of 15 bytes and a tag of 15: byte 0 of the nonce block is f1
  limits_15 : Limits edition form 15 15 0
  limits_15 = within 15 15 (omega arith, omega arith) (omega arith, omega arith)

  sealed_15 : (r : Answer) (after : List ℕ) → Seals edition form key nonce15 [] (one 0) 15 room16 r after
      → (number_of r ≡ 0) × (after ≡ otr (aes key) (edition_of edition form) nonce15 [] 15 (one 0))
  sealed_15 = all_sealed nonce15 (one 0) 15 room16 limits_15 (omega arith) refl

  -- refuses it, as before document 02's wish 5
  pub refuses_sealing_15 : (r : Answer) (after : List ℕ) → (number_of r ≡ 0 → ⊥) → Seals edition form key nonce15 [] (one 0) 15 room16 r after → ⊥
  refuses_sealing_15 r after z p = z (sealed_15 r after p).0

  pub refuses_opening_15 : (r : Answer) (after : List ℕ) → (number_of r ≡ 0 → ⊥)
      → Opens edition form key nonce15 [] (otr (aes key) (edition_of edition form) nonce15 [] 15 (one 0)) 15 small r after → ⊥
  refuses_opening_15 r after z p =
      z (ap number_of (round_trip edition form key nonce15 [] (one 0) 15 (inl refl) limits_15 (omega arith) small (omega arith) r after p).0)

  -- ---- takes a nonce of 16 bytes
  pub takes_16 : (r : Answer) (after : List ℕ) → number_of r ≡ 0 → Seals edition form key (bytes 16 0) [] (one 0) 16 room r after → ⊥
  takes_16 r after h p =
      let z : number_of r ≡ 2 = (sealing_answers edition form key (bytes 16 0) [] (one 0) 16 room r after p).0 ∙ rw (edition_known edition form named, form_known edition form named) in
      omega arith

-- ---- with a nonce of 15 bytes, in edition 3: lays the marker over the tag byte, so that the nonce block is 01 and the nonce
pub marker_laid_over : (form : ℕ) → form ≤ 1 → (r : Answer) → Seals 3 form key nonce15 [] (one 0) 15 room16 r (from_block (V3 (form_of form)) (1 ∷ nonce15) 15 (one 0)) → ⊥
marker_laid_over form most r p =
    let laid = from_block (V3 (form_of form)) (1 ∷ nonce15) 15 (one 0) in
    laid_apart (form_of form) (ap (λ (l : List ℕ). get_or l 0 0) (sealed_15 3 form (inr (refl, most)) r laid p).1)

-- ---- takes what one call names for what another does, where the byte 0 seals differently: what the promise of the one allows, that of the
-- other does not
module _ (e f e' f' : ℕ) (named : Named e f) (named' : Named e' f')
    (apart : otr (aes key) (edition_of e f) nonce [] 16 (one 0) ≡ otr (aes key) (edition_of e' f') nonce [] 16 (one 0) → ⊥) (r : Answer) (after : List ℕ) where
  pub seals_as : Seals e f key nonce [] (one 0) 16 room r after → Seals e' f' key nonce [] (one 0) 16 room r after → ⊥
  unfolding s
  seals_as p q = apart (sym (sealed_one e f named 0 r after p).1 ∙ (sealed_one e' f' named' 0 r after q).1)

  -- opening: were it done as the one, with the message that the other wants, both would seal that one alike
  pub opens_as : Opens e f key nonce [] (s e' f' 0) 16 small r after → Opens e' f' key nonce [] (s e' f' 0) 16 small r after → ⊥
  unfolding s
  opens_as p q =
      let g = edition_of e f in
      let h = edition_of e' f' in
      let long = length-otr (aes key) (aes_cipher key) (aes key (zeros 16)) h nonce [] 16 (aes_ta key h []) (omega arith) (omega arith) (one 0) in
      let is = opened_one e' f' named' 0 r after q in
      let o = (opening e f nonce [] (s e' f' 0) 16 small r after (limits e f named) (omega (arith, long)) (omega (arith, long)) (omega (arith, long)) key (inl refl) p).done is.0 in
      let found-long = length-otr (aes key) (aes_cipher key) (aes key (zeros 16)) g nonce [] 16 (aes_ta key g []) (omega arith) (omega arith) o.0 in
      let whole = lay_whole o.0 small (omega (arith, long, found-long, ap length o.1)) in
      apart (ap (otr (aes key) g nonce [] 16) (sym is.1 ∙ o.4 ∙ whole) ∙ o.1)

-- takes every call for parallel
pub seals_as_parallel : (r : Answer) (after : List ℕ)
    → Seals 3 0 key nonce [] (one 0) 16 room r after → Seals 3 1 key nonce [] (one 0) 16 room r after → ⊥
seals_as_parallel = seals_as 3 0 3 1 third_parallel third_serial forms_apart

pub opens_as_parallel : (r : Answer) (after : List ℕ)
    → Opens 3 0 key nonce [] (s 3 1 0) 16 small r after → Opens 3 1 key nonce [] (s 3 1 0) 16 small r after → ⊥
opens_as_parallel = opens_as 3 0 3 1 third_parallel third_serial forms_apart

-- ---- answers a call that is to be refused with n, the number of its first check that fails, with anything else
pub seals_refused : (e f n : ℕ) (key : List ℕ) → first_failing (seal_checks e f (key_known key) nonce [] (one 0) 16 room) ≡ n
    → (r : Answer) (after : List ℕ) → (number_of r ≡ n → ⊥) → Seals e f key nonce [] (one 0) 16 room r after → ⊥
seals_refused e f n key is r after other p = other ((sealing_answers e f key nonce [] (one 0) 16 room r after p).0 ∙ is)

pub opens_refused : (e f n : ℕ) (key x : List ℕ) → first_failing (open_checks e f (key_known key) nonce [] x 16 small) ≡ n → (n ≡ 0 → ⊥)
    → (r : Answer) (after : List ℕ) → (number_of r ≡ n → ⊥) → Opens e f key nonce [] x 16 small r after → ⊥
opens_refused e f n key x is some r after other p =
    other (((opening_answers e f key nonce [] x 16 small r after p).stopped (λ z. some (sym is ∙ z))).0 ∙ is)

-- so one that takes it for a call that is done: what the promise of that one allows, its own does not
module _ (e f : ℕ) (named : Named e f) (e' f' n : ℕ) (some : n ≡ 0 → ⊥) (r : Answer) (after : List ℕ) where
  pub seals_taken : first_failing (seal_checks e' f' (key_known key) nonce [] (one 0) 16 room) ≡ n
      → Seals e f key nonce [] (one 0) 16 room r after → Seals e' f' key nonce [] (one 0) 16 room r after → ⊥
  seals_taken is p = seals_refused e' f' n key is r after (λ z. some (sym z ∙ (sealed_one e f named 0 r after p).0))

  pub opens_taken : first_failing (open_checks e' f' (key_known key) nonce [] (s e f 0) 16 small) ≡ n
      → Opens e f key nonce [] (s e f 0) 16 small r after → Opens e' f' key nonce [] (s e f 0) 16 small r after → ⊥
  opens_taken is p = opens_refused e' f' n key (s e f 0) is some r after (λ z. some (sym z ∙ (opened_one e f named 0 r after p).0))

-- takes form 2 for serial
pub seals_form_2 : (r : Answer) (after : List ℕ)
    → Seals 3 1 key nonce [] (one 0) 16 room r after → Seals 3 2 key nonce [] (one 0) 16 room r after → ⊥
seals_form_2 r after = seals_taken 3 1 third_serial 3 2 8 (λ z. omega arith) r after refl

pub opens_form_2 : (r : Answer) (after : List ℕ)
    → Opens 3 1 key nonce [] (s 3 1 0) 16 small r after → Opens 3 2 key nonce [] (s 3 1 0) 16 small r after → ⊥
opens_form_2 r after = opens_taken 3 1 third_serial 3 2 8 (λ z. omega arith) r after refl

-- answers 1 before 8: the form is 2, and the key has 17 bytes
pub seals_1_before_8 : (r : Answer) (after : List ℕ) → number_of r ≡ 1 → Seals 3 2 (bytes 17 0) nonce [] (one 0) 16 room r after → ⊥
seals_1_before_8 r after h = seals_refused 3 2 8 (bytes 17 0) refl r after (λ z. omega arith)

pub opens_1_before_8 : (r : Answer) (after : List ℕ) → number_of r ≡ 1 → Opens 3 2 (bytes 17 0) nonce [] (s 3 1 0) 16 small r after → ⊥
opens_1_before_8 r after h = opens_refused 3 2 8 (bytes 17 0) (s 3 1 0) refl (λ z. omega arith) r after (λ z. omega arith)
