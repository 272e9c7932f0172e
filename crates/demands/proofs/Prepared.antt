-- Document 02, wish 9: what preparing gives; and for a record that it gave, the answers are those of its key, in number, length and
-- buffer, for every input. The runs are fewer by the zero block's one where there is associated data, and equal where there is none.
-- Assumes nothing.
use mathlib.Core.Path.{◌≡◌, refl, sym, ap, subst, ◌∙◌}
use mathlib.Core.Bool.{Bool, true, false}
use mathlib.Core.Logic.{◌⊎◌, inl, inr}
use mathlib.Core.List.{List, ◌++◌}
use Prim.Native.Nat.{ℕ, ◌+◌, ◌-◌, ◌≤◌}
use native.Mathlib.Nat.{zero-add}
use native.Mathlib.Omega.{arith}
use lib.ListN.{length, length-append}
use Rattle.std.specs.Prelude.{Ok, Err}
use Rattle.lists.specs.Lay.{lay}
use Rattle.lists.specs.Zeros.{zeros}
use Rattle.aes.specs.Expansion.{aes}
use Rattle.aes.specs.Key.{expanded}
use Rattle.mode.specs.Edition.{edition_of}
use Rattle.mode.specs.Data.{q_inputs, with_data}
use Rattle.mode.specs.Sealing.{otr_from, from_inputs}
use Rattle.mode.specs.Opening.{Opened, accepted, refused, Allowed}
use Rattle.mode.specs.Undoing.{found_from_inputs}
use Rattle.mode.proofs.Runs.{length-q_inputs}
use Rattle.link.specs.Answers.{Answer, done, number_of, length_of, runs_of, answer_of}
use Rattle.link.specs.Checks.{Check, known_key, known_rounds, call_check, seal_next, open_next}
use Rattle.link.specs.Prepared.{cipher_of, prepared_if, preparation}
use Rattle.link.specs.Promises.{sealing, seal_runs, open_runs, SealsBy, Seals, opened_as, OpensBy, Opens, sealing_with, seal_runs_with, open_runs_with, SealsWith, OpensWith}
use Rattle.link.specs.declared.answer.Refusal.{Refusal}
use Rattle.link.specs.declared.answer.Refusal.TheVariants.{Key, Forged}
use Rattle.link.specs.declared.prepared.Prepared.{Prepared}
use Rattle.link.proofs.Answers.{never_0, Answered, finished, forged, planned, refusal, answered, stands_for, parts, no_runs}
use Rattle.link.proofs.Verdicts.{Verdict, sure, SealFits, OpenFits, seal_verdict, open_verdict}
use Rattle.link.proofs.Entries.{rounds_known_lem, under_record}
use Rattle.demands.specs.Calls.{key_known, OneOf}
use Rattle.demands.proofs.Decided.{seals_decided, opens_decided}
use Rattle.demands.proofs.Demand1.{stop_number, seal_not_7, open_not_7}
use Rattle.demands.proofs.Limits.{known}

-- ---- what preparing gives
-- a key of 16, 24 or 32 bytes: done after one run, with its round count and round keys, those not used zero, and E(zero)
pub prepares : (key : List ℕ) → OneOf 16 24 32 (length key)
    → preparation key ≡ record { answer = done 0 1; key = record { rounds = (expanded key).rounds; words = (expanded key).words; zero = aes key (zeros 16) } }
unfolding preparation
prepares key keys = ap (λ (b : Bool). prepared_if b key) (known 16 24 32 (length key) keys)

-- a key of another length: 1 after no run, with a record of zeros
pub refuses : (key : List ℕ) → key_known key ≡ false
    → preparation key ≡ record { answer = Err Key; key = record { rounds = 0; words = zeros 240; zero = zeros 16 } }
unfolding preparation
refuses key h = ap (λ (b : Bool). prepared_if b key) h

-- ---- the record that `prepare` gives for a key
module _ (key : List ℕ) where
  abbrev pub prepared : Prepared
  prepared = (preparation key).key

  -- check 1 comes to the same
  known_alike : known_rounds prepared.rounds ≡ known_key (length key)
  unfolding preparation
  known_alike = go (known_key (length key)) refl
    where
      go : (b : Bool) → known_key (length key) ≡ b → known_rounds (prepared_if b key).key.rounds ≡ b
      go true h = rounds_known_lem key h
      go false h = refl

  -- and where it passes, the cipher and the first mask are the key's
  module _ (h : known_key (length key) ≡ true) where
    under_key : {A : Type 0} (f : (List ℕ → List ℕ) → List ℕ → A) → f (cipher_of prepared) prepared.zero ≡ f (aes key) (aes key (zeros 16))
    unfolding preparation
    under_key f = under_record key h f prepared (aes key (zeros 16)) (ap (λ (b : Bool). (prepared_if b key).key) h)

-- ---- an answer with z runs more
module _ (z : ℕ) where
  abbrev pub more : Answer → Answer
  more r = answer_of (number_of r) (length_of r) (z + runs_of r)

  -- number and length stay, and so does an answer that ran no cipher
  same_number : (r : Answer) → (number_of (more r) ≡ number_of r) × (length_of (more r) ≡ length_of r)
  same_number r = go (answered r)
    where
      go : Answered r → (number_of (more r) ≡ number_of r) × (length_of (more r) ≡ length_of r)
      go (finished n k e) = (ap (λ (x : Answer). number_of (more x)) e ∙ sym (ap number_of e), ap (λ (x : Answer). length_of (more x)) e ∙ sym (ap length_of e))
      go (forged k e) = (ap (λ (x : Answer). number_of (more x)) e ∙ sym (ap number_of e), ap (λ (x : Answer). length_of (more x)) e ∙ sym (ap length_of e))
      go (planned e) = (ap (λ (x : Answer). number_of (more x)) e ∙ sym (ap number_of e), ap (λ (x : Answer). length_of (more x)) e ∙ sym (ap length_of e))
      go (refusal most none runs stands) =
          let is = sym (stands (length_of r) (z + runs_of r)) in
          (ap number_of is, ap length_of is)

  stays : (x : Answer) → (number_of x ≡ 0 → ⊥) → (number_of x ≡ 7 → ⊥) → more x ≡ x
  stays x not0 not7 = sym (stands_for x (length_of x) (z + runs_of x) (λ h. refl) never)
    where
      never : (number_of x ≡ 0) ⊎ (number_of x ≡ 7) → runs_of x ≡ z + runs_of x
      never (inl h) = absurd (not0 h)
      never (inr h) = absurd (not7 h)

  runs_more : (r : Answer) → (number_of r ≡ 0) ⊎ (number_of r ≡ 7) → runs_of (more r) ≡ z + runs_of r
  runs_more r (inl h) = ap (λ (i : ℕ). runs_of (answer_of i (length_of r) (z + runs_of r))) h
  runs_more r (inr h) = ap (λ (i : ℕ). runs_of (answer_of i (length_of r) (z + runs_of r))) h

  more_seals : (c : Check) (k k' : ℕ) (bytes bytes' out : List ℕ) (r : Answer) (after : List ℕ) → ((x : Refusal) → c ≡ Err x → more (Err x) ≡ Err x)
      → ((n : ℕ) → c ≡ Ok n → (z + k ≡ k') × (bytes ≡ bytes')) → SealsBy c k bytes out r after → SealsBy c k' bytes' out (more r) after
  more_seals (Ok n) k k' bytes bytes' out r after at-stop at-pass p =
      let same = at-pass n refl in
      (ap more p.0 ∙ ap (done n) same.0, p.1 ∙ ap (λ (b : List ℕ). lay 0 b out) same.1)
  more_seals (Err x) k k' bytes bytes' out r after at-stop at-pass p = (ap more p.0 ∙ at-stop x refl, p.1)

  opened_more : (n k k' : ℕ) (o : Opened) → z + k ≡ k' → more (opened_as n k o) ≡ opened_as n k' o
  opened_more n k k' (accepted m) h = ap (done n) h
  opened_more n k k' refused h = ap (λ (i : ℕ). Err (Forged i)) h

  more_opens : (c : Check) (k k' : ℕ) (seal seal' : List ℕ → List ℕ) (s out : List ℕ) (r : Answer) (after : List ℕ) → ((x : Refusal) → c ≡ Err x → more (Err x) ≡ Err x)
      → ((n : ℕ) → c ≡ Ok n → (z + k ≡ k') × (seal ≡ seal')) → OpensBy c k seal s out r after → OpensBy c k' seal' s out (more r) after
  more_opens (Ok n) k k' seal seal' s out r after at-stop at-pass (o, a, is, b) =
      let same = at-pass n refl in
      (o, subst (λ (f : List ℕ → List ℕ). Allowed f s o) same.1 a, ap more is ∙ opened_more n k k' o same.0, b)
  more_opens (Err x) k k' seal seal' s out r after at-stop at-pass p = (ap more p.0 ∙ at-stop x refl, p.1)

-- what checks stop with ran no cipher
stopped : (c : Check) (z : ℕ) → (stop_number c ≡ 7 → ⊥) → (x : Refusal) → c ≡ Err x → more z (Err x) ≡ Err x
stopped c z not7 x e = stays z (Err x) (never_0 x) (λ h. not7 (ap stop_number e ∙ h))

-- the zero block's run, which a raw key's call has where there is data; and with it the runs that it has with its first mask at hand
abbrev pub zero_run : List ℕ → ℕ
zero_run ad = length (q_inputs (with_data ad))

and_zero : (ad : List ℕ) (k : ℕ) (own : List (List ℕ)) → k ≡ length own → zero_run ad + k ≡ length (q_inputs (with_data ad) ++ own)
and_zero ad k own h = ap (λ (i : ℕ). zero_run ad + i) h ∙ sym (length-append (q_inputs (with_data ad)) own)

-- ---- under the record of a key: with the zero block's run the answer is one that the key's promise allows
module _ (edition form : ℕ) (key nonce ad : List ℕ) (t : ℕ) (out : List ℕ) where
  pub seals_as_key : (m : List ℕ) (r : Answer) (after : List ℕ) → SealsWith edition form (prepared key) nonce ad m t out r after → Seals edition form key nonce ad m t out (more (zero_run ad) r) after
  unfolding Seals SealsWith
  seals_as_key m r after h =
      more_seals (zero_run ad) c (seal_runs_with edition form (prepared key) nonce ad t m) (seal_runs edition form key nonce ad t m) (sealing_with edition form (prepared key) nonce ad t m) (sealing edition form key nonce ad t m) out r after
      (stopped c (zero_run ad) (seal_not_7 edition form (known_key (length key)) nonce ad m t out))
      (λ n e. let is = (sure verdict n e).0.0.known in (
        and_zero ad _ (from_inputs (aes key) (aes key (zeros 16)) (edition_of edition form) nonce ad t m) (under_key key is (λ E q. length (from_inputs E q (edition_of edition form) nonce ad t m))),
        under_key key is (λ E q. otr_from E q (edition_of edition form) nonce ad t m),
      ))
      (subst (λ (b : Bool). SealsBy (call_check edition form b (length nonce) t (length ad) (seal_next t (length m) (length out))) (seal_runs_with edition form (prepared key) nonce ad t m) (sealing_with edition form (prepared key) nonce ad t m) out r after)
      (known_alike key) h)
    where
      c : Check
      c = call_check edition form (known_key (length key)) (length nonce) t (length ad) (seal_next t (length m) (length out))

      verdict : Verdict (SealFits edition form (known_key (length key)) (length nonce) t (length ad) (length m) (length out)) (length m + t) c
      verdict = seal_verdict edition form (known_key (length key)) (length nonce) t (length ad) (length m) (length out)

  pub opens_as_key : (s : List ℕ) (r : Answer) (after : List ℕ) → OpensWith edition form (prepared key) nonce ad s t out r after → Opens edition form key nonce ad s t out (more (zero_run ad) r) after
  unfolding Opens OpensWith
  opens_as_key s r after h =
      more_opens (zero_run ad) c (open_runs_with edition form (prepared key) nonce ad t s) (open_runs edition form key nonce ad t s) (sealing_with edition form (prepared key) nonce ad t) (sealing edition form key nonce ad t) s out r after
      (stopped c (zero_run ad) (open_not_7 edition form (known_key (length key)) nonce ad s t out))
      (λ n e. let is = (sure verdict n e).0.0.known in (
        and_zero ad _ (found_from_inputs (aes key) (aes key (zeros 16)) (edition_of edition form) nonce ad t s) (under_key key is (λ E q. length (found_from_inputs E q (edition_of edition form) nonce ad t s))),
        under_key key is (λ E q. otr_from E q (edition_of edition form) nonce ad t),
      ))
      (subst (λ (b : Bool). OpensBy (call_check edition form b (length nonce) t (length ad) (open_next t (length s) (length out))) (open_runs_with edition form (prepared key) nonce ad t s) (sealing_with edition form (prepared key) nonce ad t) s out r after)
      (known_alike key) h)
    where
      c : Check
      c = call_check edition form (known_key (length key)) (length nonce) t (length ad) (open_next t (length s) (length out))

      verdict : Verdict (OpenFits edition form (known_key (length key)) (length nonce) t (length ad) (length s) (length out)) (length s - t) c
      verdict = open_verdict edition form (known_key (length key)) (length nonce) t (length ad) (length s) (length out)

-- ---- so the answers r under the record and r' under the key are alike
pub record Alike (ad : List ℕ) (r r' : Answer) (after after' : List ℕ) : Type 0 where
  pub number : number_of r ≡ number_of r'
  pub long : length_of r ≡ length_of r'
  pub buffer : after ≡ after'
  -- the runs: one fewer with data, where the cipher ran, and none where it did not; and equal without data
  pub one_fewer : 1 ≤ length ad → (number_of r ≡ 0) ⊎ (number_of r ≡ 7) → 1 + runs_of r ≡ runs_of r'
  pub none : (number_of r ≡ 0 → ⊥) → (number_of r ≡ 7 → ⊥) → (runs_of r ≡ 0) × (runs_of r' ≡ 0)
  pub equal : length ad ≡ 0 → runs_of r ≡ runs_of r'

alike : (ad : List ℕ) (r r' : Answer) (after after' : List ℕ) → (more (zero_run ad) r ≡ r') × (after ≡ after') → Alike ad r r' after after'
alike ad r r' after after' (is, same) =
    let z = zero_run ad in
    let number_is = sym (same_number z r).0 ∙ ap number_of is in
    let without : length ad ≡ 0 → z ≡ 0 = λ h. omega (arith, length-q_inputs ad) in
    record {
      number = number_is;
      long = sym (same_number z r).1 ∙ ap length_of is;
      buffer = same;
      one_fewer = λ some ran. let one : z ≡ 1 = omega (arith, length-q_inputs ad) in ap (λ (k : ℕ). k + runs_of r) (sym one) ∙ sym (runs_more z r ran) ∙ ap runs_of is;
      none = λ not0 not7. (no_runs r not0 not7, no_runs r' (λ h. not0 (number_is ∙ h)) (λ h. not7 (number_is ∙ h)));
      equal = λ h. ap runs_of (parts r ∙ ap (answer_of (number_of r) (length_of r)) (sym (zero-add (runs_of r)) ∙ ap (λ (k : ℕ). k + runs_of r) (sym (without h))) ∙ is);
    }

module _ (edition form : ℕ) (key nonce ad : List ℕ) (t : ℕ) (out : List ℕ) (r r' : Answer) (after after' : List ℕ) where
  pub seals_alike : (m : List ℕ) → SealsWith edition form (prepared key) nonce ad m t out r after → Seals edition form key nonce ad m t out r' after' → Alike ad r r' after after'
  seals_alike m h h' =
      alike ad r r' after after' (seals_decided edition form key nonce ad m t out _ r' after after' (seals_as_key edition form key nonce ad t out m r after h) h')

  pub opens_alike : (s : List ℕ) → OpensWith edition form (prepared key) nonce ad s t out r after → Opens edition form key nonce ad s t out r' after' → Alike ad r r' after after'
  opens_alike s h h' =
      alike ad r r' after after' (opens_decided edition form key nonce ad s t out _ r' after after' (opens_as_key edition form key nonce ad t out s r after h) h')

-- and a wrong program that the key's promise rules out by its number and buffer, that of the record rules out too
module _ (edition form : ℕ) (key nonce ad body : List ℕ) (t : ℕ) (out : List ℕ) (Bad : ℕ → List ℕ → Type 0) (r : Answer) (after : List ℕ) (bad : Bad (number_of r) after) where
  bad_too : Bad (number_of (more (zero_run ad) r)) after
  bad_too = subst (λ (i : ℕ). Bad i after) (sym (same_number (zero_run ad) r).0) bad

  pub seals_ruled_out : ((x : Answer) (a : List ℕ) → Bad (number_of x) a → Seals edition form key nonce ad body t out x a → ⊥) → SealsWith edition form (prepared key) nonce ad body t out r after → ⊥
  seals_ruled_out never h = never _ after bad_too (seals_as_key edition form key nonce ad t out body r after h)

  pub opens_ruled_out : ((x : Answer) (a : List ℕ) → Bad (number_of x) a → Opens edition form key nonce ad body t out x a → ⊥) → OpensWith edition form (prepared key) nonce ad body t out r after → ⊥
  opens_ruled_out never h = never _ after bad_too (opens_as_key edition form key nonce ad t out body r after h)
