-- Document 02, wish 6: each answer also reports how many times the cipher ran. Sealing with answer 0, and opening with 0 or 7, report how
-- many blocks the definitions list as handed to the cipher; every other refusal reports 0. Assumes nothing.
use mathlib.Core.Path.{◌≡◌, sym, ap, ap₂, ◌∙◌}
use mathlib.Core.Bool.{Bool}
use mathlib.Core.Logic.{◌⊎◌, inl, inr}
use mathlib.Core.List.{List, ◌++◌}
use Prim.Native.Nat.{ℕ, zero, suc, ◌+◌, ◌-◌, ◌/◌, min}
use native.Mathlib.Omega.{arith}
use lib.ListN.{length, length-append}
use Rattle.std.specs.Prelude.{Ok, Err}
use Rattle.lists.specs.Zeros.{zeros}
use Rattle.aes.specs.Expansion.{aes}
use Rattle.mode.specs.declared.edition.Form.TheVariants.{Parallel, Serial}
use Rattle.mode.specs.Edition.{edition_of}
use Rattle.mode.specs.declared.edition.Edition.{Edition}
use Rattle.mode.specs.declared.edition.Edition.TheVariants.{V1, V3}
use Rattle.mode.specs.Data.{q_inputs, with_data}
use Rattle.mode.specs.Sealing.{from_inputs, otr_inputs}
use Rattle.mode.specs.Opening.{accepted, refused}
use Rattle.mode.specs.Undoing.{found_from_inputs, found_inputs}
use Rattle.mode.proofs.Runs.{length-q_inputs, length-from_inputs, length-found_from_inputs}
use Rattle.link.specs.Answers.{Answer, number_of, runs_of}
use Rattle.link.specs.Checks.{Check, call_check, seal_next, open_next}
use Rattle.link.specs.Prepared.{cipher_of}
use Rattle.link.specs.Promises.{sealing, seal_runs, open_runs, SealsBy, Seals, OpensBy, Opens, sealing_with, seal_runs_with, open_runs_with, SealsWith, OpensWith}
use Rattle.link.specs.declared.prepared.Prepared.{Prepared}
use Rattle.link.proofs.Answers.{never_0, no_runs}
use Rattle.link.proofs.Verdicts.{sealing_done, seal_verdict}
use Rattle.demands.specs.Calls.{key_known, rounds_known, formula, formula_with}
use Rattle.demands.proofs.Demand1.{stop_number, answers_not_7, open_not_7}

-- what an answer r reports of a call that hands the cipher k blocks if it comes to that
pub record Counts (k : ℕ) (r : Answer) : Type 0 where
  pub ran : (number_of r ≡ 0) ⊎ (number_of r ≡ 7) → runs_of r ≡ k
  pub refused : (number_of r ≡ 0 → ⊥) → (number_of r ≡ 7 → ⊥) → runs_of r ≡ 0

by_open : (c : Check) (k : ℕ) (seal : List ℕ → List ℕ) (s out : List ℕ) (r : Answer) (after : List ℕ)
    → (stop_number c ≡ 7 → ⊥) → OpensBy c k seal s out r after → (number_of r ≡ 0) ⊎ (number_of r ≡ 7) → runs_of r ≡ k
by_open (Ok n) k seal s out r after not7 (accepted m, q, h, e) z = ap runs_of h
by_open (Ok n) k seal s out r after not7 (refused, q, h, e) z = ap runs_of h
by_open (Err x) k seal s out r after not7 p (inl z) = absurd (never_0 x (sym (ap number_of p.0) ∙ z))
by_open (Err x) k seal s out r after not7 p (inr z) = absurd (not7 (sym (ap number_of p.0) ∙ z))

-- whatever seals, once the checks have passed
module _ (edition form : ℕ) (known : Bool) (nonce ad : List ℕ) (t : ℕ) (out : List ℕ) (r : Answer) (after : List ℕ) (k : ℕ) where
  seal_counts : (m bytes : List ℕ) → SealsBy (call_check edition form known (length nonce) t (length ad) (seal_next t (length m) (length out))) k bytes out r after → Counts k r
  seal_counts m bytes p = record { ran = ran; refused = no_runs r }
    where
      ran : (number_of r ≡ 0) ⊎ (number_of r ≡ 7) → runs_of r ≡ k
      ran (inl z) =
          ap runs_of (sealing_done (seal_verdict edition form known (length nonce) t (length ad) (length m) (length out)) k bytes out r after p z).1
      ran (inr h) = absurd (answers_not_7 edition form known nonce ad m t out k bytes r after p h)

  open_counts : (s : List ℕ) (seal : List ℕ → List ℕ) → OpensBy (call_check edition form known (length nonce) t (length ad) (open_next t (length s) (length out))) k seal s out r after
      → Counts k r
  open_counts s seal p =
      record {
        ran = by_open (call_check edition form known (length nonce) t (length ad) (open_next t (length s) (length out))) k seal s out r after (open_not_7 edition form known nonce ad s t out) p;
        refused = no_runs r;
      }

-- ---- under a raw key
module _ (edition form : ℕ) (key nonce ad : List ℕ) (t : ℕ) (out : List ℕ) (r : Answer) (after : List ℕ) where
  pub sealing_counts : (m : List ℕ) → Seals edition form key nonce ad m t out r after → Counts (length (otr_inputs (aes key) (edition_of edition form) nonce ad t m)) r
  unfolding Seals
  sealing_counts m = seal_counts edition form (key_known key) nonce ad t out r after (seal_runs edition form key nonce ad t m) m (sealing edition form key nonce ad t m)

  pub opening_counts : (s : List ℕ) → Opens edition form key nonce ad s t out r after → Counts (length (found_inputs (aes key) (edition_of edition form) nonce ad t s)) r
  unfolding Opens
  opening_counts s = open_counts edition form (key_known key) nonce ad t out r after (open_runs edition form key nonce ad t s) s (sealing edition form key nonce ad t)

-- ---- under a prepared key
module _ (edition form : ℕ) (p : Prepared) (nonce ad : List ℕ) (t : ℕ) (out : List ℕ) (r : Answer) (after : List ℕ) where
  pub sealing_with_counts : (m : List ℕ) → SealsWith edition form p nonce ad m t out r after → Counts (length (from_inputs (cipher_of p) p.zero (edition_of edition form) nonce ad t m)) r
  unfolding SealsWith
  sealing_with_counts m = seal_counts edition form (rounds_known p) nonce ad t out r after (seal_runs_with edition form p nonce ad t m) m (sealing_with edition form p nonce ad t m)

  pub opening_with_counts : (s : List ℕ) → OpensWith edition form p nonce ad s t out r after → Counts (length (found_from_inputs (cipher_of p) p.zero (edition_of edition form) nonce ad t s)) r
  unfolding OpensWith
  opening_with_counts s = open_counts edition form (rounds_known p) nonce ad t out r after (open_runs_with edition form p nonce ad t s) s (sealing_with edition form p nonce ad t)

-- ---- the formulas, by lengths alone
formula_is : (f : Edition) (m ad : ℕ) → min 1 ad + (2 + (m + 15) / 16 + (ad + 15) / 16) ≡ formula f m ad
formula_is V1 m zero = omega arith
formula_is V1 m (suc b) = omega arith
formula_is (V3 Parallel) m zero = omega arith
formula_is (V3 Parallel) m (suc b) = omega arith
formula_is (V3 Serial) m zero = omega arith
formula_is (V3 Serial) m (suc b) = omega arith

-- whatever is named runs the cipher equally often: the two forms, and the two editions
pub named_alike : (f g : Edition) (m ad : ℕ) → formula f m ad ≡ formula g m ad
named_alike f g m ad = sym (formula_is f m ad) ∙ formula_is g m ad

pub forms_alike : (m ad : ℕ) → formula (V3 Serial) m ad ≡ formula (V3 Parallel) m ad
forms_alike = named_alike (V3 Serial) (V3 Parallel)

pub editions_alike : (m ad : ℕ) → formula V1 m ad ≡ formula (V3 Parallel) m ad
editions_alike = named_alike V1 (V3 Parallel)

-- a prepared key loses the one for the zero block
pub one_less : (f : Edition) (m ad : ℕ) → formula f m ad ≡ min 1 ad + formula_with m ad
one_less f m ad = sym (formula_is f m ad)

module _ (edition form : ℕ) (key nonce ad : List ℕ) (t : ℕ) where
  -- the runs for the first mask and those with it at hand
  with_zero : (others : List (List ℕ)) (m : ℕ) → length others ≡ 2 + (m + 15) / 16 + (length ad + 15) / 16
      → length (q_inputs (with_data ad) ++ others) ≡ formula (edition_of edition form) m (length ad)
  with_zero others m h =
      length-append (q_inputs (with_data ad)) others ∙ ap₂ ◌+◌ (length-q_inputs ad) h ∙ formula_is (edition_of edition form) m (length ad)

  pub seal_runs_lem : (m : List ℕ) → seal_runs edition form key nonce ad t m ≡ formula (edition_of edition form) (length m) (length ad)
  seal_runs_lem m = with_zero _ (length m) (length-from_inputs (aes key) (aes key (zeros 16)) (edition_of edition form) nonce ad t m)

  pub open_runs_lem : (s : List ℕ) → open_runs edition form key nonce ad t s ≡ formula (edition_of edition form) (length s - t) (length ad)
  open_runs_lem s = with_zero _ (length s - t) (length-found_from_inputs (aes key) (aes key (zeros 16)) (edition_of edition form) nonce ad t s)

  module _ (out : List ℕ) (r : Answer) (after : List ℕ) where
    pub sealing_formula : (m : List ℕ) → Seals edition form key nonce ad m t out r after → number_of r ≡ 0 → runs_of r ≡ formula (edition_of edition form) (length m) (length ad)
    sealing_formula m p z = (sealing_counts edition form key nonce ad t out r after m p).ran (inl z) ∙ seal_runs_lem m

    pub opening_formula : (s : List ℕ) → Opens edition form key nonce ad s t out r after → (number_of r ≡ 0) ⊎ (number_of r ≡ 7)
        → runs_of r ≡ formula (edition_of edition form) (length s - t) (length ad)
    opening_formula s p z = (opening_counts edition form key nonce ad t out r after s p).ran z ∙ open_runs_lem s

module _ (edition form : ℕ) (p : Prepared) (nonce ad : List ℕ) (t : ℕ) (out : List ℕ) (r : Answer) (after : List ℕ) where
  pub sealing_with_formula : (m : List ℕ) → SealsWith edition form p nonce ad m t out r after → number_of r ≡ 0 → runs_of r ≡ formula_with (length m) (length ad)
  sealing_with_formula m h z =
      (sealing_with_counts edition form p nonce ad t out r after m h).ran (inl z) ∙ length-from_inputs (cipher_of p) p.zero (edition_of edition form) nonce ad t m

  pub opening_with_formula : (s : List ℕ) → OpensWith edition form p nonce ad s t out r after → (number_of r ≡ 0) ⊎ (number_of r ≡ 7)
      → runs_of r ≡ formula_with (length s - t) (length ad)
  opening_with_formula s h z =
      (opening_with_counts edition form p nonce ad t out r after s h).ran z ∙ length-found_from_inputs (cipher_of p) p.zero (edition_of edition form) nonce ad t s
