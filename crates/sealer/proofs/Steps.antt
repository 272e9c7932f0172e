-- From the checks to the promises: a step that is refused, and one that goes on. Assumes nothing.
use mathlib.Core.Path.{◌≡◌, refl, sym, subst}
use mathlib.Core.List.{List}
use Prim.Native.Nat.{ℕ, ◌+◌, ◌*◌}
use lib.ListN.{length}
use Rattle.std.specs.Prelude.{Ok, Err}
use Rattle.mode.specs.Message.{pairs_of}
use Rattle.mode.specs.Feeding.{keeps, fed_bytes, fed_inputs, end_bytes, end_inputs}
use Rattle.link.specs.Checks.{Check}
use Rattle.link.specs.declared.answer.Refusal.{Refusal}
use Rattle.link.proofs.Verdicts.{sure}
use Rattle.sealer.specs.declared.Sealer.{Sealer}
use Rattle.sealer.specs.declared.Step.{Step}
use Rattle.sealer.specs.Sealers.{standing, fed_by, ended, feed_check, end_check}
use Rattle.sealer.specs.Promises.{StepBy, Feeds, Ends}
use Rattle.sealer.proofs.Verdicts.{FeedFits, EndFits, feed_verdict, end_verdict}

-- checks that came to n bytes
passed : (c : Check) (n : ℕ) → c ≡ Ok n → (k : ℕ) (bytes : List ℕ) (next s : Sealer) (out : List ℕ) (r : Step) (after : List ℕ)
    → StepBy (Ok n) k bytes next s out r after → StepBy c k bytes next s out r after
passed c n come k bytes next s out r after = subst (λ (d : Check). StepBy d k bytes next s out r after) (sym come)

-- ones that stop: the very sealer, and the buffer as it was
stopped : (c : Check) (r : Refusal) → Err r ≡ c → (k : ℕ) (bytes : List ℕ) (next s : Sealer) (out : List ℕ)
    → StepBy c k bytes next s out (record { answer = Err r; sealer = s }) out
stopped c r e k bytes next s out = subst (λ (d : Check). StepBy d k bytes next s out (record { answer = Err r; sealer = s }) out) e (refl, refl)

module _ (C : ℕ → List ℕ → List ℕ → List ℕ) (s : Sealer) (out : List ℕ) where
  module _ (x : List ℕ) where
    pub feed_refused : (r : Refusal) → Err r ≡ feed_check s.rounds s.tag s.fed (length x) (length out) → Feeds C s x out (record { answer = Err r; sealer = s }) out
    unfolding Feeds
    feed_refused r e = stopped (feed_check s.rounds s.tag s.fed (length x) (length out)) r e _ _ _ s out

    feed_went_on : (n : ℕ) → Ok n ≡ feed_check s.rounds s.tag s.fed (length x) (length out)
        → FeedFits s.rounds s.tag s.fed (length x) (length out)
        × (feed_check s.rounds s.tag s.fed (length x) (length out) ≡ Ok (32 * pairs_of (keeps s.fed + length x)))
    feed_went_on n e = sure (feed_verdict s.rounds s.tag s.fed (length x) (length out)) n (sym e)

    pub feed_fits : (n : ℕ) → Ok n ≡ feed_check s.rounds s.tag s.fed (length x) (length out) → FeedFits s.rounds s.tag s.fed (length x) (length out)
    feed_fits n e = (feed_went_on n e).0

    pub feed_passed : (n : ℕ) → Ok n ≡ feed_check s.rounds s.tag s.fed (length x) (length out) → (step : Step) (after : List ℕ)
        → StepBy (Ok (32 * pairs_of (keeps s.fed + length x))) (length (fed_inputs (C s.rounds s.words) (standing s) x)) (fed_bytes (C s.rounds s.words) (standing s) x) (fed_by s x) s out step after
        → Feeds C s x out step after
    unfolding Feeds
    feed_passed n e step after = passed (feed_check s.rounds s.tag s.fed (length x) (length out)) _ (feed_went_on n e).1 _ _ _ s out step after

  pub end_refused : (r : Refusal) → Err r ≡ end_check s.rounds s.tag s.fed (length out) → Ends C s out (record { answer = Err r; sealer = s }) out
  unfolding Ends
  end_refused r e = stopped (end_check s.rounds s.tag s.fed (length out)) r e _ _ _ s out

  end_went_on : (n : ℕ) → Ok n ≡ end_check s.rounds s.tag s.fed (length out)
      → EndFits s.rounds s.tag s.fed (length out) × (end_check s.rounds s.tag s.fed (length out) ≡ Ok (keeps s.fed + s.tag))
  end_went_on n e = sure (end_verdict s.rounds s.tag s.fed (length out)) n (sym e)

  pub end_fits : (n : ℕ) → Ok n ≡ end_check s.rounds s.tag s.fed (length out) → EndFits s.rounds s.tag s.fed (length out)
  end_fits n e = (end_went_on n e).0

  pub end_passed : (n : ℕ) → Ok n ≡ end_check s.rounds s.tag s.fed (length out) → (step : Step) (after : List ℕ)
      → StepBy (Ok (keeps s.fed + s.tag)) (length (end_inputs (C s.rounds s.words) (standing s))) (end_bytes (C s.rounds s.words) s.added s.tag (standing s)) ended s out step after
      → Ends C s out step after
  unfolding Ends
  end_passed n e step after = passed (end_check s.rounds s.tag s.fed (length out)) _ (end_went_on n e).1 _ _ _ s out step after
