-- The promises decide: any two results that one of them allows for the same sealer and the same input are equal, answer with its runs,
-- complete sealer and complete buffer, for every sealer. What beginning promises is one step. And no call is refused without reason.
-- Assumes nothing.
use mathlib.Core.Path.{◌≡◌, sym, ap, subst, ◌∙◌}
use mathlib.Core.Bool.{true}
use mathlib.Core.List.{List}
use Prim.Native.Nat.{ℕ, ◌+◌, ◌*◌, ◌≤◌}
use lib.ListN.{length}
use borrow.Author.Tests.{le-leb}
use Rattle.std.specs.Prelude.{Ok, Err}
use Rattle.mode.specs.Message.{pairs_of}
use Rattle.mode.specs.Feeding.{keeps, fed_bytes, fed_inputs, end_bytes, end_inputs}
use Rattle.link.specs.Answers.{number_of}
use Rattle.link.specs.Checks.{Check}
use Rattle.sealer.specs.declared.Sealer.{Sealer}
use Rattle.sealer.specs.declared.Step.{Step}
use Rattle.sealer.specs.Sealers.{going_on, standing, fed_by, ended, feed_check, end_check}
use Rattle.sealer.specs.Promises.{StepBy, Feeds, Ends}
use Rattle.sessions.specs.Sessions.{Call, feed, end, Kept}

by_step : (c : Check) (k : ℕ) (bytes : List ℕ) (next s : Sealer) (out : List ℕ) (r r' : Step) (a a' : List ℕ)
    → StepBy c k bytes next s out r a → StepBy c k bytes next s out r' a' → (r ≡ r') × (a ≡ a')
by_step (Ok n) k bytes next s out r r' a a' p q = (p.0 ∙ sym q.0, p.1 ∙ sym q.1)
by_step (Err x) k bytes next s out r r' a a' p q = (p.0 ∙ sym q.0, p.1 ∙ sym q.1)

module _ (C : ℕ → List ℕ → List ℕ → List ℕ) (s : Sealer) where
  abbrev E : List ℕ → List ℕ
  E = C s.rounds s.words

  pub decided : (c : Call) (r r' : Step) (a a' : List ℕ) → Kept C s c r a → Kept C s c r' a' → (r ≡ r') × (a ≡ a')
  unfolding Feeds Ends
  decided (feed x out) =
      by_step (feed_check s.rounds s.tag s.fed (length x) (length out)) (length (fed_inputs E (standing s) x)) (fed_bytes E (standing s) x) (fed_by s x) s out
  decided (end out) =
      by_step (end_check s.rounds s.tag s.fed (length out)) (length (end_inputs E (standing s))) (end_bytes E s.added s.tag (standing s)) ended s out

  done : (c : Check) (n : ℕ) → c ≡ Ok n → (k : ℕ) (bytes : List ℕ) (next : Sealer) (out : List ℕ) (r : Step) (after : List ℕ) → StepBy c k bytes next s out r after → number_of r.answer ≡ 0
  done c n come k bytes next out r after h =
      ap (λ (y : Step). number_of y.answer) (subst (λ (d : Check). StepBy d k bytes next s out r after) come h).0

  -- a sealer that goes on takes every part that is not too long and for which there is room, and ends where there is room
  module _ (goes : going_on s.rounds s.tag s.fed ≡ true) where
    pub feed_accepted : (x out : List ℕ) → s.fed + length x ≤ 16384 → 32 * pairs_of (keeps s.fed + length x) ≤ length out
        → (r : Step) (after : List ℕ) → Feeds C s x out r after → number_of r.answer ≡ 0
    unfolding Feeds feed_check
    feed_accepted x out short room r after h =
        let n = 32 * pairs_of (keeps s.fed + length x) in
        done (feed_check s.rounds s.tag s.fed (length x) (length out)) n (rw (goes, le-leb (s.fed + length x) 16384 short, le-leb n (length out) room)) _ _ _ out r after h

    pub end_accepted : (out : List ℕ) → keeps s.fed + s.tag ≤ length out → (r : Step) (after : List ℕ) → Ends C s out r after → number_of r.answer ≡ 0
    unfolding Ends end_check
    end_accepted out room r after h =
        let n = keeps s.fed + s.tag in
        done (end_check s.rounds s.tag s.fed (length out)) n (rw (goes, le-leb n (length out) room)) _ _ _ out r after h
