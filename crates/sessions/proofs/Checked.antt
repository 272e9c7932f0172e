-- One call: what a refusal leaves, and what is known of a call that was accepted; a sealer that has ended stays so. Assumes nothing.
use mathlib.Core.Path.{◌≡◌, refl, sym, ap, subst}
use mathlib.Core.Bool.{Bool, true, false}
use mathlib.Core.List.{List}
use Prim.Native.Nat.{ℕ, ◌+◌, ◌*◌}
use native.Mathlib.Omega.{arith}
use lib.Dec.{leb}
use lib.ListN.{length}
use Rattle.std.specs.Prelude.{Ok, Err}
use Rattle.lists.specs.Lay.{lay}
use Rattle.mode.specs.Message.{pairs_of}
use Rattle.mode.specs.Feeding.{keeps, fed_bytes, fed_inputs, end_bytes, end_inputs}
use Rattle.link.specs.Answers.{Answer, done, number_of, length_of, runs_of}
use Rattle.link.specs.Checks.{Check, unless}
use Rattle.link.specs.declared.answer.Refusal.{Refusal}
use Rattle.link.specs.declared.answer.Refusal.TheVariants.{Length, Room, Ended}
use Rattle.sealer.specs.declared.Sealer.{Sealer}
use Rattle.sealer.specs.declared.Step.{Step}
use Rattle.sealer.specs.Sealers.{going_on, standing, fed_by, ended, feed_check, end_check}
use Rattle.sealer.specs.Promises.{StepBy, Feeds, Ends}
use Rattle.sessions.specs.Sessions.{Call, feed, end, buffer, Kept}

-- a refusal: it is not done, has no length and no runs
pub record IsRefusal (r : Answer) : Type 0 where
  pub number : number_of r ≡ 0 → ⊥
  pub long : length_of r ≡ 0
  pub runs : runs_of r ≡ 0

-- checks that stop at refusals alone
abbrev Plain : Check → Type 0
Plain (Ok n) = Unit
Plain (Err r) = IsRefusal (Err r)

plain_unless : (b : Bool) (r : Refusal) (c : Check) → IsRefusal (Err r) → Plain c → Plain (unless b r c)
plain_unless true r c h p = p
plain_unless false r c h p = h

-- as those of feeding and ending do
pub is_ended : IsRefusal (Err Ended)
is_ended = record { number = λ z. omega arith; long = refl; runs = refl }

no_room : IsRefusal (Err Room)
no_room = record { number = λ z. omega arith; long = refl; runs = refl }

too_long : IsRefusal (Err Length)
too_long = record { number = λ z. omega arith; long = refl; runs = refl }

module _ (rounds t fed : ℕ) where
  pub feed_plain : (x o : ℕ) → Plain (feed_check rounds t fed x o)
  unfolding feed_check
  feed_plain x o =
      plain_unless (going_on rounds t fed) Ended _ is_ended
      (plain_unless (leb (fed + x) 16384) Length _ too_long (plain_unless (leb (32 * pairs_of (keeps fed + x)) o) Room _ no_room tt))

  pub end_plain : (o : ℕ) → Plain (end_check rounds t fed o)
  unfolding end_check
  end_plain o = plain_unless (going_on rounds t fed) Ended _ is_ended (plain_unless (leb (keeps fed + t) o) Room _ no_room tt)

-- ---- a step, by whether it was accepted
pub record Unchanged (s : Sealer) (out : List ℕ) (r : Step) (after : List ℕ) : Type 0 where
  pub refusal : IsRefusal r.answer
  pub sealer : r.sealer ≡ s
  pub buffer : after ≡ out

pub data Outcome (c : Check) (k : ℕ) (bytes : List ℕ) (next s : Sealer) (out : List ℕ) (r : Step) (after : List ℕ) : Type 0 where
  accepted : (n : ℕ) → c ≡ Ok n → r ≡ record { answer = done n k; sealer = next } → after ≡ lay 0 bytes out → Outcome c k bytes next s out r after
  refused : Unchanged s out r after → Outcome c k bytes next s out r after

pub outcome : (c : Check) → Plain c → (k : ℕ) (bytes : List ℕ) (next s : Sealer) (out : List ℕ) (r : Step) (after : List ℕ)
    → StepBy c k bytes next s out r after → Outcome c k bytes next s out r after
outcome (Ok n) p k bytes next s out r after h = accepted n refl h.0 h.1
outcome (Err x) p k bytes next s out r after h =
    refused
    (record {
      refusal = subst IsRefusal (sym (ap (λ (y : Step). y.answer) h.0)) p;
      sealer = ap (λ (y : Step). y.sealer) h.0;
      buffer = h.1;
    })

not_accepted : {c : Check} {k : ℕ} {bytes : List ℕ} {next s : Sealer} {out : List ℕ} {r : Step} {after : List ℕ}
    → Outcome c k bytes next s out r after → (number_of r.answer ≡ 0 → ⊥) → Unchanged s out r after
not_accepted (accepted n come is laid) z = absurd (z (ap (λ (y : Step). number_of y.answer) is))
not_accepted (refused u) z = u

by_ended : (b : Bool) → b ≡ false → (c : Check) (k : ℕ) (bytes : List ℕ) (next s : Sealer) (out : List ℕ) (r : Step) (after : List ℕ)
    → StepBy (unless b Ended c) k bytes next s out r after → (r ≡ record { answer = Err Ended; sealer = s }) × (after ≡ out)
by_ended b over c k bytes next s out r after h = subst (λ (a : Bool). StepBy (unless a Ended c) k bytes next s out r after) over h

module _ (C : ℕ → List ℕ → List ℕ → List ℕ) (s : Sealer) where
  abbrev E : List ℕ → List ℕ
  E = C s.rounds s.words

  pub feed_outcome : (x out : List ℕ) (r : Step) (after : List ℕ) → Feeds C s x out r after
      → Outcome (feed_check s.rounds s.tag s.fed (length x) (length out)) (length (fed_inputs E (standing s) x)) (fed_bytes E (standing s) x) (fed_by s x) s out r after
  unfolding Feeds
  feed_outcome x out r after h =
      outcome (feed_check s.rounds s.tag s.fed (length x) (length out)) (feed_plain s.rounds s.tag s.fed (length x) (length out)) _ _ _ s out r after h

  pub end_outcome : (out : List ℕ) (r : Step) (after : List ℕ) → Ends C s out r after
      → Outcome (end_check s.rounds s.tag s.fed (length out)) (length (end_inputs E (standing s))) (end_bytes E s.added s.tag (standing s)) ended s out r after
  unfolding Ends
  end_outcome out r after h =
      outcome (end_check s.rounds s.tag s.fed (length out)) (end_plain s.rounds s.tag s.fed (length out)) _ _ _ s out r after h

  -- a call that is refused hands back the very sealer, and leaves the buffer; its length and its runs are 0
  pub refused_unchanged : (c : Call) (r : Step) (after : List ℕ) → Kept C s c r after → (number_of r.answer ≡ 0 → ⊥) → Unchanged s (buffer c) r after
  refused_unchanged (feed x out) r after h = not_accepted (feed_outcome x out r after h)
  refused_unchanged (end out) r after h = not_accepted (end_outcome out r after h)

  -- a sealer that has ended stays ended: 9, whatever the call
  pub stays_ended : going_on s.rounds s.tag s.fed ≡ false → (c : Call) (r : Step) (after : List ℕ) → Kept C s c r after
      → (r ≡ record { answer = Err Ended; sealer = s }) × (after ≡ buffer c)
  unfolding Feeds feed_check Ends end_check
  stays_ended over (feed x out) r after h =
      by_ended (going_on s.rounds s.tag s.fed) over _ (length (fed_inputs E (standing s) x)) (fed_bytes E (standing s) x) (fed_by s x) s out r after h
  stays_ended over (end out) r after h =
      by_ended (going_on s.rounds s.tag s.fed) over _ (length (end_inputs E (standing s))) (end_bytes E s.added s.tag (standing s)) ended s out r after h
