-- Document 02, wish 13, as statements about the promises of sealing by a plan and of planning: they decide; an accepted plan, whatever it
-- is, seals what sealing itself promises in edition 3 with parallel data; any other answers 13, last of all checks, and nothing is
-- written; the planner's plans are accepted, and their engines even. Assumes nothing.
use mathlib.Core.Path.{◌≡◌, refl, sym, ap, subst, ◌∙◌}
use mathlib.Core.Bool.{Bool, true, false}
use mathlib.Core.Logic.{◌↔◌}
use mathlib.Core.List.{List}
use Prim.Native.Nat.{ℕ, ◌+◌, ◌*◌, ◌≤◌, ◌<◌}
use native.Mathlib.Omega.{arith}
use lib.Dec.{leb}
use lib.ListN.{length, take, drop}
use lib.Seq.{take_at}
use borrow.Author.Tests.{leb-true, leb-false}
use Rattle.std.specs.Prelude.{Ok, Err}
use Rattle.lists.specs.Lay.{lay}
use Rattle.mode.specs.Message.{pairs_of}
use Rattle.plans.specs.Plan.{Accepted, Rearranged}
use Rattle.plans.specs.Planner.{plan_of, load}
use Rattle.plans.proofs.Plans.{rearranged, one_judgement}
use Rattle.plans.proofs.Planned.{length-plan_of, planner_accepted, even_loads}
use Rattle.link.specs.Answers.{Answer, done, number_of, length_of, runs_of}
use Rattle.link.specs.Checks.{Check, unless, seal_check}
use Rattle.link.specs.Promises.{sealing, seal_runs, SealsBy, Seals}
use Rattle.link.specs.declared.answer.Refusal.TheVariants.{Length, Room, Plan}
use Rattle.link.proofs.Answers.{never_0, no_runs}
use Rattle.engines.specs.Promises.{PlannedBy, SealsPlanned, plan_check, Plans}
use Rattle.engines.proofs.Planning.{too_long, no_room, planned}
use Rattle.demands.specs.Calls.{first_failing, key_known, seal_checks}
use Rattle.demands.proofs.Decided.{by_seal, seals_decided}
use Rattle.demands.proofs.Demand1.{first_has, refusal_length, seal_number, stop_number, seal_not_7}

-- ---- whatever the checks c come to, and a plan for n pairs
module _ (c : Check) (k : ℕ) (bytes : List ℕ) (n : ℕ) (plan out : List ℕ) where
  by_plan : (r r' : Answer) (a a' : List ℕ) → PlannedBy c k bytes n plan out r a → PlannedBy c k bytes n plan out r' a' → (r ≡ r') × (a ≡ a')
  by_plan r r' a a' = go c
    where
      go : (d : Check) → PlannedBy d k bytes n plan out r a → PlannedBy d k bytes n plan out r' a' → (r ≡ r') × (a ≡ a')
      go (Ok i) (b, j, p) (b', j', p') =
          by_seal (unless b Plan (Ok i)) k bytes out r r' a a' p
          (subst (λ (x : Bool). SealsBy (unless x Plan (Ok i)) k bytes out r' a') (one_judgement n plan b' b j' j) p')
      go (Err x) p p' = (p.0 ∙ sym p'.0, p.1 ∙ sym p'.1)

  module _ (r : Answer) (after : List ℕ) where
    -- an accepted plan is no other than none
    as_sealing : Accepted n plan → PlannedBy c k bytes n plan out r after → SealsBy c k bytes out r after
    as_sealing is = go c
      where
        go : (d : Check) → PlannedBy d k bytes n plan out r after → SealsBy d k bytes out r after
        go (Ok i) (true, j, p) = p
        go (Ok i) (false, j, p) = absurd (j is)
        go (Err x) p = p

    as_planned : Accepted n plan → SealsBy c k bytes out r after → PlannedBy c k bytes n plan out r after
    as_planned is = go c
      where
        go : (d : Check) → SealsBy d k bytes out r after → PlannedBy d k bytes n plan out r after
        go (Ok i) p = (true, is, p)
        go (Err x) p = p

-- ---- what a call comes back with, where `first` is the number of the first failing check of sealing
pub record PlannedAnswers (first n : ℕ) (plan out : List ℕ) (r : Answer) (after : List ℕ) : Type 0 where
  -- a check that fails gives its own number
  pub stopped : (first ≡ 0 → ⊥) → number_of r ≡ first
  -- done exactly if none fails and the plan is accepted, and 13 exactly if none fails and it is not
  pub done : (number_of r ≡ 0) ↔ ((first ≡ 0) × Accepted n plan)
  pub thirteen : (number_of r ≡ 13) ↔ ((first ≡ 0) × (Accepted n plan → ⊥))
  -- any refusal has no length, runs no cipher, and leaves the output as it was
  pub untouched : (number_of r ≡ 0 → ⊥) → (length_of r ≡ 0) × (runs_of r ≡ 0) × (after ≡ out)

by_number : (c : Check) (k : ℕ) (bytes : List ℕ) (n : ℕ) (plan out : List ℕ) (r : Answer) (after : List ℕ) (first : ℕ)
    → stop_number c ≡ first → (first ≡ 7 → ⊥) → (first ≡ 13 → ⊥)
    → PlannedBy c k bytes n plan out r after → PlannedAnswers first n plan out r after
by_number (Ok i) k bytes n plan out r after first is not7 not13 (true, j, p) =
    let z : number_of r ≡ 0 = ap number_of p.0 in
    record {
      stopped = λ some. absurd (some (sym is));
      done = (λ d. (sym is, j), λ q. z);
      thirteen = (λ d. absurd (omega arith), λ q. absurd (q.1 j));
      untouched = λ some. absurd (some z);
    }
by_number (Ok i) k bytes n plan out r after first is not7 not13 (false, j, p) =
    let t : number_of r ≡ 13 = ap number_of p.0 in
    record {
      stopped = λ some. absurd (some (sym is));
      done = (λ d. absurd (omega arith), λ q. absurd (j q.1));
      thirteen = (λ d. (sym is, j), λ q. t);
      untouched = λ some. (refusal_length r some, ap runs_of p.0, p.1);
    }
by_number (Err x) k bytes n plan out r after first is not7 not13 p =
    let same : number_of r ≡ first = ap number_of p.0 ∙ is in
    let some : first ≡ 0 → ⊥ = λ z. never_0 x (is ∙ z) in
    record {
      stopped = λ q. same;
      done = (λ d. absurd (some (sym same ∙ d)), λ q. absurd (some q.0));
      thirteen = (λ d. absurd (not13 (sym same ∙ d)), λ q. absurd (some q.0));
      untouched = λ q. (refusal_length r q, no_runs r q (λ h. not7 (sym same ∙ h)), p.1);
    }

module _ (key nonce ad m : List ℕ) (t : ℕ) (out : List ℕ) where
  -- the checks of sealing, its runs and its bytes
  abbrev checks : Check
  checks = seal_check 3 0 (length key) (length nonce) t (length ad) (length m) (length out)

  abbrev runs : ℕ
  runs = seal_runs 3 0 key nonce ad t m

  abbrev sealed : List ℕ
  sealed = sealing 3 0 key nonce ad t m

  -- no check of sealing answers 13
  never_13 : first_failing (seal_checks 3 0 (key_known key) nonce ad m t out) ≡ 13 → ⊥
  never_13 =
      first_has (λ i. i ≡ 13 → ⊥) 0 (seal_checks 3 0 (key_known key) nonce ad m t out) (λ z. omega arith)
      (λ z. omega arith, (λ z. omega arith, (λ z. omega arith, (λ z. omega arith, (λ z. omega arith, (λ z. omega arith, (λ z. omega arith, (λ z. omega arith, tt))))))))

  module _ (plan : List ℕ) (r : Answer) (after : List ℕ) (p : SealsPlanned key nonce ad m t plan out r after) where
    pub planned_answers : PlannedAnswers (first_failing (seal_checks 3 0 (key_known key) nonce ad m t out)) (pairs_of (length m)) plan out r after
    unfolding SealsPlanned
    planned_answers =
        let known = key_known key in
        by_number checks runs sealed (pairs_of (length m)) plan out r after (first_failing (seal_checks 3 0 known nonce ad m t out)) (seal_number 3 0 known nonce ad m t out)
        (λ h. seal_not_7 3 0 known nonce ad m t out (seal_number 3 0 known nonce ad m t out ∙ h)) never_13 p

    -- by an accepted plan, whoever made it, the promise of sealing is met
    pub planned_seals : Accepted (pairs_of (length m)) plan → Seals 3 0 key nonce ad m t out r after
    unfolding SealsPlanned Seals
    planned_seals is = as_sealing checks runs sealed (pairs_of (length m)) plan out r after is p

  -- and what meets it meets that of sealing by the plan
  pub seals_planned : (plan : List ℕ) → Accepted (pairs_of (length m)) plan → (r : Answer) (after : List ℕ) → Seals 3 0 key nonce ad m t out r after → SealsPlanned key nonce ad m t plan out r after
  unfolding SealsPlanned Seals
  seals_planned plan is r after = as_planned checks runs sealed (pairs_of (length m)) plan out r after is

  -- the promise decides
  pub planned_decided : (plan : List ℕ) (r r' : Answer) (a a' : List ℕ) → SealsPlanned key nonce ad m t plan out r a → SealsPlanned key nonce ad m t plan out r' a' → (r ≡ r') × (a ≡ a')
  unfolding SealsPlanned
  planned_decided plan r r' a a' = by_plan checks runs sealed (pairs_of (length m)) plan out r r' a a'

  -- any two accepted plans give the same result, and so does one whose entries are permuted, and its engines renamed
  pub any_plan : (p q : List ℕ) → Accepted (pairs_of (length m)) p → Accepted (pairs_of (length m)) q → (r r' : Answer) (a a' : List ℕ)
      → SealsPlanned key nonce ad m t p out r a → SealsPlanned key nonce ad m t q out r' a' → (r ≡ r') × (a ≡ a')
  any_plan p q is-p is-q r r' a a' h h' =
      seals_decided 3 0 key nonce ad m t out r r' a a' (planned_seals p r a h is-p) (planned_seals q r' a' h' is-q)

  pub any_order : (p q : List ℕ) → Accepted (pairs_of (length m)) p → Rearranged p q → (r r' : Answer) (a a' : List ℕ)
      → SealsPlanned key nonce ad m t p out r a → SealsPlanned key nonce ad m t q out r' a' → (r ≡ r') × (a ≡ a')
  any_order p q is by = any_plan p q is (rearranged (pairs_of (length m)) p q is by)

-- ---- our planner
pub record PlanAnswers (m : ℕ) (out : List ℕ) (r : Answer) (after : List ℕ) : Type 0 where
  -- 5 exactly if the message is too long; 6 exactly if it is not, and the room is short; nothing is written then
  pub five : (number_of r ≡ 5) ↔ (16384 < m)
  pub six : (number_of r ≡ 6) ↔ ((m ≤ 16384) × (length out < 3 * pairs_of m))
  pub untouched : (number_of r ≡ 0 → ⊥) → (length_of r ≡ 0) × (after ≡ out)
  -- else done, with three bytes a pair, after which the buffer is as it was; they are accepted, and no two engines differ by more than
  -- one pair
  pub done : m ≤ 16384 → 3 * pairs_of m ≤ length out → (r ≡ done (3 * pairs_of m) 0) × (after ≡ lay 0 (take (3 * pairs_of m) after) out)
  pub accepted : m ≤ 16384 → 3 * pairs_of m ≤ length out → Accepted (pairs_of m) (take (3 * pairs_of m) after)
  pub even : m ≤ 16384 → 3 * pairs_of m ≤ length out → (a b : ℕ) → a < 4 → b < 4 → load a (take (3 * pairs_of m) after) ≤ load b (take (3 * pairs_of m) after) + 1

module _ (m : ℕ) (out : List ℕ) where
  pub plans_decided : (r r' : Answer) (a a' : List ℕ) → Plans m out r a → Plans m out r' a' → (r ≡ r') × (a ≡ a')
  unfolding Plans
  plans_decided r r' a a' = by_seal (plan_check m (length out)) 0 (plan_of (pairs_of m)) out r r' a a'

  pub planner_answers : (r : Answer) (after : List ℕ) → Plans m out r after → PlanAnswers m out r after
  planner_answers r after p = go (leb m 16384) (leb (3 * pairs_of m) (length out)) refl refl
    where
      go : (b b' : Bool) → leb m 16384 ≡ b → leb (3 * pairs_of m) (length out) ≡ b' → PlanAnswers m out r after
      go false b' e e' =
          let long = leb-false m 16384 e in
          let is = plans_decided r (Err Length) after out p (too_long m out long) in
          let i : number_of r ≡ 5 = ap number_of is.0 in
          record {
            five = (λ h. long, λ h. i);
            six = (λ h. absurd (omega arith), λ h. absurd (omega (arith, h.0)));
            untouched = λ some. (refusal_length r some, is.1);
            done = λ h. absurd (omega arith);
            accepted = λ h. absurd (omega arith);
            even = λ h. absurd (omega arith);
          }
      go true false e e' =
          let short = leb-true m 16384 e in
          let none = leb-false (3 * pairs_of m) (length out) e' in
          let is = plans_decided r (Err Room) after out p (no_room m out short none) in
          let i : number_of r ≡ 6 = ap number_of is.0 in
          record {
            five = (λ h. absurd (omega arith), λ h. absurd (omega arith));
            six = (λ h. (short, none), λ h. i);
            untouched = λ some. (refusal_length r some, is.1);
            done = λ h room. absurd (omega arith);
            accepted = λ h room. absurd (omega arith);
            even = λ h room. absurd (omega arith);
          }
      go true true e e' =
          let short = leb-true m 16384 e in
          let enough = leb-true (3 * pairs_of m) (length out) e' in
          let plan = plan_of (pairs_of m) in
          let is = plans_decided r (done (3 * pairs_of m) 0) after (lay 0 plan out) p (planned m out short (pairs_of m) refl enough (lay 0 plan out) refl) in
          let i : number_of r ≡ 0 = ap number_of is.0 in
          let front : take (3 * pairs_of m) after ≡ plan = ap (take (3 * pairs_of m)) is.1 ∙ take_at plan (drop (0 + length plan) out) (3 * pairs_of m) (length-plan_of (pairs_of m)) in
          record {
            five = (λ h. absurd (omega arith), λ h. absurd (omega arith));
            six = (λ h. absurd (omega arith), λ h. absurd (omega (arith, h.1)));
            untouched = λ some. absurd (some i);
            done = λ h room. (is.0, is.1 ∙ ap (λ (l : List ℕ). lay 0 l out) (sym front));
            accepted = λ h room. subst (Accepted (pairs_of m)) (sym front) (planner_accepted (pairs_of m));
            even = λ h room a b ha hb. subst (λ (l : List ℕ). load a l ≤ load b l + 1) (sym front) (even_loads (pairs_of m) a b ha hb);
          }

-- the planner's plan for a message, in a call: it seals as without one
pub planned_by_us : (key nonce ad m : List ℕ) (t : ℕ) (out : List ℕ) (r : Answer) (after : List ℕ) → SealsPlanned key nonce ad m t (plan_of (pairs_of (length m))) out r after
    → Seals 3 0 key nonce ad m t out r after
planned_by_us key nonce ad m t out r after p = planned_seals key nonce ad m t out (plan_of (pairs_of (length m))) r after p (planner_accepted (pairs_of (length m)))
