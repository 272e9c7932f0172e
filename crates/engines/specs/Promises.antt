-- Document 02, wish 13: what sealing by a plan and planning promise, for every input: the answer and the complete output buffer.
use Rattle.std.specs.Prelude.{◌≡◌, Bool, List, ℕ, ◌*◌, leb, length, Ok, Err}
use Rattle.mode.specs.Message.{pairs_of}
use Rattle.plans.specs.Plan.{Judged}
use Rattle.plans.specs.Planner.{plan_of}
use Rattle.link.specs.Answers.{Answer}
use Rattle.link.specs.Checks.{Check, unless, seal_check}
use Rattle.link.specs.Promises.{sealing, seal_runs, SealsBy}
use Rattle.link.specs.declared.answer.Refusal.TheVariants.{Length, Room, Plan}

-- ---- sealing, in edition 3 with parallel data, by a plan: checks 1 to 6 as sealing has them, then 13, unless it is a plan for the pairs
-- before the final one or two blocks; and then what is sealed without one
abbrev pub PlannedBy : Check → ℕ → List ℕ → ℕ → List ℕ → List ℕ → Answer → List ℕ → Type 0
PlannedBy (Ok n) k bytes pairs plan out r after =
    (accepted : Bool) × Judged accepted pairs plan × SealsBy (unless accepted Plan (Ok n)) k bytes out r after
PlannedBy (Err c) k bytes pairs plan out r after = (r ≡ Err c) × (after ≡ out)

unfoldable pub SealsPlanned : List ℕ → List ℕ → List ℕ → List ℕ → ℕ → List ℕ → List ℕ → Answer → List ℕ → Type 0
SealsPlanned key nonce ad m t plan out r after =
    PlannedBy (seal_check 3 0 (length key) (length nonce) t (length ad) (length m) (length out)) (seal_runs 3 0 key nonce ad t m)
    (sealing 3 0 key nonce ad t m) (pairs_of (length m)) plan out r after

-- ---- planning, for a message of m bytes into o bytes: checks 5 and 6, and then our planner's plan, for which no cipher runs
abbrev pub plan_check : ℕ → ℕ → Check
plan_check m o = unless (leb m 16384) Length (unless (leb (3 * pairs_of m) o) Room (Ok (3 * pairs_of m)))

unfoldable pub Plans : ℕ → List ℕ → Answer → List ℕ → Type 0
Plans m out r after = SealsBy (plan_check m (length out)) 0 (plan_of (pairs_of m)) out r after
