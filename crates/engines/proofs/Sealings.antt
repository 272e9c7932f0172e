-- From the checks, the plan's check and the plan carried out to the promise. Assumes nothing.
use mathlib.Core.Path.{◌≡◌, refl, sym, subst}
use mathlib.Core.Bool.{Bool, true, false}
use mathlib.Core.List.{List}
use Prim.Native.Nat.{ℕ}
use native.Mathlib.Omega.{arith}
use Rattle.plans.specs.Plan.{Accepted, Judged}
use Rattle.std.specs.Prelude.{Ok, Err}
use Rattle.link.specs.Answers.{Answer}
use Rattle.link.specs.Checks.{Check}
use Rattle.link.specs.Promises.{SealsBy}
use Rattle.link.specs.declared.answer.Refusal.{Refusal}
use Rattle.link.specs.declared.answer.Refusal.TheVariants.{Plan}
use Rattle.engines.specs.Promises.{PlannedBy}

module _ (c : Check) (k : ℕ) (bytes : List ℕ) (pairs : ℕ) (plan out : List ℕ) where
  -- where the checks stop, so does the call
  pub stopped : (r : Refusal) → Err r ≡ c → PlannedBy c k bytes pairs plan out (Err r) out
  stopped r e = subst (λ (x : Check). PlannedBy x k bytes pairs plan out (Err r) out) e (refl, refl)

  -- the checks have passed, and the plan is judged
  module _ (n : ℕ) (come : c ≡ Ok n) where
    pub not_accepted : (b : Bool) → b ≡ false → Judged b pairs plan → PlannedBy c k bytes pairs plan out (Err Plan) out
    not_accepted true e j = absurd (let z : ◌≡◌ {A = ℕ} 0 1 = cc in omega arith)
    not_accepted false e j = subst (λ (x : Check). PlannedBy x k bytes pairs plan out (Err Plan) out) (sym come) (false, j, (refl, refl))

    pub is_accepted : (b : Bool) → b ≡ true → Judged b pairs plan → (r : Answer) (after : List ℕ)
        → SealsBy (Ok n) k bytes out r after → PlannedBy c k bytes pairs plan out r after
    is_accepted true e j r after p = subst (λ (x : Check). PlannedBy x k bytes pairs plan out r after) (sym come) (true, j, p)
    is_accepted false e j r after p = absurd (let z : ◌≡◌ {A = ℕ} 0 1 = cc in omega arith)

-- a plan that is not refused
pub accepted_so : (b : Bool) (n : ℕ) (plan : List ℕ) → b ≡ true → Judged b n plan → Accepted n plan
accepted_so true n plan e j = j
accepted_so false n plan e j = absurd (let z : ◌≡◌ {A = ℕ} 0 1 = cc in omega arith)
