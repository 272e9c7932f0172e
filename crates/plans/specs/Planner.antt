-- Document 02, wish 13: our own planner, and how much an engine has to carry out.
use Rattle.std.specs.Prelude.{Bool, true, false, List, [], ◌∷◌, ◌++◌, ℕ, zero, suc, ◌/◌, ◌%◌, eqb}
use Rattle.plans.specs.Plan.{entries, engine_at}

-- the pairs in their order, and the engines in turn
unfoldable pub plan_of : ℕ → List ℕ
plan_of zero = []
plan_of (suc i) = plan_of i ++ (i / 256 ∷ i % 256 ∷ i % 4 ∷ [])

-- how many of the first j entries are for engine e, and how many of all
abbrev pub one_more : Bool → ℕ → ℕ
one_more true n = suc n
one_more false n = n

unfoldable pub load_up_to : ℕ → ℕ → List ℕ → ℕ
load_up_to e zero p = 0
load_up_to e (suc j) p = one_more (eqb (engine_at p j) e) (load_up_to e j p)

abbrev pub load : ℕ → List ℕ → ℕ
load e p = load_up_to e (entries p) p
