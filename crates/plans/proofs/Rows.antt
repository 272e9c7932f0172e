-- The planner's plans, written out. Assumes nothing.
use mathlib.Core.Path.{◌≡◌, refl}
use mathlib.Core.List.{[], ◌∷◌, ◌++◌}
use Rattle.plans.specs.Planner.{plan_of, load_up_to, load}

-- five pairs: the engines come in turn, and the first has two
pub five : plan_of 5 ≡ 0 ∷ 0 ∷ 0 ∷ 0 ∷ 1 ∷ 1 ∷ 0 ∷ 2 ∷ 2 ∷ 0 ∷ 3 ∷ 3 ∷ 0 ∷ 4 ∷ 0 ∷ []
unfolding plan_of
five = refl

pub five_loads : load 0 (plan_of 5) ∷ load 1 (plan_of 5) ∷ load 2 (plan_of 5) ∷ load 3 (plan_of 5) ∷ [] ≡ 2 ∷ 1 ∷ 1 ∷ 1 ∷ []
unfolding plan_of load_up_to
five_loads = refl

-- a number's high byte comes first
pub entry_256 : plan_of 257 ≡ plan_of 256 ++ (1 ∷ 0 ∷ 0 ∷ [])
unfolding plan_of
entry_256 = refl
