-- What opening may answer to a string, said by sealing alone. `seal` is any rule from messages to sealed strings.
use Rattle.std.specs.Prelude.{◌≡◌, List, ℕ}

pub data Opened : Type 0 where
  accepted : List ℕ → Opened
  refused : Opened

-- it accepts with a message that seals to the string; it refuses where no message does
abbrev pub Allowed : (List ℕ → List ℕ) → List ℕ → Opened → Type 0
Allowed seal s (accepted m) = seal m ≡ s
Allowed seal s refused = (m : List ℕ) → seal m ≡ s → ⊥
