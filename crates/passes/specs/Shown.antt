-- What an answer to a string of n message bytes leaves in the buffer, and the flag that goes with it.
use Rattle.std.specs.Prelude.{Bool, true, false, List, ℕ}
use Rattle.lists.specs.Lay.{lay}
use Rattle.lists.specs.Zeros.{zeros}
use Rattle.mode.specs.Opening.{Opened, accepted, refused}

abbrev pub shown : Opened → ℕ → List ℕ → List ℕ
shown (accepted m) n out = lay 0 m out
shown refused n out = lay 0 (zeros n) out

abbrev pub flag : Opened → Bool
flag (accepted m) = true
flag refused = false
