-- What a sealer holds between two calls, in bytes: `held` of its 32 kept bytes count.
use Rattle.std.specs.Prelude.{List, ◌++◌, ℕ, ◌*◌, take, drop}
use Rattle.lists.specs.Lay.{lay}
use Rattle.lists.specs.Xor.{xor}
use Rattle.lists.specs.Zeros.{zeros}
use Rattle.mode.specs.Masks.{doubles, doubled}
use Rattle.mode.specs.Message.{sum}
use Rattle.mode.specs.Feeding.{Between, due}
use Rattle.parts.specs.declared.State.{State}

-- what this is in the mode's words
abbrev pub between : State → ℕ → Between
between s held = record { masks = doubled s.left s.right; sum = s.sum; kept = take held s.kept }

-- at most 32 bytes, with zeros behind them
abbrev pub kept32 : List ℕ → List ℕ
kept32 x = lay 0 x (zeros 32)

-- the state behind n pairs of a string, from the masks l and r and the checksum s on, where the rest of the string is kept
abbrev pub behind_state : List ℕ → List ℕ → List ℕ → ℕ → List ℕ → State
behind_state l r s n x =
    record { left = doubles n l; right = doubles n r; sum = xor s (sum n x); kept = kept32 (drop (32 * n) x) }

-- the complete state once the part x is fed
abbrev pub fed_state : State → ℕ → List ℕ → State
fed_state s held x = behind_state s.left s.right s.sum (due (between s held) x) ((between s held).kept ++ x)
