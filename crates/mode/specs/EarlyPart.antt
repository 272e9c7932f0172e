-- What an early part may reveal (document 02, wish 12): the words of the statement.
use Rattle.std.specs.Prelude.{List, ℕ, ◌*◌, ◌<◌, length, take}

-- the first 32·j bytes of a message, or of what comes out: j pairs of blocks
abbrev pub early : ℕ → List ℕ → List ℕ
early j x = take (32 * j) x

-- a message is longer than that: something follows, and so these are pairs, and not its last blocks
abbrev pub Longer : ℕ → List ℕ → Type 0
Longer j m = 32 * j < length m
