-- A word as its bytes, the lowest byte first.
use Rattle.std.specs.Prelude.{List, [], ◌∷◌, ℕ, zero, suc, ◌+◌, ◌*◌, ◌/◌, ◌%◌}

-- the n lowest bytes of x
unfoldable pub little : ℕ → ℕ → List ℕ
little zero x = []
little (suc n) x = x % 256 ∷ little n (x / 256)

-- the word with these bytes
unfoldable pub number : List ℕ → ℕ
number [] = 0
number (a ∷ l) = a + 256 * number l
