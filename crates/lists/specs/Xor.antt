-- XOR of two byte strings. A byte is a number, a string a list of them, and the result is as long as the shorter one:
-- so `xor r z` is also 'r ⊕ the first bytes of z'.
use Rattle.std.specs.Prelude.{List, [], ◌∷◌, ℕ}
use Rattle.std.specs.Int.Bits.{bit_xor}

unfoldable pub xor : List ℕ → List ℕ → List ℕ
xor [] b = []
xor (x ∷ a) [] = []
xor (x ∷ a) (y ∷ b) = bit_xor x y ∷ xor a b
