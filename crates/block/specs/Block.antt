-- Blocks of 16 bytes (source document 000, section 1.3): padding, doubling and its multiples.
use Rattle.std.specs.Prelude.{Bool, true, false, List, [], ◌∷◌, ◌++◌, ℕ, zero, suc, ◌+◌, ◌*◌, ◌/◌, ◌%◌, ltb, length, get_or}
use Rattle.lists.specs.Lay.{lay}
use Rattle.lists.specs.Xor.{xor}
use Rattle.lists.specs.Zeros.{zeros}

-- up to 16 bytes, with zeros behind them
abbrev pub filled : List ℕ → List ℕ
filled x = lay 0 x (zeros 16)

-- the 10* padding: a block of fewer than 16 bytes gets 80 and then zeros; a full block stays
abbrev pub padded : Bool → List ℕ → List ℕ
padded true x = filled (x ++ (0x80 ∷ []))
padded false x = x

unfoldable pub pad : List ℕ → List ℕ
pad x = padded (ltb (length x) 16) x

-- X << 1, first byte first: each byte loses its top bit and takes that of the next
unfoldable pub shift : List ℕ → List ℕ
shift [] = []
shift (a ∷ x) = (a % 128 * 2 + get_or x 0 0 / 128) ∷ shift x

-- formula (1): where the top bit of X was set, 87 goes into the last byte
abbrev pub reduced : ℕ → List ℕ → List ℕ
reduced zero x = x
reduced (suc n) x = xor x (zeros 15 ++ (0x87 ∷ []))

unfoldable pub double : List ℕ → List ℕ
double x = reduced (get_or x 0 0 / 128) (shift x)

-- 3X = 2X ⊕ X, 3²X = 3(3X), 7X = 4X ⊕ 2X ⊕ X
abbrev pub triple : List ℕ → List ℕ
triple x = xor (double x) x

abbrev pub triple_twice : List ℕ → List ℕ
triple_twice x = triple (triple x)

abbrev pub seven : List ℕ → List ℕ
seven x = xor (xor (double (double x)) (double x)) x
