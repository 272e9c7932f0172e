-- The field of the doubling, GF(2¹²⁸) with x¹²⁸ + x⁷ + x² + x + 1 (source document 000, section 1.3): a block is a polynomial in x, its
-- first bit the highest, and doubling is the product with x. Here are products of blocks and powers of x (document 02, wish 13).
use Rattle.std.specs.Prelude.{List, [], ◌∷◌, ◌++◌, ℕ, zero, suc, ◌/◌, get_or}
use Rattle.lists.specs.Xor.{xor}
use Rattle.lists.specs.Zeros.{zeros}
use Rattle.block.specs.Block.{shift, double}
use Rattle.mode.specs.Masks.{doubles}

abbrev pub one : List ℕ
one = zeros 15 ++ (1 ∷ [])

-- b where a bit is set
abbrev pub times : ℕ → List ℕ → List ℕ
times zero b = zeros 16
times (suc n) b = b

-- Horner's rule over the next n bits of a, the highest first: the sum is doubled, and b goes in where the bit is set
unfoldable pub horner : ℕ → List ℕ → List ℕ → List ℕ → List ℕ
horner zero a b s = s
horner (suc n) a b s = horner n (shift a) b (xor (double s) (times (get_or a 0 0 / 128) b))

unfoldable pub product : List ℕ → List ℕ → List ℕ
product a b = horner 128 a b (zeros 16)

-- xⁿ
abbrev pub power : ℕ → List ℕ
power n = doubles n one
