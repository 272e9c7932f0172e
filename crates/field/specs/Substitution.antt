-- The byte substitution of FIPS 197, section 5.1.1: the inverse in the field, then the affine step over the bits.
use Rattle.std.specs.Prelude.{List, ℕ, zero, suc, ◌+◌, ◌*◌, ◌/◌, ◌%◌, ◌^◌}
use Rattle.lists.specs.Table.{table}
use Rattle.field.specs.Field.{inverse}

abbrev pub bit : ℕ → ℕ → ℕ
bit b i = b / 2 ^ i % 2

-- FIPS 197, (5.1): b'ᵢ = bᵢ ⊕ bᵢ₊₄ ⊕ bᵢ₊₅ ⊕ bᵢ₊₆ ⊕ bᵢ₊₇ ⊕ cᵢ, the indices modulo 8, c = 63 hexadecimal
abbrev pub affine_bit : ℕ → ℕ → ℕ
affine_bit b i =
    (bit b i + bit b ((i + 4) % 8) + bit b ((i + 5) % 8) + bit b ((i + 6) % 8) + bit b ((i + 7) % 8) + bit 0x63 i) % 2

-- its n lowest bits
abbrev pub affine_of : ℕ → ℕ → ℕ
affine_of zero b = 0
affine_of (suc n) b = affine_of n b + affine_bit b n * 2 ^ n

unfoldable pub affine : ℕ → ℕ
affine b = affine_of 8 b

unfoldable pub substitute : ℕ → ℕ
substitute b = affine (inverse b)

-- the substitution as a table of 256
unfoldable pub sbox : List ℕ
sbox = table substitute 256
