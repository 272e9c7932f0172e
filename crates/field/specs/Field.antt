-- The field of FIPS 197, section 4: a byte is a polynomial over the two bits, its lowest bit the constant term, and products are
-- taken modulo m(x) = x⁸ + x⁴ + x³ + x + 1, which is 11b hexadecimal. Addition is XOR.
use Rattle.std.specs.Prelude.{Bool, true, false, ℕ, zero, suc, ◌*◌, ◌/◌, ◌%◌, ltb}
use Rattle.std.specs.Int.Bits.{bit_xor}

-- FIPS 197, 4.2.1: x times a polynomial, less m(x) where the degree has come to 8
abbrev pub reduced : Bool → ℕ → ℕ
reduced true b = b
reduced false b = bit_xor b 0x11b

abbrev pub xtime : ℕ → ℕ
xtime b = reduced (ltb b 128) (b * 2)

-- FIPS 197, 4.2.1: the products of b by the n lowest powers of x, added where a has that power
abbrev pub product_of : ℕ → ℕ → ℕ → ℕ
product_of zero a b = 0
product_of (suc n) a b = bit_xor (a % 2 * b) (product_of n (a / 2) (xtime b))

unfoldable pub product : ℕ → ℕ → ℕ
product a b = product_of 8 a b

-- the inverse (FIPS 197, 5.1.1: 0 goes to 0), by Fermat: x²⁵⁴ = x² · x⁴ · .. · x¹²⁸. The n squares that begin with b²
abbrev pub squares : ℕ → ℕ → ℕ
squares zero b = 1
squares (suc n) b =
    let s = product b b in
    product s (squares n s)

unfoldable pub inverse : ℕ → ℕ
inverse b = squares 7 b
