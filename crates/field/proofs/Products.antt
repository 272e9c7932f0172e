-- The products by 2 and 3 in closed form, each one computed equation of two tables. Assumes nothing.
use mathlib.Core.Path.{◌≡◌, refl}
use Prim.Native.Nat.{ℕ, ◌*◌, ◌/◌, ◌<◌}
use native.Mathlib.Omega.{arith}
use lib.Bits.{bit_xor}
use Rattle.lists.specs.Table.{table_from}
use Rattle.lists.proofs.Table.{agree}
use Rattle.field.specs.Field.{product}

-- b moved up by one place, less m(x) where that has an x⁸
abbrev pub doubled : ℕ → ℕ
doubled b = bit_xor (b * 2) (b * 2 / 256 * 256 * 0x11b / 256)

pub twice_is : (b : ℕ) → b < 256 → doubled b ≡ product 2 b
unfolding table_from product
twice_is = agree doubled (product 2) 256 refl

pub twice_byte : (b : ℕ) → b < 256 → doubled b < 256
unfolding table_from
twice_byte b h =
    let above : doubled b / 256 ≡ 0 = agree (λ b. doubled b / 256) (λ b. 0) 256 refl b h in
    omega arith

pub thrice_is : (b : ℕ) → b < 256 → bit_xor (product 2 b) b ≡ product 3 b
unfolding table_from product
thrice_is = agree (λ b. bit_xor (product 2 b) b) (λ b. product 3 b) 256 refl
