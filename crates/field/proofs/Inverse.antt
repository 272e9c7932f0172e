-- The inverse is one, at every byte but 0, and 0 goes to 0: one computed equation. Assumes nothing.
use mathlib.Core.Path.{◌≡◌, refl}
use Prim.Native.Nat.{ℕ, zero, suc, ◌<◌}
use Rattle.lists.specs.Table.{table_from}
use Rattle.lists.proofs.Table.{agree}
use Rattle.field.specs.Field.{product, inverse}

-- 0 at 0, and 1 elsewhere
unit : ℕ → ℕ
unit zero = 0
unit (suc b) = 1

unit_table : (b : ℕ) → b < 256 → product b (inverse b) ≡ unit b
unfolding table_from product inverse unit
unit_table = agree (λ b. product b (inverse b)) unit 256 refl

pub inverse_zero : inverse 0 ≡ 0
unfolding product inverse
inverse_zero = refl

pub product-inverse : (b : ℕ) → suc b < 256 → product (suc b) (inverse (suc b)) ≡ 1
unfolding unit
product-inverse b h = unit_table (suc b) h
