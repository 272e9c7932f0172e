-- Products, computed from the definition and held to what the second program gives. Assumes nothing.
use mathlib.Core.Path.{◌≡◌, refl}
use mathlib.Core.List.{map}
use Rattle.lists.specs.Hex.{bytes}
use Rattle.lists.specs.Xor.{xor}
use Rattle.lists.specs.Zeros.{zeros}
use Rattle.block.specs.Block.{shift, double}
use Rattle.powers.specs.Field.{horner, product}
use Rattle.powers.proofs.Expected.{Row, expected}

pub rows : map (λ (r : Row). product (bytes 16 r.0) (bytes 16 r.1)) expected ≡ map (λ (r : Row). bytes 16 r.2) expected
unfolding xor zeros shift double horner product
rows = refl
