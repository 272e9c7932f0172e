-- `field::Sbox::new` makes what an `Sbox` is. This is the one test of the table: antt computes the affine image of the field inverse
-- at each of the 256 places and compares. Assumes nothing.
use Rattle.std.proofs.Common.{refl}
use Rattle.lists.specs.Table.{table_from}
use Rattle.field.specs.Field.{product, inverse}
use Rattle.field.specs.Substitution.{affine, substitute, sbox}
use Rattle.field.proofs.Sbox.new.Goals as goal

pub invariant_of-result : goal.invariant_of-result
unfolding sbox table_from substitute affine inverse product
invariant_of-result c = record { is_substitution = refl }
