-- `tables::Joined::new` makes what a `Joined` is. This is the one test of the joined tables: antt computes the shares of the
-- substitution at each of the 1,024 places and compares. Assumes nothing.
use Rattle.std.proofs.Common.{refl}
use Rattle.lists.specs.Table.{table_from}
use Rattle.words.specs.Word.{number}
use Rattle.field.specs.Field.{product, inverse}
use Rattle.field.specs.Substitution.{affine, substitute}
use Rattle.tables.specs.Joined.{entry, joined}
use Rattle.tables.proofs.Joined.new.Goals as goal

pub invariant_of-result : goal.invariant_of-result
unfolding joined table_from entry number substitute affine inverse product
invariant_of-result c = record { is_joined = refl }
