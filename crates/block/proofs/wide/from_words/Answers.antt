-- `block::wide::from_words` meets its contract: eight bytes and eight. Assumes nothing.
use Rattle.std.proofs.Common.{List, ℕ, ◌++◌, ap₂, ◌∙◌}
use borrow.Rule.Slice.PartMut.{put_mid}
use lib.ListN.{replicate}
use Rattle.words.specs.Word.{little}
use Rattle.block.specs.Wide.{bytes_of}
use Rattle.block.proofs.wide.from_words.Goals as goal

pub returns : goal.returns
unfolding bytes_of little
returns c =
    ap₂ (λ (a b : List ℕ). put_mid 8 8 (a ++ replicate 8 0) b) (c.copy_from_slice.ensures.after ∙ c.unpack_eight.ensures)
    (c.copy_from_slice-2.ensures.after ∙ c.unpack_eight-2.ensures)
