-- `block::wide::xor_words` meets its contract, word by word. Assumes nothing.
use Rattle.std.proofs.Common.{◌++◌, get_or, refl, sym, ap₂, ◌∙◌}
use Rattle.lists.proofs.Xor.{xor-append}
use Rattle.words.specs.Word.{little}
use Rattle.words.proofs.Words.{little_xor}
use Rattle.block.specs.Wide.{bytes_of}
use Rattle.block.proofs.wide.xor_words.Goals as goal

pub returns : goal.returns
unfolding bytes_of little
returns c =
    let a = c.args.a in
    let b = c.args.b in
    ap₂ ◌++◌ (little_xor 8 (get_or a 0 0) (get_or b 0 0)) (little_xor 8 (get_or a 1 0) (get_or b 1 0))
    ∙ sym (xor-append (little 8 (get_or a 0 0)) (little 8 (get_or a 1 0)) (little 8 (get_or b 0 0)) (little 8 (get_or b 1 0)) refl)
