-- L' is 3L.
use Rattle.std.proofs.Common.{sym, ap, ◌∙◌}
use Rattle.block.specs.Block.{triple}
use Rattle.block.specs.Wide.{bytes_of}
use Rattle.powers.proofs.Laws.{doubles-triple}
use Rattle.powers.proofs.Words.{words_block}
use Rattle.engines.proofs.carried_out.masks_of.Goals as goal

pub returns : goal.returns
returns c =
    let left = c.mask-left.ensures in
    (left, c.triple-right.ensures ∙ ap triple left ∙ sym (doubles-triple c.args.i (bytes_of c.args.u) (words_block c.args.u)))
