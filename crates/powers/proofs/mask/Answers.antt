-- `powers::mask` meets its contract: 2ⁿU is the product of U with xⁿ. Assumes nothing.
use Rattle.std.proofs.Common.{ap₂, ◌∙◌}
use Rattle.block.specs.Wide.{bytes_of}
use Rattle.powers.specs.Field.{product}
use Rattle.powers.proofs.Laws.{product-power}
use Rattle.powers.proofs.Words.{words_block}
use Rattle.powers.proofs.mask.Goals as goal

pub returns : goal.returns
returns c =
    c.turn_words.ensures.1
    ∙ c.product.ensures
    ∙ ap₂ product c.turn_words-first.ensures.0 c.power-x.ensures
    ∙ product-power c.args.n (bytes_of c.args.u) (words_block c.args.u)
