-- `block::wide::to_words` meets its contract: eight bytes and eight. Assumes nothing.
use Rattle.std.proofs.Common.{◌≡◌, ◌++◌, length, get_or, refl, ap₂, ◌∙◌, rules}
use Rattle.lists.specs.Table.{table_from}
use Rattle.lists.proofs.Table.{as_table}
use Rattle.block.specs.Wide.{bytes_of}
use Rattle.block.proofs.wide.to_words.Goals as goal

pub returns : goal.returns
unfolding bytes_of table_from
returns c =
    let b = c.args.b in
    let long : length b ≡ 16 = search rules in
    ap₂ ◌++◌ c.pack_eight.ensures c.pack_eight-2.ensures ∙ as_table b 16 (λ i. get_or b i 0) long (λ i h. refl)
