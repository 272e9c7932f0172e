-- A raw key's own cipher and mask stand for it. Assumes nothing.
use Rattle.link.proofs.Entries.{own_stands}
use Rattle.link.proofs.keyed.RefSliceU8Key.mask.Goals as goal

pub returns : goal.returns
returns c =
    let mask = c.own_mask.ensures in
    own_stands c.args.self.now.now c.requires.known c.args.ad.now _ _ _ c.requires.own mask.block_value mask.runs_value
