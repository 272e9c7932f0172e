-- A record's own mask stands for the record. Assumes nothing.
use Rattle.link.proofs.Entries.{record_stands}
use Rattle.link.proofs.keyed.PreparedKey.mask.Goals as goal

pub returns : goal.returns
returns c = record_stands c.args.self.now _ c.args._ad.now c.requires.own
