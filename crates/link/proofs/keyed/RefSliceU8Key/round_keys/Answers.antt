-- A known key has as many rounds as a cipher takes. Assumes nothing.
use Rattle.link.proofs.Entries.{rounds_in}
use Rattle.link.proofs.keyed.RefSliceU8Key.round_keys.Goals as goal

pub returns-clause-round_count : goal.returns-clause-round_count
returns-clause-round_count c = rw c.own_keys.ensures (rounds_in c.args.self.now.now c.requires)
