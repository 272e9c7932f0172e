-- A known record has as many rounds as a cipher takes. Assumes nothing.
use Rattle.link.proofs.Entries.{counted}
use Rattle.link.proofs.keyed.PreparedKey.round_keys.Goals as goal

pub returns-clause-round_count : goal.returns-clause-round_count
returns-clause-round_count c = counted _ c.requires
