-- `link::prepared::own_keys` meets its contract: a key that is known has round keys. Assumes nothing.
use Rattle.std.proofs.Common.{refl, sym, ◌∙◌}
use Rattle.link.proofs.Entries.{expands, keys_are}
use Rattle.link.proofs.prepared.own_keys.Goals as goal

pub unwrap-requires : goal.unwrap-requires
unwrap-requires c = rw (c.expand.ensures.value, expands c.args.key.now c.requires) refl

pub returns : goal.returns
returns c = (keys_are c.args.key.now _ (sym c.expand.ensures.value ∙ c.unwrap.ensures)).0
