-- `link::check::known_key` meets its contract: FIPS 197 has rounds for just these lengths. Assumes nothing.
use Rattle.std.proofs.Common.{ap, ◌∙◌}
use Rattle.std.specs.Option.{is_some}
use Rattle.link.proofs.Known.{some_known}
use Rattle.link.proofs.check.known_key.Goals as goal

pub returns : goal.returns
returns c = c.is_some.ensures ∙ ap is_some c.key_size.ensures ∙ some_known c.args.key
