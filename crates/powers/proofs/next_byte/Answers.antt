-- `powers::next_byte` meets its contract. Assumes nothing.
use Rattle.std.proofs.Common.{get_or, rules, Fits, w64}
use Rattle.block.specs.Wide.{big_of}
use Rattle.powers.proofs.Words.{next_big}
use Rattle.powers.proofs.next_byte.Goals as goal

pub returns : goal.returns
unfolding big_of
returns c =
    let second : Fits w64 (get_or c.args.x 1 0) = search rules in
    next_big (get_or c.args.x 0 0) (get_or c.args.x 1 0) c.requires second.fits
