-- `sealer::Sealer::feed` meets its promise. Assumes nothing.
use Rattle.aes.specs.Cipher.{cipher}
use Rattle.sealer.proofs.Steps.{feed_refused, feed_fits, feed_passed}
use Rattle.sealer.proofs.Sealer.feed.Goals as goal

pub returns-in-Err : goal.returns-in-Err
returns-in-Err c = feed_refused cipher c.args.self c.args.out.now c.args.part.now _ c.in-Err.ensures

pub take_in-requires-clause-round_count : goal.take_in-requires-clause-round_count
take_in-requires-clause-round_count c = (feed_fits cipher c.args.self c.args.out.now c.args.part.now _ c.in_default.ensures).0.rounds_in

pub take_in-requires-clause-part_bound : goal.take_in-requires-clause-part_bound
take_in-requires-clause-part_bound c =
    let fits = feed_fits cipher c.args.self c.args.out.now c.args.part.now _ c.in_default.ensures in
    (fits.1, fits.2)

pub returns : goal.returns
returns c = feed_passed cipher c.args.self c.args.out.now c.args.part.now _ c.in_default.ensures _ _ c.take_in.ensures
