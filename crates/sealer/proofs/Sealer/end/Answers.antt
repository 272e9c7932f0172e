-- `sealer::Sealer::end` meets its promise. Assumes nothing.
use Rattle.aes.specs.Cipher.{cipher}
use Rattle.sealer.proofs.Steps.{end_refused, end_fits, end_passed}
use Rattle.sealer.proofs.Sealer.end.Goals as goal

pub returns-in-Err : goal.returns-in-Err
returns-in-Err c = end_refused cipher c.args.self c.args.out.now _ c.in-Err.ensures

pub give_rest-requires-clause-round_count : goal.give_rest-requires-clause-round_count
give_rest-requires-clause-round_count c =
    let going = (end_fits cipher c.args.self c.args.out.now _ c.in_default.ensures).0 in
    (going.rounds_in.0, (going.rounds_in.1, going.tags.1))

pub give_rest-requires-clause-room : goal.give_rest-requires-clause-room
give_rest-requires-clause-room c = (end_fits cipher c.args.self c.args.out.now _ c.in_default.ensures).1

pub returns : goal.returns
returns c = end_passed cipher c.args.self c.args.out.now _ c.in_default.ensures _ _ c.give_rest.ensures
