-- Two runs for each pair.
use Rattle.std.proofs.Common.{arith}
use Rattle.aes.specs.Under.{cipher_under}
use Rattle.mode.specs.Masks.{doubled}
use Rattle.mode.proofs.Runs.{length-pairs_inputs}
use Rattle.parts.proofs.later_pairs.Goals as goal

pub overflow_add-result : goal.overflow_add-result
overflow_add-result c =
    let k = c.args.front.value.masks in
    let two = length-pairs_inputs (cipher_under c.args.e.now) (doubled k.left k.right) c.args.n c.args.tail.now in
    record { fits = omega arith }

pub returns-clause-runs_value : goal.returns-clause-runs_value
returns-clause-runs_value c =
    let k = c.args.front.value.masks in
    omega (arith, length-pairs_inputs (cipher_under c.args.e.now) (doubled k.left k.right) c.args.n c.args.tail.now)
