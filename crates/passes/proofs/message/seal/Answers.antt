-- `passes::message::seal` meets its contract: the pairs, and what stands behind them. Assumes nothing.
use Rattle.std.proofs.Common.{length, arith}
use Rattle.aes.specs.Under.{cipher_under}
use Rattle.mode.specs.Masks.{masks_of}
use Rattle.mode.specs.Message.{pairs_of}
use Rattle.mode.proofs.Runs.{length-pairs_inputs, length-sealed_inputs}
use Rattle.passes.proofs.message.seal.Goals as goal

pub overflow_add-result : goal.overflow_add-result
overflow_add-result c =
    let v = c.args in
    let m = v.m.now in
    let E = cipher_under v.e.now in
    let k = masks_of v.edition v.u in
    record {
      fits =
          omega (
            arith,
            c.pairs-front.ensures.runs_value k,
            length-pairs_inputs E k c.pairs_of-n.result m,
            length-pairs_inputs E k (pairs_of (length m)) m,
            length-sealed_inputs E k m,
          );
    }
