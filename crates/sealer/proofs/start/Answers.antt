-- `sealer::start` meets its contract: so few blocks are ciphered that their number fits. Assumes nothing.
use Rattle.std.proofs.Common.{arith}
use Rattle.aes.specs.Under.{cipher_under}
use Rattle.mode.specs.declared.edition.Edition.TheVariants.{V3}
use Rattle.mode.proofs.Runs.{length-call_inputs}
use Rattle.sealer.proofs.start.Goals as goal

pub overflow_add-result : goal.overflow_add-result
overflow_add-result c =
    let v = c.args in
    omega (arith, length-call_inputs (cipher_under v.e.now) v.q (V3 c.numbered.result) v.nonce.now v.ad.now v.tag)
