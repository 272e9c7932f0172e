-- `link::under::seal` meets its contract: so few blocks are ciphered that their number fits. Assumes nothing.
use Rattle.std.proofs.Common.{arith}
use Rattle.aes.specs.Under.{cipher_under}
use Rattle.mode.proofs.Runs.{length-from_inputs}
use Rattle.link.proofs.under.seal.Goals as goal

pub overflow_add-result-2 : goal.overflow_add-result-2
overflow_add-result-2 c =
    let v = c.args in
    let s = v.s.now in
    omega (arith, length-from_inputs (cipher_under v.e.now) v.q s.edition s.nonce.now s.ad.now s.tag v.message.now)
