-- What the first i blocks come to, and i runs of the cipher.
use Rattle.std.proofs.Common.{◌≡◌}
use Rattle.aes.specs.Under.{cipher_under}
use Rattle.mode.specs.Data.{chain}
use Rattle.associated.proofs.serial.chain.Given as goal

abbrev pub invariant-loop-i : goal.invariant-loop-i
invariant-loop-i l = record { front : l.xi ≡ chain (cipher_under l.e) l.i l.a; runs : l.runs ≡ l.i }
