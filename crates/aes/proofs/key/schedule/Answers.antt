-- `aes::key::schedule` meets its contract: the key laid at the front of zeros, and the words over it. Assumes nothing.
use Rattle.std.proofs.Common.{ℕ, ◌+◌, ◌*◌, List, length, take, drop, ap, ◌∙◌, arith}
use lib.Seq.{take_at}
use Rattle.lists.specs.Lay.{lay}
use Rattle.lists.proofs.Laid.{lay_over}
use Rattle.aes.specs.Expansion.{words}
use Rattle.aes.proofs.Words.{length-words}
use Rattle.aes.proofs.key.schedule.Goals as goal

pub returns : goal.returns
returns c =
    let nk = c.args.nk in
    let n = c.args.n in
    let key = c.args.key.now in
    let b = c.blank-w.result in
    c.fill.ensures
    ∙ ap (λ (w : List ℕ). lay 0 (words nk (take (4 * nk) w) n) w) c.lay.ensures
    ∙ ap (λ (k : List ℕ). lay 0 (words nk k n) (lay 0 key b)) (take_at key (drop (0 + length key) b) (4 * nk) (omega arith))
    ∙ lay_over key (words nk key n) b (omega (arith, length-words nk key n (omega arith)))
    ∙ ap (lay 0 (words nk key n)) c.blank-w.ensures
