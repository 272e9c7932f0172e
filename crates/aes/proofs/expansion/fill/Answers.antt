-- `aes::expansion::fill` meets its contract: the key stands there, and then each word behind it. Assumes nothing.
use Rattle.std.proofs.Common.{ℕ, ◌≡◌, ◌+◌, ◌*◌, List, length, take, sym, ap, ◌∙◌, arith}
use lib.Seq.{length-take-le}
use Rattle.lists.specs.Lay.{lay}
use Rattle.lists.proofs.Laid.{lay_front}
use Rattle.aes.specs.Expansion.{next, words}
use Rattle.aes.proofs.Words.{fill_step}
use Rattle.aes.proofs.expansion.fill.Goals as goal

pub loop-k-init : goal.loop-k-init
unfolding words
loop-k-init c = sym (lay_front (4 * c.args.nk) c.args.w.now (omega arith))

pub loop-k-preserved : goal.loop-k-preserved
loop-k-preserved c =
    let nk = c.args.nk in
    let k = c.loop-k.k in
    let i = nk + k in
    let key = take (4 * nk) c.args.w.now in
    let own : length key ≡ 4 * nk = length-take-le (4 * nk) c.args.w.now (omega arith) in
    c.lay.ensures
    ∙ ap (λ (a : List ℕ). lay (4 * i) a c.loop-k.w) c.next_word-a.ensures
    ∙ ap (λ (l : List ℕ). lay (4 * i) (next nk i l) l) c.loop-k.invariant
    ∙ fill_step nk k key c.args.w.now own (omega arith) (omega arith)
