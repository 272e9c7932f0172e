-- Zeros for empty data, and else the last block behind the others.
use Rattle.std.proofs.Common.{◌≡◌, ℕ, ◌-◌, ◌*◌, ◌≤◌, List, length, take, drop, sym, ap, ◌∙◌, arith, length-drop}
use Rattle.std.proofs.lemmas.Bool.Decides.{nat_tests}
use lib.Seq.{take_all}
use Rattle.aes.specs.Under.{cipher_under}
use Rattle.block.specs.Block.{filled, pad}
use Rattle.block.proofs.Blocks.{part_filled}
use Rattle.mode.proofs.Data.{ta_none, ta_is}
use Rattle.mode.proofs.Runs.{ta_inputs_none, ta_inputs_some}
use Rattle.associated.proofs.data.ta.Goals as goal

pub returns-then-is_empty-clause-block_value : goal.returns-then-is_empty-clause-block_value
returns-then-is_empty-clause-block_value c d mask_is xi-is =
    let none : length c.args.a.now ≡ 0 = grind (arith, nat_tests) in
    c.blank.ensures ∙ sym (ta_none (cipher_under c.args.e.now) d c.args.a.now none)

pub returns-then-is_empty-clause-runs_value : goal.returns-then-is_empty-clause-runs_value
returns-then-is_empty-clause-runs_value c d runs_are =
    let none : length c.args.a.now ≡ 0 = grind (arith, nat_tests) in
    sym (ta_inputs_none (cipher_under c.args.e.now) d c.args.a.now none)

-- the last k bytes, read and padded
last_padded : (x : List ℕ) (k : ℕ) → length x ≡ k → pad (take k (filled (take k x))) ≡ pad x
last_padded x k h = ap (λ (l : List ℕ). pad (take k (filled l))) (take_all k x (omega arith)) ∙ ap pad (part_filled x k h)

pub returns-clause-block_value : goal.returns-clause-block_value
returns-clause-block_value c d mask_is xi-is =
    let a = c.args.a.now in
    let n = c.args.n in
    let some : 1 ≤ length a = grind (arith, nat_tests) in
    let last = last_padded (drop (16 * n) a) (length a - 16 * n) (length-drop (16 * n) a) in
    let whole = ta_is (cipher_under c.args.e.now) d a n some c.requires.n_value.0 c.args.mask c.args.xi.value mask_is xi-is in
    cc

pub returns-clause-runs_value : goal.returns-clause-runs_value
returns-clause-runs_value c d runs_are =
    let some : 1 ≤ length c.args.a.now = grind (arith, nat_tests) in
    let more = ta_inputs_some (cipher_under c.args.e.now) d c.args.a.now c.args.n some c.requires.n_value.0 in
    omega arith
