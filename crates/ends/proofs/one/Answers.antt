-- `ends::one` meets its contract. Assumes nothing.
use Rattle.std.proofs.Common.{ap, ◌∙◌, length-drop}
use Rattle.lists.specs.Lay.{lay}
use Rattle.ends.proofs.Rest.{rest_masked, nothing_laid, nothing_taken}
use Rattle.ends.proofs.one.Goals as goal

pub returns-then-n-eq0-clause-out_after : goal.returns-then-n-eq0-clause-out_after
returns-then-n-eq0-clause-out_after c = nothing_laid _ _ _ c.args.at (length-drop c.args.at c.args.src.now ∙ c.if-n-eq0.true)

pub returns-then-n-eq0-clause-block_value : goal.returns-then-n-eq0-clause-block_value
returns-then-n-eq0-clause-block_value c = nothing_taken _ _ _ _ (length-drop c.args.at c.args.src.now ∙ c.if-n-eq0.true) c.if-n-eq0.true

pub returns-clause-out_after : goal.returns-clause-out_after
returns-clause-out_after c =
    let v = c.args in
    c.lay.ensures ∙ ap (λ x. lay v.at x v.out.now) (rest_masked v.src.now v.at _ _ _ _ c.read.ensures c.encrypt.ensures c.xor-x.ensures)

pub returns-clause-block_value : goal.returns-clause-block_value
returns-clause-block_value c = rest_masked c.args.src.now c.args.at _ _ _ _ c.read.ensures c.encrypt.ensures c.xor-x.ensures
