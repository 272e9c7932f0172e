-- The bytes that are joined are the first 32 of all that is at hand, and so its first pair.
use Rattle.std.proofs.Common.{◌≡◌, List, ℕ, length, ap, ◌∙◌, rules, arith}
use Rattle.lists.specs.Lay.{lay}
use Rattle.lists.specs.Xor.{xor}
use Rattle.aes.specs.Under.{cipher_under}
use Rattle.mode.specs.Masks.{doubled}
use Rattle.mode.specs.Message.{sum, pairs}
use Rattle.mode.proofs.Runs.{length-pairs_inputs}
use Rattle.parts.proofs.Feeds.{first_whole, first_pair, first_sum}
use Rattle.parts.proofs.first_pair.Goals as goal

pub returns-clause-out_after : goal.returns-clause-out_after
returns-clause-out_after c =
    let s = c.args.state in
    let E = cipher_under c.args.e.now in
    let k = doubled s.left s.right in
    let long : length s.kept ≡ 32 = search (rules, c.well_formed) in
    let bound = c.requires.held_bound in
    let whole = first_whole s.kept long c.args.held c.args.part.now bound.0 bound.1.0 in
    c.next_pairs.ensures.out_after
    ∙ ap (λ (x : List ℕ). lay 0 (pairs E k 1 x) c.args.out.now) (c.join-first.ensures ∙ whole)
    ∙ ap (λ (x : List ℕ). lay 0 x c.args.out.now) (first_pair s.kept long c.args.held c.args.part.now bound.0 bound.1.0 E k)

pub returns-clause-masks_after : goal.returns-clause-masks_after
returns-clause-masks_after c =
    let s = c.args.state in
    let long : length s.kept ≡ 32 = search (rules, c.well_formed) in
    let bound = c.requires.held_bound in
    let whole = first_whole s.kept long c.args.held c.args.part.now bound.0 bound.1.0 in
    let after = c.next_pairs.ensures.masks_after in (
      after.0,
      (
        after.1.0,
        after.1.1
            ∙ ap (λ (x : List ℕ). xor s.sum (sum 1 x)) (c.join-first.ensures ∙ whole)
            ∙ ap (xor s.sum) (first_sum s.kept long c.args.held c.args.part.now bound.0 bound.1.0),
      ),
    )

pub returns-clause-runs_value : goal.returns-clause-runs_value
returns-clause-runs_value c =
    omega (arith, length-pairs_inputs (cipher_under c.args.e.now) (doubled c.args.state.left c.args.state.right) 1 c.join-first.result)
