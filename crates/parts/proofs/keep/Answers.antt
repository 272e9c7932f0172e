-- No pair is due, so that the masks and the checksum stay.
use Rattle.std.proofs.Common.{List, ℕ, ap, ◌∙◌, rules}
use Rattle.parts.proofs.Feeds.{kept_all}
use Rattle.parts.proofs.keep.Goals as goal

pub returns : goal.returns
returns c =
    let s = c.args.state in
    ap (λ (x : List ℕ). record { left = s.left; right = s.right; sum = s.sum; kept = x }) c.join.ensures
    ∙ kept_all s c.args.held c.args.part.now (search (rules, c.well_formed)) (search (rules, c.well_formed)) c.requires
