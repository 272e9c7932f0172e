-- The tag byte is stored into zeros, 1 is added to a byte of that, and the nonce is written over all behind it.
use Rattle.std.proofs.Common.{◌+◌, ◌-◌, length, set, ap, ◌∙◌}
use borrow.Rule.Slice.PartMut.{put_mid}
use Rattle.mode.specs.Nonce.{tag_byte}
use Rattle.associated.proofs.Formatted.{one_more_fits, marked, formatted}
use Rattle.associated.proofs.nonce.format.Goals as goal

pub overflow_add-b : goal.overflow_add-b
overflow_add-b c = record { fits = one_more_fits c.args.t _ c.blank-b.result c.blank-b.ensures }

pub returns : goal.returns
returns c =
    let n = c.args.nonce.now in
    let b = c.blank-b.result in
    let j = 15 - length n in
    ap (put_mid (j + 1) (16 - (j + 1)) (marked j (set b 0 (tag_byte c.args.t)))) c.copy_from_slice.ensures.after
    ∙ formatted c.args.t n b c.requires.lengths.1 c.blank-b.ensures
