-- `ends::open_two` meets its contract. Assumes nothing.
use Rattle.std.proofs.Common.{◌≡◌, ◌++◌, drop, ap, ap₂, ◌∙◌, rules}
use Rattle.lists.specs.Lay.{lay}
use Rattle.lists.specs.Xor.{xor}
use Rattle.aes.specs.Under.{cipher_under}
use Rattle.block.specs.Block.{pad}
use Rattle.mode.specs.Message.{half}
use Rattle.mode.specs.Undoing.{first}
use Rattle.ends.proofs.Rest.{second_masked, second_filled}
use Rattle.ends.proofs.open_two.Goals as goal

pub returns : goal.returns
returns c =
    let v = c.args in
    let E = cipher_under v.e.now in
    let x = drop v.at v.c.now in
    let padded_is = c.pad-padded.ensures ∙ ap pad (second_filled v.c.now v.at _ c.read-last.ensures) in
    let first_is : c.half-runs.result.value ≡ first E v.k.right x =
    c.half-runs.ensures.block_value ∙ ap₂ (half E v.k.right) padded_is c.read_block.ensures in
    let z_is = c.encrypt-z.ensures ∙ ap E (c.xor.ensures ∙ ap (xor v.k.left) first_is) in
    let last_is = second_masked v.c.now v.at _ _ _ _ c.read-last.ensures z_is c.xor-2.ensures in
    record {
      out_after = c.put_two.ensures ∙ ap (λ l. lay v.at l v.out.now) (ap₂ ◌++◌ first_is last_is);
      block_value = c.xor-3.ensures ∙ ap₂ xor z_is padded_is;
      runs_value = search rules;
    }
