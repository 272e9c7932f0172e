-- `ends::seal_two` meets its contract. Assumes nothing.
use Rattle.std.proofs.Common.{◌≡◌, ◌++◌, ◌+◌, ◌-◌, length, take, drop, ap, ap₂, ◌∙◌, rules}
use Rattle.lists.specs.Lay.{lay}
use Rattle.lists.specs.Xor.{xor}
use Rattle.aes.specs.Under.{cipher_under}
use Rattle.block.specs.Block.{pad}
use Rattle.mode.specs.Message.{half, z, last}
use Rattle.ends.proofs.Rest.{second_masked}
use Rattle.ends.proofs.seal_two.Goals as goal

pub returns : goal.returns
returns c =
    let v = c.args in
    let E = cipher_under v.e.now in
    let x = drop v.at v.m.now in
    let p_is = c.read_block-p.ensures in
    let z_is : c.encrypt-z.result ≡ z E v.k.left x = c.encrypt-z.ensures ∙ ap E (c.xor.ensures ∙ ap (xor v.k.left) p_is) in
    let last_is : take (length v.m.now - (v.at + 16)) c.xor-last.result ≡ last E v.k.left x =
    second_masked v.m.now v.at _ _ _ _ c.read.ensures z_is c.xor-last.ensures in
    let padded_is : c.pad-padded.result ≡ pad (last E v.k.left x) = c.pad-padded.ensures ∙ ap pad last_is in
    let first_is = c.half-runs.ensures.block_value ∙ ap₂ (half E v.k.right) padded_is p_is in
    record {
      out_after = c.put_two.ensures ∙ ap (λ l. lay v.at l v.out.now) (ap₂ ◌++◌ first_is last_is);
      block_value = c.xor-value.ensures ∙ ap₂ xor z_is padded_is;
      runs_value = search rules;
    }
