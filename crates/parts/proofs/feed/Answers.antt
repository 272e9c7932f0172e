-- The first pair is one of all that is at hand, and the n − 1 others lie behind it.
use Rattle.std.proofs.Common.{◌≡◌, ◌-◌, ◌++◌, ℕ, List, length, take, drop, ap, ap₂, ◌∙◌, rules, arith, length-drop}
use lib.Seq.{take_all}
use Rattle.lists.specs.Lay.{lay}
use Rattle.lists.proofs.Laid.{lay_part}
use Rattle.aes.specs.Under.{cipher_under}
use Rattle.mode.specs.Masks.{Masks, doubles, doubled}
use Rattle.mode.specs.Message.{pairs}
use Rattle.pairs.proofs.Cipher.{is_cipher}
use Rattle.parts.specs.State.{behind_state}
use Rattle.parts.proofs.Feeds.{Due, fed_laid, fed_state_lem, fed_runs}
use Rattle.parts.proofs.feed.Goals as goal

pub returns : goal.returns
returns c =
    let v = c.args in
    let s = v.state in
    let E = cipher_under v.e.now in
    let e = is_cipher v.e.now.rounds v.e.now.words in
    let given = c.requires.held_bound in
    let due : Due s v.held v.n v.part.now v.out.now = record {
      kept = search (rules, c.well_formed);
      left = search (rules, c.well_formed);
      right = search (rules, c.well_formed);
      within = given.0;
      count = given.1.0;
      some = given.1.1.0;
      fits = given.1.1.1;
    } in
    let o = c.first_pair-one.new.out in
    let one = c.first_pair-one.result.value in
    let after = c.first_pair-one.ensures.masks_after in
    let part = drop (32 - v.held) v.part.now in
    let tail = take (length v.part.now - (32 - v.held)) part in
    let tail_is : tail ≡ part = take_all (length v.part.now - (32 - v.held)) part (omega (arith, length-drop (32 - v.held) v.part.now)) in
    record {
      out_after =
          ap (λ (x : List ℕ). take 32 o ++ (x ++ drop (length o - 32) (drop 32 o))) c.later_pairs.ensures.out_after
          ∙ lay_part 32 (pairs E (doubled one.masks.left one.masks.right) (v.n - 1) tail) o (omega (arith, due.fits, due.some))
          ∙ ap₂ (λ (k : Masks) (x : List ℕ). lay 32 (pairs E k (v.n - 1) x) o) (ap₂ doubled after.0 after.1.0) tail_is
          ∙ ap (lay 32 (pairs E (doubled (doubles 1 s.left) (doubles 1 s.right)) (v.n - 1) part)) c.first_pair-one.ensures.out_after
          ∙ fed_laid E e s v.held v.n v.part.now v.out.now due;
      state_value =
          c.later_pairs.ensures.state_value
          ∙ ap₂ (λ (a b : List ℕ). behind_state a b one.sum (v.n - 1) tail) after.0 after.1.0
          ∙ ap₂ (λ (a x : List ℕ). behind_state (doubles 1 s.left) (doubles 1 s.right) a (v.n - 1) x) after.1.1 tail_is
          ∙ fed_state_lem E e s v.held v.n v.part.now v.out.now due;
      runs_value = c.later_pairs.ensures.runs_value ∙ fed_runs E e s v.held v.n v.part.now v.out.now due;
    }
