-- `sealer::Sealer::take_in` meets its contract: the pairs that are due go out, or none is and all is kept. Assumes nothing.
use Rattle.std.proofs.Common.{◌≡◌, ℕ, ◌+◌, ◌*◌, List, ◌++◌, length, take, sym, ap, ap₂, ◌∙◌, arith, rules}
use Rattle.lists.specs.Lay.{lay}
use Rattle.lists.proofs.Laid.{front_none}
use Rattle.aes.specs.Cipher.{cipher}
use Rattle.mode.specs.Masks.{doubled}
use Rattle.mode.specs.Message.{pairs_of, pairs, pairs_inputs}
use Rattle.mode.specs.Feeding.{keeps}
use Rattle.mode.proofs.Counts.{rest_most}
use Rattle.link.specs.Answers.{done}
use Rattle.parts.specs.declared.State.{State}
use Rattle.parts.specs.State.{fed_state}
use Rattle.parts.proofs.Feeds.{hand_long}
use Rattle.sealer.specs.declared.Sealer.{Sealer}
use Rattle.sealer.specs.Sealers.{fed_by}
use Rattle.sealer.proofs.Verdicts.{keeps_most}
use Rattle.sealer.proofs.Sealer.take_in.Goals as goal

pub keep-next-requires : goal.keep-next-requires
keep-next-requires c =
    let v = c.args in
    let due = ap (λ (n : ℕ). pairs_of (n + length v.part.now)) c.kept-held.ensures in
    omega (arith, rest_most (keeps v.self.fed + length v.part.now), due)

-- the sealer that comes back, with the state a
given : Sealer → State → List ℕ → Sealer
given s a x = record { rounds = s.rounds; words = s.words; state = a; added = s.added; tag = s.tag; fed = s.fed + length x }

pub returns-then-n-eq0 : goal.returns-then-n-eq0
unfolding given pairs pairs_inputs
returns-then-n-eq0 c =
    let s = c.args.self in
    let x = c.args.part.now in
    let E = cipher s.rounds s.words in
    let k = doubled s.state.left s.state.right in
    let y = take (keeps s.fed) s.state.kept ++ x in
    let held = c.kept-held.ensures in
    let due = c.pairs_of-n.ensures ∙ ap (λ (n : ℕ). pairs_of (n + length x)) held in
    let none : pairs_of (keeps s.fed + length x) ≡ 0 = sym due ∙ c.if-n-eq0.true in
    let long : length s.state.kept ≡ 32 = search (rules, c.well_formed) in
    let none-due : pairs_of (length y) ≡ 0 = ap pairs_of (hand_long s.state.kept long (keeps s.fed) (keeps_most s.fed) x) ∙ none in (
      ap (λ (a : State). record { answer = done 0 0; sealer = given s a x }) (c.keep-next.ensures ∙ ap (λ (n : ℕ). fed_state s.state n x) held)
          ∙ ap₂ (λ (a b : ℕ). record { answer = done (32 * a) (length (pairs_inputs E k b y)); sealer = fed_by s x }) (sym none) (sym none-due),
      sym (ap (λ (n : ℕ). lay 0 (pairs E k n y) c.args.out.now) none-due ∙ front_none c.args.out.now),
    )

pub feed-runs-requires : goal.feed-runs-requires
feed-runs-requires c =
    let v = c.args in
    let most = keeps_most v.self.fed in
    let due = ap (λ (n : ℕ). pairs_of (n + length v.part.now)) c.kept-held.ensures in
    record { held_bound = (omega arith, (c.pairs_of-n.ensures, (omega arith, omega (arith, due)))) }
