-- What the checks of feeding and ending come to: they pass, and then the sealer goes on and what is due has room; or the first that fails
-- stops the call with its own number. Assumes nothing.
use mathlib.Core.Path.{◌≡◌, refl}
use mathlib.Core.Bool.{true, ◌&&◌}
use Prim.Native.Nat.{ℕ, ◌+◌, ◌*◌, ◌≤◌}
use native.Mathlib.Omega.{arith}
use lib.Dec.{leb}
use borrow.Author.Tests.{leb-true}
use Rattle.mode.specs.Message.{pairs_of}
use Rattle.mode.specs.Feeding.{keeps}
use Rattle.mode.proofs.Counts.{rest_most}
use Rattle.link.specs.Checks.{from_to, known_rounds}
use Rattle.link.specs.declared.answer.Refusal.TheVariants.{Length, Room, Ended}
use Rattle.link.proofs.Verdicts.{Verdict, passes, checked, and_true, within}
use Rattle.link.proofs.Entries.{counted}
use Rattle.sealer.specs.Sealers.{going_on, feed_check, end_check}

-- a sealer that goes on
pub record Going (rounds t fed : ℕ) : Type 0 where
  pub known : known_rounds rounds ≡ true
  pub rounds_in : (10 ≤ rounds) × (rounds ≤ 14)
  pub tags : (4 ≤ t) × (t ≤ 16)
  pub most : fed ≤ 16384

-- no more than 32 bytes are kept, whatever was fed
pub keeps_most : (fed : ℕ) → keeps fed ≤ 32
keeps_most fed = omega (arith, rest_most fed)

module _ (rounds t fed : ℕ) where
  pub going : going_on rounds t fed ≡ true → Going rounds t fed
  going h =
      let a = and_true (known_rounds rounds) (from_to 4 16 t && leb fed 16384) h in
      let b = and_true (from_to 4 16 t) (leb fed 16384) a.1 in
      record { known = a.0; rounds_in = counted rounds a.0; tags = within 4 16 t b.0; most = leb-true fed 16384 b.1 }

  -- what the checks of feeding and of ending make sure of
  abbrev pub FeedFits : ℕ → ℕ → Type 0
  FeedFits x o = Going rounds t fed × (fed + x ≤ 16384) × (32 * pairs_of (keeps fed + x) ≤ o)

  abbrev pub EndFits : ℕ → Type 0
  EndFits o = Going rounds t fed × (keeps fed + t ≤ o)

  pub feed_verdict : (x o : ℕ) → Verdict (FeedFits x o) (32 * pairs_of (keeps fed + x)) (feed_check rounds t fed x o)
  unfolding feed_check
  feed_verdict x o =
      checked (going_on rounds t fed) Ended λ g.
      checked (leb (fed + x) 16384) Length λ l.
      checked (leb (32 * pairs_of (keeps fed + x)) o) Room λ r.
      passes (going g, leb-true (fed + x) 16384 l, leb-true (32 * pairs_of (keeps fed + x)) o r) refl

  pub end_verdict : (o : ℕ) → Verdict (EndFits o) (keeps fed + t) (end_check rounds t fed o)
  unfolding end_check
  end_verdict o =
      checked (going_on rounds t fed) Ended λ g.
      checked (leb (keeps fed + t) o) Room λ r.
      passes (going g, leb-true (keeps fed + t) o r) refl
