-- The planner's answers, by its two checks. Assumes nothing.
use mathlib.Core.Path.{◌≡◌, refl, ap, ◌∙◌}
use mathlib.Core.List.{List}
use Prim.Native.Nat.{ℕ, ◌*◌, ◌≤◌, ◌<◌}
use native.Mathlib.Omega.{arith}
use lib.ListN.{length}
use Rattle.std.specs.Prelude.{Err}
use borrow.Author.Tests.{le-leb, lt-leb}
use Rattle.lists.specs.Lay.{lay}
use Rattle.mode.specs.Message.{pairs_of}
use Rattle.plans.specs.Planner.{plan_of}
use Rattle.link.specs.Answers.{done}
use Rattle.link.specs.declared.answer.Refusal.TheVariants.{Length, Room}
use Rattle.engines.specs.Promises.{Plans}

module _ (m : ℕ) (out : List ℕ) where
  pub too_long : 16384 < m → Plans m out (Err Length) out
  unfolding Plans
  too_long h = rw (lt-leb m 16384 h) (refl, refl)

  module _ (h : m ≤ 16384) where
    pub no_room : length out < 3 * pairs_of m → Plans m out (Err Room) out
    unfolding Plans
    no_room short = rw (le-leb m 16384 h, lt-leb (3 * pairs_of m) (length out) short) (refl, refl)

    pub planned : (n : ℕ) → n ≡ pairs_of m → 3 * n ≤ length out → (after : List ℕ) → after ≡ lay 0 (plan_of n) out → Plans m out (done (3 * n) 0) after
    unfolding Plans
    planned n is enough after laid =
        let fits : 3 * pairs_of m ≤ length out = omega arith in
        rw (le-leb m 16384 h, le-leb (3 * pairs_of m) (length out) fits)
        (ap (λ (i : ℕ). done (3 * i) 0) is, laid ∙ ap (λ (i : ℕ). lay 0 (plan_of i) out) is)
