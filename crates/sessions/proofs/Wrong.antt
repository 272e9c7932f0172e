-- Wrong programs, each with named inputs at which its result does not meet the promise, whatever the cipher. The named sealers have 10
-- rounds, 16 bytes of tag and zeros, but for what is said. Assumes nothing.
use mathlib.Core.Path.{◌≡◌, sym, ap, subst, ◌∙◌}
use mathlib.Core.Bool.{true, false}
use mathlib.Core.List.{List, [], ◌∷◌}
use Prim.Native.Nat.{ℕ}
use native.Mathlib.Omega.{arith}
use lib.ListN.{get_or}
use Rattle.lists.specs.Hex.{bytes}
use Rattle.lists.specs.Zeros.{zeros}
use Rattle.mode.specs.Message.{blocks, pairs_of}
use Rattle.link.specs.Answers.{number_of, length_of}
use Rattle.link.specs.Checks.{call_check}
use Rattle.sealer.specs.declared.Sealer.{Sealer}
use Rattle.sealer.specs.declared.Step.{Step}
use Rattle.sealer.specs.Sealers.{going_on, ended, feed_check, end_check}
use Rattle.sealer.specs.Promises.{beginning, Feeds, Ends}

-- the sealer of so many rounds with so many bytes fed and these kept
abbrev pub sealer : ℕ → ℕ → List ℕ → Sealer
sealer rounds fed kept =
    record {
      rounds = rounds;
      words = zeros 240;
      state = record { left = zeros 16; right = zeros 16; sum = zeros 16; kept = kept };
      added = zeros 16;
      tag = 16;
      fed = fed;
    }

abbrev pub fresh : Sealer
fresh = sealer 10 0 (bytes 32 0)

-- a kept byte, 1
abbrev pub one_kept : Sealer
one_kept = sealer 10 1 (1 ∷ bytes 31 0)

module _ (C : ℕ → List ℕ → List ℕ → List ℕ) (r : Step) (after : List ℕ) where
  -- ---- holds everything back until the end: of 33 bytes none comes out
  pub holds_back : Feeds C fresh (bytes 33 0) (bytes 32 0) r after → length_of r.answer ≡ 0 → ⊥
  unfolding Feeds feed_check pairs_of blocks
  holds_back h z =
      let right : length_of r.answer ≡ 32 = ap (λ (y : Step). length_of y.answer) h.0 in
      omega arith

  -- ---- hands out the last pair early: 32 bytes come out as soon as they are fed
  pub last_pair_early : Feeds C fresh (bytes 32 0) (bytes 32 0) r after → length_of r.answer ≡ 32 → ⊥
  unfolding Feeds feed_check pairs_of blocks
  last_pair_early h z =
      let right : length_of r.answer ≡ 0 = ap (λ (y : Step). length_of y.answer) h.0 in
      omega arith

  -- ---- forgets the kept bytes when a part is empty
  pub forgets_kept : Feeds C one_kept [] [] r after → r.sealer.state.kept ≡ zeros 32 → ⊥
  unfolding Feeds feed_check pairs_of blocks zeros
  forgets_kept h z =
      let right : get_or r.sealer.state.kept 0 0 ≡ 1 = ap (λ (y : Step). get_or y.sealer.state.kept 0 0) h.0 in
      let wrong : get_or r.sealer.state.kept 0 0 ≡ 0 = ap (λ (l : List ℕ). get_or l 0 0) z in
      omega arith

  pub forgets_count : Feeds C one_kept [] [] r after → r.sealer.fed ≡ 0 → ⊥
  unfolding Feeds feed_check pairs_of blocks
  forgets_count h z =
      let right : r.sealer.fed ≡ 1 = ap (λ (y : Step). y.sealer.fed) h.0 in
      omega arith

  -- ---- changes the sealer on a 6: it counts the part, or is another altogether
  pub changes_on_6 : Feeds C fresh (bytes 33 0) (bytes 31 0) r after → (r.sealer ≡ fresh → ⊥) → ⊥
  unfolding Feeds feed_check pairs_of blocks
  changes_on_6 h z = z (ap (λ (y : Step). y.sealer) h.0)

  pub counts_on_6 : Feeds C fresh (bytes 33 0) (bytes 31 0) r after → r.sealer.fed ≡ 33 → ⊥
  unfolding Feeds feed_check pairs_of blocks
  counts_on_6 h z =
      let right : r.sealer.fed ≡ 0 = ap (λ (y : Step). y.sealer.fed) h.0 in
      omega arith

  -- ---- looks at the room before it looks at the length: 16,385 bytes in all, and no room, answer 6
  pub room_before_length : Feeds C (sealer 10 16384 (bytes 32 0)) (0 ∷ []) [] r after → number_of r.answer ≡ 6 → ⊥
  unfolding Feeds feed_check pairs_of blocks
  room_before_length h z =
      let right : number_of r.answer ≡ 5 = ap (λ (y : Step). number_of y.answer) h.0 in
      omega arith

  -- ---- takes a value that no call hands out: 3 rounds, or 16,385 bytes fed
  pub ends_with_3_rounds : Ends C (sealer 3 0 (bytes 32 0)) (bytes 16 0) r after → number_of r.answer ≡ 0 → ⊥
  unfolding Ends end_check
  ends_with_3_rounds h z =
      let right : number_of r.answer ≡ 9 = ap (λ (y : Step). number_of y.answer) h.0 in
      omega arith

  pub ends_with_16385 : Ends C (sealer 10 16385 (bytes 32 0)) (bytes 48 0) r after → number_of r.answer ≡ 0 → ⊥
  unfolding Ends end_check
  ends_with_16385 h z =
      let right : number_of r.answer ≡ 9 = ap (λ (y : Step). number_of y.answer) h.0 in
      omega arith

  -- ---- ends twice, or goes on after the end
  pub ends_twice : Ends C fresh (bytes 16 0) r after → (out : List ℕ) (r' : Step) (after' : List ℕ) → Ends C r.sealer out r' after' → number_of r'.answer ≡ 0 → ⊥
  unfolding Ends end_check pairs_of blocks
  ends_twice h out r' after' h' z =
      let again : Ends C ended out r' after' = subst (λ (s : Sealer). Ends C s out r' after') (ap (λ (y : Step). y.sealer) h.0) h' in
      let right : number_of r'.answer ≡ 9 = ap (λ (y : Step). number_of y.answer) again.0 in
      omega arith

-- ---- hands back a sealer that goes on where the beginning was refused: a key of no bytes
pub goes_on_refused : (C : ℕ → List ℕ → List ℕ → List ℕ) (s : Sealer) → s ≡ (beginning C 0 [] (0 ∷ []) [] 16).sealer → going_on s.rounds s.tag s.fed ≡ true → ⊥
unfolding beginning call_check
goes_on_refused C s is z =
    let wrong : false ≡ true = sym (ap (λ (x : Sealer). going_on x.rounds x.tag x.fed) is) ∙ z in
    let apart : ◌≡◌ {A = ℕ} 0 1 = cc in
    omega arith
