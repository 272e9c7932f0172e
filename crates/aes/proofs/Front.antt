-- The cipher reads no more of an expanded key than its rounds ask for: what stands behind changes nothing. Assumes nothing.
use mathlib.Core.Path.{◌≡◌, refl, ap, ◌∙◌}
use mathlib.Core.List.{List, ◌++◌}
use Prim.Native.Nat.{ℕ, zero, suc, ◌+◌, ◌-◌, ◌*◌, ◌≤◌}
use native.Mathlib.Omega.{arith}
use lib.Bits.{bit_xor}
use lib.ListN.{length, get_or}
use Rattle.lists.proofs.Four.{four}
use Rattle.aes.specs.State.{at, column, word, input, output}
use Rattle.aes.specs.Cipher.{add_round_key, round, last_round, rounds, cipher}
use Rattle.aes.proofs.Words.{word_front}

module _ (a b : List ℕ) where
  key_front : (n : ℕ) (s : List (List ℕ)) → 16 * (n + 1) ≤ length a → add_round_key (a ++ b) n s ≡ add_round_key a n s
  unfolding add_round_key
  key_front n s h = four (col 0 (omega arith)) (col 1 (omega arith)) (col 2 (omega arith)) (col 3 (omega arith))
    where
      col : (c : ℕ) → 4 * (4 * n + c) + 4 ≤ length a
          → column (λ r. bit_xor (at s r c) (get_or (word (a ++ b) (4 * n + c)) r 0)) ≡ column (λ r. bit_xor (at s r c) (get_or (word a (4 * n + c)) r 0))
      col c l = ap (λ (k : List ℕ). column (λ r. bit_xor (at s r c) (get_or k r 0))) (word_front a b (4 * n + c) l)

  -- a round, whatever its other steps are
  round_front : (n : ℕ) (s : List (List ℕ)) → 16 * (n + 1) ≤ length a → round (a ++ b) n s ≡ round a n s
  unfolding round
  round_front n s h = key_front n _ h

  last_front : (n : ℕ) (s : List (List ℕ)) → 16 * (n + 1) ≤ length a → last_round (a ++ b) n s ≡ last_round a n s
  unfolding last_round
  last_front n s h = key_front n _ h

  rounds_front : (n : ℕ) (s : List (List ℕ)) → 16 * (n + 1) ≤ length a → rounds (a ++ b) n s ≡ rounds a n s
  unfolding rounds
  rounds_front zero s h = refl
  rounds_front (suc n) s h =
      round_front (suc n) (rounds (a ++ b) n s) h ∙ ap (round a (suc n)) (rounds_front n s (omega arith))

  pub cipher_front : (nr : ℕ) (x : List ℕ) → 16 * (nr + 1) ≤ length a → cipher nr (a ++ b) x ≡ cipher nr a x
  unfolding cipher
  cipher_front nr x h =
      ap output
      (last_front nr (rounds (a ++ b) (nr - 1) (add_round_key (a ++ b) 0 (input x))) h
      ∙ ap (last_round a nr)
      (rounds_front (nr - 1) (add_round_key (a ++ b) 0 (input x)) (omega arith)
      ∙ ap (rounds a (nr - 1)) (key_front 0 (input x) (omega arith))))
