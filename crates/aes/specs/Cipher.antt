-- The forward cipher of FIPS 197, section 5.1, over an expanded key w.
use Rattle.std.specs.Prelude.{List, ℕ, zero, suc, ◌+◌, ◌-◌, ◌*◌, ◌%◌, get_or}
use Rattle.std.specs.Int.Bits.{bit_xor}
use Rattle.field.specs.Field.{product}
use Rattle.field.specs.Substitution.{substitute}
use Rattle.aes.specs.State.{at, state, input, output, word}

-- 5.1.1
abbrev pub sub_bytes : List (List ℕ) → List (List ℕ)
sub_bytes s = state (λ r c. substitute (at s r c))

-- 5.1.2: row r moves r places to the left
abbrev pub shift_rows : List (List ℕ) → List (List ℕ)
shift_rows s = state (λ r c. at s r ((c + r) % 4))

-- 5.1.3, (5.6): row r of a column is 2 times its own byte and 3 times the next, and the other two
abbrev pub mixed : ℕ → ℕ → ℕ → ℕ → ℕ
mixed a b c d = bit_xor (bit_xor (bit_xor (product 2 a) (product 3 b)) c) d

abbrev pub mix_columns : List (List ℕ) → List (List ℕ)
mix_columns s = state (λ r c. mixed (at s r c) (at s ((r + 1) % 4) c) (at s ((r + 2) % 4) c) (at s ((r + 3) % 4) c))

-- 5.1.4, (5.7): in round n, column c takes word 4n + c
unfoldable pub add_round_key : List ℕ → ℕ → List (List ℕ) → List (List ℕ)
add_round_key w n s = state (λ r c. bit_xor (at s r c) (get_or (word w (4 * n + c)) r 0))

-- Figure 5: a round, and the last one, which has no column mixing
unfoldable pub round : List ℕ → ℕ → List (List ℕ) → List (List ℕ)
round w n s = add_round_key w n (mix_columns (shift_rows (sub_bytes s)))

unfoldable pub last_round : List ℕ → ℕ → List (List ℕ) → List (List ℕ)
last_round w n s = add_round_key w n (shift_rows (sub_bytes s))

-- Figure 5: the rounds 1 to n
unfoldable pub rounds : List ℕ → ℕ → List (List ℕ) → List (List ℕ)
rounds w zero s = s
rounds w (suc n) s = round w (suc n) (rounds w n s)

-- Figure 5: the first key, nr - 1 rounds and the last one
unfoldable pub cipher : ℕ → List ℕ → List ℕ → List ℕ
cipher nr w b = output (last_round w nr (rounds w (nr - 1) (add_round_key w 0 (input b))))
