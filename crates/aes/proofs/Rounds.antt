-- The rounds, one by one, whatever code does them. Assumes nothing.
use mathlib.Core.Path.{◌≡◌, sym, ap, ◌∙◌}
use mathlib.Core.List.{List}
use Prim.Native.Nat.{ℕ, ◌+◌, ◌-◌}
use native.Mathlib.Numerals.{add-one}
use Rattle.aes.specs.State.{input, output}
use Rattle.aes.specs.Cipher.{add_round_key, round, last_round, rounds, cipher}

rounds_step : (w : List ℕ) (n : ℕ) (s : List (List ℕ)) → round w (n + 1) (rounds w n s) ≡ rounds w (n + 1) s
unfolding rounds
rounds_step w n s = ap (λ (k : ℕ). round w k (rounds w n s)) (add-one n) ∙ sym (ap (λ (k : ℕ). rounds w k s) (add-one n))

-- the loop's own step: s is the state after i rounds, and after one more it is t
pub rounds_more : (w : List ℕ) (i : ℕ) (first s t : List (List ℕ)) → s ≡ rounds w i first → t ≡ round w (i + 1) s → t ≡ rounds w (i + 1) first
rounds_more w i first s t p q = q ∙ ap (round w (i + 1)) p ∙ rounds_step w i first

-- Figure 5, from the block b to the output o
pub cipher_by : (nr : ℕ) (w b : List ℕ) (s f m l : List (List ℕ)) (o : List ℕ) → s ≡ input b → f ≡ add_round_key w 0 s
    → m ≡ rounds w (nr - 1) f → l ≡ last_round w nr m → o ≡ output l → o ≡ cipher nr w b
unfolding cipher
cipher_by nr w b s f m l o hs hf hm hl ho =
    ho ∙ ap output (hl ∙ ap (last_round w nr) (hm ∙ ap (rounds w (nr - 1)) (hf ∙ ap (add_round_key w 0) hs)))
