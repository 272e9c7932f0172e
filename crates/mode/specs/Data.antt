-- The associated data pass (document 01; source document 000, Fig. 1, AF, and Fig. 3, AF-S; source document 003, Fig. 1, AF), over any
-- cipher E and any first mask q; in all figures, line 2, it is E(0ⁿ), and in a prepared key what that holds (document 02, wish 9). Beside
-- what a step gives stand its inputs, the blocks that it hands to the cipher, as in the message pass.
use Rattle.std.specs.Prelude.{Bool, true, false, List, [], ◌∷◌, ◌++◌, ℕ, zero, suc, ◌-◌, ◌*◌, ltb, length, drop}
use Rattle.lists.specs.Xor.{xor}
use Rattle.lists.specs.Zeros.{zeros}
use Rattle.block.specs.Block.{pad, double, triple, triple_twice}
use Rattle.mode.specs.Form.{Parallel, Serial}
use Rattle.mode.specs.Edition.{Edition, V1, V3}
use Rattle.mode.specs.Masks.{doubles}
use Rattle.mode.specs.Message.{blocks, block}

-- what an edition and its form say of the pass: Ξ behind the first n blocks of the data, the blocks that those hand to the cipher, and the
-- mask of a last block behind them, by whether it is short
pub record DataPass : Type 0 where
  pub xi : ℕ → List ℕ → List ℕ
  pub inputs : ℕ → List ℕ → List (List ℕ)
  pub mask : ℕ → Bool → List ℕ

-- ---- parallel (AF)
-- line 2: the Q of the first block, which in v1 is 4γ, where q is γ
abbrev pub start_q : Edition → List ℕ → List ℕ
start_q V1 q = double (double q)
start_q (V3 f) q = q

-- lines 8 and 9, for a last block whose Q is x: in v1 Q ⊕ γ where it is short, Q ⊕ 2γ where it is full; in v3.1 3Q and 3²Q
abbrev pub data_final : Edition → List ℕ → Bool → List ℕ → List ℕ
data_final V1 q true x = xor x q
data_final V1 q false x = xor x (double q)
data_final (V3 f) q true x = triple x
data_final (V3 f) q false x = triple_twice x

-- lines 1, 4, 5 and 6: the first n blocks, each with its own Q
unfoldable pub data_sum : (List ℕ → List ℕ) → List ℕ → ℕ → List ℕ → List ℕ
data_sum E q zero a = zeros 16
data_sum E q (suc n) a = xor (data_sum E q n a) (E (xor (doubles n q) (block a (16 * n))))

unfoldable pub sum_inputs : List ℕ → ℕ → List ℕ → List (List ℕ)
sum_inputs q zero a = []
sum_inputs q (suc n) a = sum_inputs q n a ++ (xor (doubles n q) (block a (16 * n)) ∷ [])

abbrev pub parallel_pass : (List ℕ → List ℕ) → List ℕ → Edition → DataPass
parallel_pass E q f =
    record {
      xi = data_sum E (start_q f q);
      inputs = sum_inputs (start_q f q);
      mask = λ n s. data_final f q s (doubles n (start_q f q));
    }

-- ---- serial (AF-S)
-- lines 7 and 8: 2Q for a short last block, 4Q for a full one
abbrev pub chain_final : Bool → List ℕ → List ℕ
chain_final true q = double q
chain_final false q = double (double q)

-- lines 1, 4 and 5: the first n blocks, each into the cipher with what came out before it
unfoldable pub chain : (List ℕ → List ℕ) → ℕ → List ℕ → List ℕ
chain E zero a = zeros 16
chain E (suc n) a = E (xor (block a (16 * n)) (chain E n a))

unfoldable pub chain_inputs : (List ℕ → List ℕ) → ℕ → List ℕ → List (List ℕ)
chain_inputs E zero a = []
chain_inputs E (suc n) a = chain_inputs E n a ++ (xor (block a (16 * n)) (chain E n a) ∷ [])

abbrev pub serial_pass : (List ℕ → List ℕ) → List ℕ → DataPass
serial_pass E q = record { xi = chain E; inputs = chain_inputs E; mask = λ n s. chain_final s q }

-- ---- whichever was named
abbrev pub data_pass : (List ℕ → List ℕ) → List ℕ → Edition → DataPass
data_pass E q V1 = parallel_pass E q V1
data_pass E q (V3 Parallel) = parallel_pass E q (V3 Parallel)
data_pass E q (V3 Serial) = serial_pass E q

module _ (E : List ℕ → List ℕ) (d : DataPass) where
  -- AF, lines 7 to 10; AF-S, lines 6 to 9: n blocks, and a last block x; what is handed to the cipher, and what comes out
  abbrev pub data_last : ℕ → List ℕ → List ℕ → List ℕ
  data_last n a x = xor (d.mask n (ltb (length x) 16)) (xor (d.xi n a) (pad x))

  abbrev pub data_end : ℕ → List ℕ → List ℕ → List ℕ
  data_end n a x = E (data_last n a x)

  -- TA; empty data gives zeros, and no block is ciphered (OTR-E, Fig. 1, lines 2 and 3; Fig. 3, lines 1 and 2)
  unfoldable pub ta : List ℕ → List ℕ
  ta [] = zeros 16
  ta (b ∷ bs) =
      data_end (blocks (length (b ∷ bs)) - 1) (b ∷ bs) (drop (16 * (blocks (length (b ∷ bs)) - 1)) (b ∷ bs))

  abbrev pub end_inputs : ℕ → List ℕ → List (List ℕ)
  end_inputs n a = d.inputs n a ++ (data_last n a (drop (16 * n) a) ∷ [])

  unfoldable pub ta_inputs : List ℕ → List (List ℕ)
  ta_inputs [] = []
  ta_inputs (b ∷ bs) = end_inputs (blocks (length (b ∷ bs)) - 1) (b ∷ bs)

-- the first mask, line 2 of all figures, is E of the zero block: what that hands to the cipher, where it is needed
abbrev pub q_inputs : Bool → List (List ℕ)
q_inputs true = zeros 16 ∷ []
q_inputs false = []

-- a call needs it where there is data
abbrev pub with_data : List ℕ → Bool
with_data [] = false
with_data (b ∷ bs) = true

-- what a call then has for it, and zeros where it needs none; no promise speaks of this
abbrev pub first_q : (List ℕ → List ℕ) → Bool → List ℕ
first_q E true = E (zeros 16)
first_q E false = zeros 16
