-- How many blocks each step hands to the cipher: it goes by lengths alone, and whatever edition and form are named it is the same number.
-- Assumes nothing.
use mathlib.Core.Path.{◌≡◌, refl, ap, ◌∙◌}
use mathlib.Core.Bool.{Bool, true, false}
use mathlib.Core.List.{List, [], ◌∷◌, ◌++◌}
use Prim.Native.Nat.{ℕ, zero, suc, ◌+◌, ◌-◌, ◌*◌, ◌/◌, ◌≤◌, min}
use native.Mathlib.Numerals.{add-one}
use native.Mathlib.Omega.{arith}
use lib.ListN.{length, take, length-append, length-drop}
use lib.Seq.{length-take-le}
use Rattle.lists.specs.Xor.{xor}
use Rattle.mode.specs.Form.{Parallel, Serial}
use Rattle.mode.specs.Edition.{Edition, V1, V3}
use Rattle.mode.specs.Masks.{Masks, doubles}
use Rattle.mode.specs.Message.{blocks, pairs_of, even, block, rest, one_inputs, pair_inputs, ending_inputs, pairs_inputs, l, r, body_inputs, te_input}
use Rattle.mode.specs.Data.{DataPass, start_q, sum_inputs, chain, chain_inputs, data_pass, ta_inputs, q_inputs, with_data}
use Rattle.mode.specs.Sealing.{sealed_inputs, masks, call_inputs, from_inputs}
use Rattle.mode.specs.Undoing.{swapped, unending_inputs, unbody, unbody_inputs, undone_inputs, found_from_inputs}
use Rattle.mode.proofs.Counts.{pairs_are}
use Rattle.mode.proofs.Ends.{Remains}
use Rattle.mode.proofs.Walk.{remains}

one_more : (xs : List (List ℕ)) (x : List ℕ) → length (xs ++ (x ∷ [])) ≡ length xs + 1
one_more xs x = length-append xs (x ∷ [])

-- ---- the message pass
pub length-pairs_inputs : (E : List ℕ → List ℕ) (k : Masks) (n : ℕ) (m : List ℕ) → length (pairs_inputs E k n m) ≡ 2 * n
unfolding pairs_inputs
length-pairs_inputs E k zero m = refl
length-pairs_inputs E k (suc n) m =
    let here = pair_inputs E (k.left n) (k.right n) (block m (32 * n)) (block m (32 * n + 16)) in
    omega (arith, length-append (pairs_inputs E k n m) here, length-pairs_inputs E k n m)

-- behind the pairs: as many as blocks remain, and none for an empty one
pub length-one_inputs : (l x : List ℕ) → length x ≤ 16 → length (one_inputs l x) ≡ (length x + 15) / 16
length-one_inputs l [] h = refl
length-one_inputs l (b ∷ bs) h = omega arith

pub length-ending_inputs : (E : List ℕ → List ℕ) (t : Bool) (l r x : List ℕ) → Remains t x → length (ending_inputs E t l r x) ≡ (length x + 15) / 16
length-ending_inputs E true l r x h = omega arith
length-ending_inputs E false l r x h = length-one_inputs l x h

pub length-unending_inputs : (E : List ℕ → List ℕ) (t : Bool) (l r x : List ℕ) → Remains t x → length (unending_inputs E t l r x) ≡ (length x + 15) / 16
length-unending_inputs E true l r x h = omega arith
length-unending_inputs E false l r x h = length-one_inputs l x h

-- the pairs' and those behind them
together : (E : List ℕ → List ℕ) (k : Masks) (m : List ℕ) (end : List (List ℕ)) → length end ≡ (length (rest m) + 15) / 16
    → length (pairs_inputs E k (pairs_of (length m)) m ++ end) ≡ (length m + 15) / 16
together E k m end h =
    omega (
      arith,
      h,
      length-append (pairs_inputs E k (pairs_of (length m)) m) end,
      length-pairs_inputs E k (pairs_of (length m)) m,
      length-drop (32 * pairs_of (length m)) m,
      pairs_are (length m),
    )

module _ (E : List ℕ → List ℕ) (k : Masks) where
  pub length-body_inputs : (m : List ℕ) → length (body_inputs E k m) ≡ (length m + 15) / 16
  unfolding body_inputs
  length-body_inputs m =
      together E k m (ending_inputs E (even (length m)) (l E k m) (r E k m) (rest m))
      (length-ending_inputs E (even (length m)) (l E k m) (r E k m) (rest m) (remains m))

  pub length-unbody_inputs : (c : List ℕ) → length (unbody_inputs E k c) ≡ (length c + 15) / 16
  unfolding unbody_inputs
  length-unbody_inputs c =
      together E (swapped k) c (unending_inputs E (even (length c)) (l E k c) (r E k c) (rest c))
      (length-unending_inputs E (even (length c)) (l E k c) (r E k c) (rest c) (remains c))

  pub length-sealed_inputs : (m : List ℕ) → length (sealed_inputs E k m) ≡ (length m + 15) / 16 + 1
  unfolding sealed_inputs
  length-sealed_inputs m = one_more (body_inputs E k m) (te_input E k m) ∙ ap (λ (n : ℕ). n + 1) (length-body_inputs m)

  pub length-undone_inputs : (c : List ℕ) → length (undone_inputs E k c) ≡ (length c + 15) / 16 + 1
  unfolding undone_inputs
  length-undone_inputs c = one_more (unbody_inputs E k c) (te_input E k (unbody E k c)) ∙ ap (λ (n : ℕ). n + 1) (length-unbody_inputs c)

-- ---- the data pass
-- a list with one block more at each step
grown : (xs : ℕ → List (List ℕ)) (x : ℕ → List ℕ) → xs 0 ≡ [] → ((n : ℕ) → xs (suc n) ≡ xs n ++ (x n ∷ [])) → (n : ℕ) → length (xs n) ≡ n
grown xs x none more zero = ap length none
grown xs x none more (suc n) = ap length (more n) ∙ one_more (xs n) (x n) ∙ ap (λ (k : ℕ). k + 1) (grown xs x none more n) ∙ add-one n

pub length-sum_inputs : (q : List ℕ) (n : ℕ) (a : List ℕ) → length (sum_inputs q n a) ≡ n
unfolding sum_inputs
length-sum_inputs q n a = grown (λ i. sum_inputs q i a) (λ i. xor (doubles i q) (block a (16 * i))) refl (λ i. refl) n

pub length-chain_inputs : (E : List ℕ → List ℕ) (n : ℕ) (a : List ℕ) → length (chain_inputs E n a) ≡ n
unfolding chain_inputs
length-chain_inputs E n a = grown (λ i. chain_inputs E i a) (λ i. xor (block a (16 * i)) (chain E i a)) refl (λ i. refl) n

length-inputs : (E : List ℕ → List ℕ) (q : List ℕ) (f : Edition) (n : ℕ) (a : List ℕ) → length ((data_pass E q f).inputs n a) ≡ n
length-inputs E q V1 n a = length-sum_inputs (start_q V1 q) n a
length-inputs E q (V3 Parallel) n a = length-sum_inputs q n a
length-inputs E q (V3 Serial) n a = length-chain_inputs E n a

-- TA: the blocks before the last, and the last; none without data
module _ (E : List ℕ → List ℕ) (d : DataPass) where
  pub ta_inputs_none : (a : List ℕ) → length a ≡ 0 → length (ta_inputs E d a) ≡ 0
  unfolding ta_inputs
  ta_inputs_none [] h = refl
  ta_inputs_none (b ∷ bs) h = absurd (omega arith)

  pub ta_inputs_some : (a : List ℕ) (n : ℕ) → 1 ≤ length a → n ≡ (length a - 1) / 16 → length (ta_inputs E d a) ≡ length (d.inputs n a) + 1
  unfolding ta_inputs blocks
  ta_inputs_some [] n some before = absurd (omega arith)
  ta_inputs_some (b ∷ bs) n some before =
      let is : blocks (length (b ∷ bs)) - 1 ≡ n = omega arith in
      one_more (d.inputs (blocks (length (b ∷ bs)) - 1) (b ∷ bs)) _ ∙ ap (λ (k : ℕ). length (d.inputs k (b ∷ bs)) + 1) is

pub length-ta_inputs : (E : List ℕ → List ℕ) (q : List ℕ) (f : Edition) (a : List ℕ) → length (ta_inputs E (data_pass E q f) a) ≡ (length a + 15) / 16
unfolding ta_inputs
length-ta_inputs E q f [] = refl
length-ta_inputs E q f (b ∷ bs) =
    let n = (length (b ∷ bs) - 1) / 16 in
    let is : n + 1 ≡ (length (b ∷ bs) + 15) / 16 = omega arith in
    ta_inputs_some E (data_pass E q f) (b ∷ bs) n (omega arith) refl ∙ ap (λ (k : ℕ). k + 1) (length-inputs E q f n (b ∷ bs)) ∙ is

pub length-q_inputs : (a : List ℕ) → length (q_inputs (with_data a)) ≡ min 1 (length a)
length-q_inputs [] = refl
length-q_inputs (b ∷ bs) = omega arith

-- ---- a call, whatever it names, with its first mask at hand
module _ (E : List ℕ → List ℕ) (q : List ℕ) (f : Edition) (nonce ad : List ℕ) (t : ℕ) where
  pub length-call_inputs : length (call_inputs E q f nonce ad t) ≡ 1 + (length ad + 15) / 16
  length-call_inputs = omega (arith, length-ta_inputs E q f ad)

  -- nonce block and TE, the message's blocks, the data's
  pub length-from_inputs : (m : List ℕ) → length (from_inputs E q f nonce ad t m) ≡ 2 + (length m + 15) / 16 + (length ad + 15) / 16
  length-from_inputs m =
      let k = masks E q f nonce ad t in
      omega (arith, length-append (call_inputs E q f nonce ad t) (sealed_inputs E k m), length-call_inputs, length-sealed_inputs E k m)

  -- the same of the ciphertext
  pub length-found_from_inputs : (s : List ℕ) → length (found_from_inputs E q f nonce ad t s) ≡ 2 + (length s - t + 15) / 16 + (length ad + 15) / 16
  length-found_from_inputs s =
      let k = masks E q f nonce ad t in
      let c = take (length s - t) s in
      let long : length c ≡ length s - t = length-take-le (length s - t) s (omega arith) in
      omega (arith, long, length-append (call_inputs E q f nonce ad t) (undone_inputs E k c), length-call_inputs, length-undone_inputs E k c)
