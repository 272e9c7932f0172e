-- A call whose first mask is its own. Where the data pass needs it, it is E of the zero block, and so the call is AES-OTR in the edition
-- named; where it does not, it does not matter. Assumes nothing.
use mathlib.Core.Path.{◌≡◌, refl, sym, ap, ◌∙◌}
use mathlib.Core.List.{List, [], ◌∷◌, ◌++◌}
use Prim.Native.Nat.{ℕ, ◌+◌}
use native.Mathlib.Omega.{arith}
use lib.Dec.{ltb}
use lib.ListN.{length, length-append}
use borrow.Author.Tests.{lt-ltb}
use Rattle.lists.specs.Zeros.{zeros}
use Rattle.mode.specs.Edition.{Edition}
use Rattle.mode.specs.Data.{ta, ta_inputs, first_q, q_inputs, with_data}
use Rattle.mode.specs.Sealing.{data_tag, otr_from, call_inputs, from_inputs, otr, otr_inputs}
use Rattle.mode.specs.Undoing.{found_from_inputs, found_inputs}

-- there is data where its length is not 0
pub with_data_lem : (ad : List ℕ) → ltb 0 (length ad) ≡ with_data ad
with_data_lem [] = refl
with_data_lem (b ∷ bs) = lt-ltb 0 (length (b ∷ bs)) (omega arith)

module _ (E : List ℕ → List ℕ) (f : Edition) (nonce : List ℕ) (t : ℕ) where
  pub own_otr : (ad : List ℕ) → otr_from E (first_q E (with_data ad)) f nonce ad t ≡ otr E f nonce ad t
  unfolding ta
  own_otr [] = refl
  own_otr (b ∷ bs) = refl

  -- TA, and the blocks before the message pass
  pub own_tag : (ad : List ℕ) → data_tag E (first_q E (with_data ad)) f ad ≡ data_tag E (E (zeros 16)) f ad
  unfolding ta
  own_tag [] = refl
  own_tag (b ∷ bs) = refl

  own_call_inputs : (ad : List ℕ) → call_inputs E (first_q E (with_data ad)) f nonce ad t ≡ call_inputs E (E (zeros 16)) f nonce ad t
  unfolding ta_inputs
  own_call_inputs [] = refl
  own_call_inputs (b ∷ bs) = refl

  pub own_call_runs : (ad : List ℕ)
      → length (q_inputs (with_data ad)) + length (call_inputs E (first_q E (with_data ad)) f nonce ad t) ≡ length (q_inputs (with_data ad) ++ call_inputs E (E (zeros 16)) f nonce ad t)
  own_call_runs ad =
      ap (λ (x : List (List ℕ)). length (q_inputs (with_data ad)) + length x) (own_call_inputs ad)
      ∙ sym (length-append (q_inputs (with_data ad)) (call_inputs E (E (zeros 16)) f nonce ad t))

  -- the runs for the first mask and those with it at hand
  own_inputs : (ad m : List ℕ) → from_inputs E (first_q E (with_data ad)) f nonce ad t m ≡ from_inputs E (E (zeros 16)) f nonce ad t m
  unfolding ta ta_inputs
  own_inputs [] m = refl
  own_inputs (b ∷ bs) m = refl

  pub own_runs : (ad m : List ℕ)
      → length (q_inputs (with_data ad)) + length (from_inputs E (first_q E (with_data ad)) f nonce ad t m) ≡ length (otr_inputs E f nonce ad t m)
  own_runs ad m =
      ap (λ (x : List (List ℕ)). length (q_inputs (with_data ad)) + length x) (own_inputs ad m)
      ∙ sym (length-append (q_inputs (with_data ad)) (from_inputs E (E (zeros 16)) f nonce ad t m))

  own_found_inputs : (ad s : List ℕ) → found_from_inputs E (first_q E (with_data ad)) f nonce ad t s ≡ found_from_inputs E (E (zeros 16)) f nonce ad t s
  unfolding ta ta_inputs
  own_found_inputs [] s = refl
  own_found_inputs (b ∷ bs) s = refl

  pub own_found_runs : (ad s : List ℕ)
      → length (q_inputs (with_data ad)) + length (found_from_inputs E (first_q E (with_data ad)) f nonce ad t s) ≡ length (found_inputs E f nonce ad t s)
  own_found_runs ad s =
      ap (λ (x : List (List ℕ)). length (q_inputs (with_data ad)) + length x) (own_found_inputs ad s)
      ∙ sym (length-append (q_inputs (with_data ad)) (found_from_inputs E (E (zeros 16)) f nonce ad t s))
