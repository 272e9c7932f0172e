-- The data pass: its blocks have 16 bytes, and so does TA; and the parallel one of v3.1 is what it was. Assumes nothing.
use mathlib.Core.Path.{◌≡◌, refl, sym, ap, ap₂, ◌∙◌}
use mathlib.Core.Bool.{Bool, true, false}
use mathlib.Core.List.{List, [], ◌∷◌}
use Prim.Native.Nat.{ℕ, zero, suc, ◌+◌, ◌-◌, ◌*◌, ◌/◌, ◌≤◌}
use native.Mathlib.Numerals.{add-one}
use native.Mathlib.Omega.{arith}
use lib.Dec.{ltb}
use lib.ListN.{length, drop, length-drop}
use Rattle.lists.specs.Xor.{xor}
use Rattle.lists.specs.Zeros.{zeros}
use Rattle.lists.proofs.Zeros.{length-zeros}
use Rattle.block.specs.Block.{pad, double, triple, triple_twice}
use Rattle.block.proofs.Blocks.{length-pad}
use Rattle.block.proofs.Doubling.{length-double, length-triple}
use Rattle.mode.specs.Form.{Parallel, Serial}
use Rattle.mode.specs.Edition.{Edition, V1, V3}
use Rattle.mode.specs.Masks.{IsCipher, doubles}
use Rattle.mode.specs.Message.{blocks, block}
use Rattle.mode.specs.Data.{DataPass, start_q, data_final, data_sum, parallel_pass, chain_final, chain, data_pass, data_end, ta}
use Rattle.mode.specs.Sealing.{data_tag}
use Rattle.mode.proofs.Pairs.{length-block}
use Rattle.mode.proofs.Tag.{xor_sixteen}

pub length-doubles : (i : ℕ) (x : List ℕ) → length x ≡ 16 → length (doubles i x) ≡ 16
unfolding doubles
length-doubles zero x h = h
length-doubles (suc i) x h = length-double (doubles i x) (length-doubles i x h)

-- ---- one block more
pub data_sum_step : (E : List ℕ → List ℕ) (q : List ℕ) (n : ℕ) (a : List ℕ)
    → xor (data_sum E q n a) (E (xor (doubles n q) (block a (16 * n)))) ≡ data_sum E q (n + 1) a
unfolding data_sum
data_sum_step E q n a = sym (ap (λ (j : ℕ). data_sum E q j a) (add-one n))

pub chain_step : (E : List ℕ → List ℕ) (n : ℕ) (a : List ℕ) → E (xor (block a (16 * n)) (chain E n a)) ≡ chain E (n + 1) a
unfolding chain
chain_step E n a = sym (ap (λ (j : ℕ). chain E j a) (add-one n))

pub doubles_step : (i : ℕ) (x : List ℕ) → double (doubles i x) ≡ doubles (i + 1) x
unfolding doubles
doubles_step i x = sym (ap (λ (j : ℕ). doubles j x) (add-one i))

-- ---- empty data, and data that is not
module _ (E : List ℕ → List ℕ) (d : DataPass) where
  pub ta_none : (a : List ℕ) → length a ≡ 0 → ta E d a ≡ zeros 16
  unfolding ta
  ta_none [] h = refl
  ta_none (b ∷ bs) h = absurd (omega arith)

  ta_some : (a : List ℕ) (n : ℕ) → 1 ≤ length a → n ≡ (length a - 1) / 16 → ta E d a ≡ data_end E d n a (drop (16 * n) a)
  unfolding ta blocks
  ta_some [] n some before = absurd (omega arith)
  ta_some (b ∷ bs) n some before =
      let is : blocks (length (b ∷ bs)) - 1 ≡ n = omega arith in
      ap (λ (k : ℕ). data_end E d k (b ∷ bs) (drop (16 * k) (b ∷ bs))) is

  -- the same from a mask and a Ξ that are the pass's own
  pub ta_is : (a : List ℕ) (n : ℕ) → 1 ≤ length a → n ≡ (length a - 1) / 16
      → (mask xi : List ℕ) → mask ≡ d.mask n (ltb (length a - 16 * n) 16) → xi ≡ d.xi n a
      → E (xor mask (xor xi (pad (drop (16 * n) a)))) ≡ ta E d a
  ta_is a n some before mask xi mask_is xi-is =
      let x = drop (16 * n) a in
      let long : length a - 16 * n ≡ length x = sym (length-drop (16 * n) a) in
      ap₂ (λ (k s : List ℕ). E (xor k (xor s (pad x)))) (mask_is ∙ ap (λ (k : ℕ). d.mask n (ltb k 16)) long) xi-is ∙ sym (ta_some a n some before)

-- ---- a pass of blocks: Ξ and the masks have 16 bytes
record AreBlocks (d : DataPass) : Type 0 where
  xi : (n : ℕ) (a : List ℕ) → 16 * n ≤ length a → length (d.xi n a) ≡ 16
  mask : (n : ℕ) (s : Bool) → length (d.mask n s) ≡ 16

module _ (E : List ℕ → List ℕ) (e : IsCipher E) where
  module _ (q : List ℕ) (hq : length q ≡ 16) where
    length-data_sum : (n : ℕ) (a : List ℕ) → 16 * n ≤ length a → length (data_sum E q n a) ≡ 16
    unfolding data_sum
    length-data_sum zero a h = length-zeros 16
    length-data_sum (suc n) a h =
        let x = xor (doubles n q) (block a (16 * n)) in
        xor_sixteen (data_sum E q n a) (E x) (length-data_sum n a (omega arith))
        (e x (xor_sixteen (doubles n q) (block a (16 * n)) (length-doubles n q hq) (length-block a (16 * n) (omega arith))))

    length-chain : (n : ℕ) (a : List ℕ) → 16 * n ≤ length a → length (chain E n a) ≡ 16
    unfolding chain
    length-chain zero a h = length-zeros 16
    length-chain (suc n) a h =
        e (xor (block a (16 * n)) (chain E n a))
        (xor_sixteen (block a (16 * n)) (chain E n a) (length-block a (16 * n) (omega arith)) (length-chain n a (omega arith)))

    length-start_q : (f : Edition) → length (start_q f q) ≡ 16
    length-start_q V1 = length-double (double q) (length-double q hq)
    length-start_q (V3 f) = hq

    length-data_final : (f : Edition) (s : Bool) (x : List ℕ) → length x ≡ 16 → length (data_final f q s x) ≡ 16
    length-data_final V1 true x h = xor_sixteen x q h hq
    length-data_final V1 false x h = xor_sixteen x (double q) h (length-double q hq)
    length-data_final (V3 f) true x h = length-triple x h
    length-data_final (V3 f) false x h = length-triple (triple x) (length-triple x h)

    length-chain_final : (s : Bool) → length (chain_final s q) ≡ 16
    length-chain_final true = length-double q hq
    length-chain_final false = length-double (double q) (length-double q hq)

  module _ (q : List ℕ) (hq : length q ≡ 16) where
    parallel_blocks : (f : Edition) → AreBlocks (parallel_pass E q f)
    parallel_blocks f =
        let p = start_q f q in
        let hp = length-start_q q hq f in
        record { xi = length-data_sum p hp; mask = λ n s. length-data_final q hq f s (doubles n p) (length-doubles n p hp) }

    are_blocks : (f : Edition) → AreBlocks (data_pass E q f)
    are_blocks V1 = parallel_blocks V1
    are_blocks (V3 Parallel) = parallel_blocks (V3 Parallel)
    are_blocks (V3 Serial) = record { xi = length-chain q hq; mask = λ n s. length-chain_final q hq s }

  module _ (d : DataPass) where
    length-ta : AreBlocks d → (a : List ℕ) → length (ta E d a) ≡ 16
    unfolding ta blocks
    length-ta h [] = length-zeros 16
    length-ta h (b ∷ bs) =
        let n = blocks (length (b ∷ bs)) - 1 in
        let x = drop (16 * n) (b ∷ bs) in
        let mask = d.mask n (ltb (length x) 16) in
        let sum = xor (d.xi n (b ∷ bs)) (pad x) in
        e (xor mask sum)
        (xor_sixteen mask sum (h.mask n (ltb (length x) 16))
        (xor_sixteen (d.xi n (b ∷ bs)) (pad x) (h.xi n (b ∷ bs) (omega arith))
        (length-pad x (omega (arith, length-drop (16 * n) (b ∷ bs))))))

  pub length-data_tag : (q : List ℕ) → length q ≡ 16 → (f : Edition) (a : List ℕ) → length (data_tag E q f a) ≡ 16
  length-data_tag q h f a = length-ta (data_pass E q f) (are_blocks q h f) a

-- the same of whatever q there is, where whatever E gives has 16 bytes
pub ciphered_data_tag : (E : List ℕ → List ℕ) → ((x : List ℕ) → length (E x) ≡ 16) → (q : List ℕ) (f : Edition) (a : List ℕ) → length (data_tag E q f a) ≡ 16
unfolding ta
ciphered_data_tag E e q f [] = length-zeros 16
ciphered_data_tag E e q f (b ∷ bs) = e _

-- ---- TA as it was before there was a form: the parallel pass, with its Q within
pub data_sum_was : (List ℕ → List ℕ) → ℕ → List ℕ → List ℕ
data_sum_was E zero a = zeros 16
data_sum_was E (suc n) a = xor (data_sum_was E n a) (E (xor (doubles n (E (zeros 16))) (block a (16 * n))))

abbrev pub final_was : Bool → List ℕ → List ℕ
final_was true x = triple x
final_was false x = triple_twice x

abbrev pub data_end_was : (List ℕ → List ℕ) → ℕ → List ℕ → List ℕ → List ℕ
data_end_was E n a x = E (xor (final_was (ltb (length x) 16) (doubles n (E (zeros 16)))) (xor (data_sum_was E n a) (pad x)))

pub ta_was : (List ℕ → List ℕ) → List ℕ → List ℕ
ta_was E [] = zeros 16
ta_was E (b ∷ bs) =
    data_end_was E (blocks (length (b ∷ bs)) - 1) (b ∷ bs) (drop (16 * (blocks (length (b ∷ bs)) - 1)) (b ∷ bs))

sum_as_it_was : (E : List ℕ → List ℕ) (n : ℕ) (a : List ℕ) → data_sum E (E (zeros 16)) n a ≡ data_sum_was E n a
unfolding data_sum data_sum_was
sum_as_it_was E zero a = refl
sum_as_it_was E (suc n) a = ap (λ (s : List ℕ). xor s (E (xor (doubles n (E (zeros 16))) (block a (16 * n))))) (sum_as_it_was E n a)

final_as_it_was : (E : List ℕ → List ℕ) (s : Bool) (x : List ℕ) → data_final (V3 Parallel) (E (zeros 16)) s x ≡ final_was s x
final_as_it_was E true x = refl
final_as_it_was E false x = refl

pub ta_as_it_was : (E : List ℕ → List ℕ) (a : List ℕ) → data_tag E (E (zeros 16)) (V3 Parallel) a ≡ ta_was E a
unfolding ta ta_was
ta_as_it_was E [] = refl
ta_as_it_was E (b ∷ bs) =
    let n = blocks (length (b ∷ bs)) - 1 in
    let x = drop (16 * n) (b ∷ bs) in
    ap₂ (λ (k s : List ℕ). E (xor k (xor s (pad x)))) (final_as_it_was E (ltb (length x) 16) (doubles n (E (zeros 16)))) (sum_as_it_was E n (b ∷ bs))
