-- The message pass in parts comes to the message pass. What stands between two calls depends on the bytes fed alone, and not on how they
-- were divided; what is out is the front of what one call gives, and the blocks that were handed to the cipher are the front of its list.
-- No more is asked of the cipher and of the masks than that they are functions. Assumes nothing.
use mathlib.Core.Path.{◌≡◌, refl, sym, ap, ap₂, fun_ext, ◌∙◌}
use mathlib.Core.Bool.{Bool, true, false}
use mathlib.Core.List.{List, [], ◌∷◌, ◌++◌, flatten, append_assoc, append-nil}
use Prim.Native.Nat.{ℕ, zero, suc, ◌+◌, ◌-◌, ◌*◌, ◌≤◌}
use native.Mathlib.Nat.{add_assoc, add-zero, zero-add}
use native.Mathlib.Omega.{arith}
use lib.Dec.{ltb}
use lib.ListN.{length, take, drop, length-append, length-drop}
use lib.Seq.{drop-append-le, drop-drop}
use Rattle.lists.specs.Xor.{xor}
use Rattle.lists.specs.Zeros.{zeros}
use Rattle.lists.proofs.Xor.{xor_assoc, xor_swap, length-xor}
use Rattle.lists.proofs.Zeros.{length-zeros, xor-zeros}
use Rattle.block.specs.Block.{double, triple_twice, seven}
use Rattle.mode.specs.Masks.{Masks, doubles, doubled}
use Rattle.mode.specs.Message.{blocks, pairs_of, even, block, rest, last_length, short, sum, base, final, pair, pair_inputs, pairs, pairs_inputs, ending, ending_inputs, end_sum, l, r, body, body_inputs, checksum, te_input, te}
use Rattle.mode.specs.Sealing.{tag, sealed, sealed_inputs}
use Rattle.mode.specs.Feeding.{from, Between, begun, due, fed, fed_bytes, fed_inputs, end_input, end_bytes, end_inputs}
use Rattle.mode.proofs.Counts.{pairs_are, pairs-within, even_left}
use Rattle.mode.proofs.Front.{sum_front, pairs_front, pairs_inputs_front}

-- ---- counts: behind n pairs of a string that has at least as many, the rest has its own
pub pairs_behind : (n b : ℕ) → n ≤ pairs_of b → pairs_of b ≡ n + pairs_of (b - 32 * n)
pairs_behind n b h = omega (arith, pairs_are b, pairs_are (b - 32 * n))

pub pairs_grow : (a b : ℕ) → a ≤ b → pairs_of a ≤ pairs_of b
pairs_grow a b h = omega (arith, pairs_are a, pairs_are b)

-- a sum has 16 bytes at most, whatever the string
pub sum_most : (n : ℕ) (m : List ℕ) → length (sum n m) ≤ 16
unfolding sum
sum_most zero m = omega (arith, length-zeros 16)
sum_most (suc n) m = omega (arith, length-xor (sum n m) (block m (32 * n + 16)), sum_most n m)

-- ---- of a list that grows at its end, step by step, n + p steps are n, and behind them p
module _ {A : Type 0} (f h g : ℕ → List A) (grows : (i : ℕ) → f (suc i) ≡ f i ++ g i) where
  grown_add : (n : ℕ) → h zero ≡ [] → ((i : ℕ) → h (suc i) ≡ h i ++ g (n + i)) → (p : ℕ) → f (n + p) ≡ f n ++ h p
  grown_add n none goes_on zero = ap f (add-zero n) ∙ sym (append-nil (f n)) ∙ ap (λ (x : List A). f n ++ x) (sym none)
  grown_add n none goes_on (suc p) =
      let more : n + suc p ≡ suc (n + p) = omega arith in
      ap f more
      ∙ grows (n + p)
      ∙ ap (λ (x : List A). x ++ g (n + p)) (grown_add n none goes_on p)
      ∙ append_assoc (f n) (h p) (g (n + p))
      ∙ ap (λ (x : List A). f n ++ x) (sym (goes_on p))

-- ---- the pairs: n + p of them are n, and p behind them with the masks from there on
block_behind : (m : List ℕ) (n i j : ℕ) → i ≡ 32 * n + j → block m i ≡ block (drop (32 * n) m) j
block_behind m n i j h = ap (λ (a : ℕ). take 16 (drop a m)) h ∙ ap (take 16) (sym (drop-drop j (32 * n) m))

module _ (m : List ℕ) (n : ℕ) where
  left_block : (p : ℕ) → block (drop (32 * n) m) (32 * p) ≡ block m (32 * (n + p))
  left_block p = sym (block_behind m n (32 * (n + p)) (32 * p) (omega arith))

  right_block : (p : ℕ) → block (drop (32 * n) m) (32 * p + 16) ≡ block m (32 * (n + p) + 16)
  right_block p = sym (block_behind m n (32 * (n + p) + 16) (32 * p + 16) (omega arith))

  pub sum_add : (p : ℕ) → sum (n + p) m ≡ xor (sum n m) (sum p (drop (32 * n) m))
  unfolding sum
  sum_add zero = ap (λ (i : ℕ). sum i m) (add-zero n) ∙ sym (xor-zeros (sum n m) 16 (sum_most n m))
  sum_add (suc p) =
      let more : n + suc p ≡ suc (n + p) = omega arith in
      ap (λ (i : ℕ). sum i m) more
      ∙ ap₂ xor (sum_add p) (sym (right_block p))
      ∙ xor_assoc (sum n m) (sum p (drop (32 * n) m)) (block (drop (32 * n) m) (32 * p + 16))

  module _ (E : List ℕ → List ℕ) (k : Masks) where
    pub pairs_add : (p : ℕ) → pairs E k (n + p) m ≡ pairs E k n m ++ pairs E (from n k) p (drop (32 * n) m)
    unfolding pairs
    pairs_add =
        grown_add (λ i. pairs E k i m) (λ i. pairs E (from n k) i (drop (32 * n) m)) _ (λ i. refl) n refl
        (λ i. ap (λ (x : List ℕ). pairs E (from n k) i (drop (32 * n) m) ++ x) (ap₂ (pair E (k.left (n + i)) (k.right (n + i))) (left_block i) (right_block i)))

    pub pairs_inputs_add : (p : ℕ) → pairs_inputs E k (n + p) m ≡ pairs_inputs E k n m ++ pairs_inputs E (from n k) p (drop (32 * n) m)
    unfolding pairs_inputs
    pairs_inputs_add =
        grown_add (λ i. pairs_inputs E k i m) (λ i. pairs_inputs E (from n k) i (drop (32 * n) m)) _ (λ i. refl) n refl
        (λ i. ap (λ (x : List (List ℕ)). pairs_inputs E (from n k) i (drop (32 * n) m) ++ x) (ap₂ (pair_inputs E (k.left (n + i)) (k.right (n + i))) (left_block i) (right_block i)))

-- ---- a message behind n of its pairs
module _ (m : List ℕ) (n : ℕ) (h : n ≤ pairs_of (length m)) where
  abbrev R : List ℕ
  R = drop (32 * n) m

  p : ℕ
  p = pairs_of (length R)

  count_is : pairs_of (length m) ≡ n + p
  unfolding p
  count_is = pairs_behind n (length m) h ∙ ap (λ (b : ℕ). n + pairs_of b) (sym (length-drop (32 * n) m))

  rest_is : rest m ≡ rest R
  unfolding p
  rest_is =
      let place : 32 * pairs_of (length m) ≡ 32 * n + 32 * p = omega (arith, count_is) in
      ap (λ (i : ℕ). drop i m) place ∙ sym (drop-drop (32 * p) (32 * n) m)

  even_same : even (length m) ≡ even (length R)
  unfolding p
  even_same =
      let left : length m - 32 * pairs_of (length m) ≡ length R - 32 * p = omega (arith, count_is, length-drop (32 * n) m) in
      even_left (length m) ∙ ap (ltb 16) left ∙ sym (even_left (length R))

  -- pairs, and an end behind them: the first n pairs, and then what the rest gives with the masks from there on
  whole_behind : {A : Type 0} (walk : Masks → ℕ → List ℕ → List A) (end : Bool → List ℕ → List ℕ → List ℕ → List A) (k : Masks)
      → ((i : ℕ) → walk k (n + i) m ≡ walk k n m ++ walk (from n k) i R)
      → walk k (pairs_of (length m)) m ++ end (even (length m)) (k.left (pairs_of (length m))) (k.right (pairs_of (length m))) (rest m)
      ≡ walk k n m ++ (walk (from n k) (pairs_of (length R)) R ++ end (even (length R)) (k.left (n + pairs_of (length R))) (k.right (n + pairs_of (length R))) (rest R))
  unfolding p
  whole_behind {A} walk end k add =
      ap (λ (i : ℕ). walk k i m ++ end (even (length m)) (k.left i) (k.right i) (rest m)) count_is
      ∙ ap₂ (λ (t : Bool) (x : List ℕ). walk k (n + p) m ++ end t (k.left (n + p)) (k.right (n + p)) x) even_same rest_is
      ∙ ap (λ (x : List A). x ++ end (even (length R)) (k.left (n + p)) (k.right (n + p)) (rest R)) (add p)
      ∙ append_assoc (walk k n m) (walk (from n k) p R) _

  module _ (E : List ℕ → List ℕ) (k : Masks) where
    pub body_behind : body E k m ≡ pairs E k n m ++ body E (from n k) R
    unfolding body
    body_behind = whole_behind (pairs E) (ending E) k (pairs_add m n E k)

    pub body_inputs_behind : body_inputs E k m ≡ pairs_inputs E k n m ++ body_inputs E (from n k) R
    unfolding body_inputs
    body_inputs_behind = whole_behind (pairs_inputs E) (ending_inputs E) k (pairs_inputs_add m n E k)

    -- what TE's cipher takes, by whether two blocks remain, the pairs before, what remains behind them, and the pairs' sum
    abbrev te_from : Masks → Bool → ℕ → List ℕ → List ℕ → List ℕ
    te_from j t i x s = xor (final j (ltb (last_length t (length x)) 16) (base t (k.left i) (k.right i))) (xor s (end_sum E t (k.left i) x))

    final_from : (t : Bool) (b : List ℕ) → final k t b ≡ final (from n k) t b
    final_from true b = refl
    final_from false b = refl

    pub te_behind : te_input E k m ≡ end_input E (record { masks = from n k; sum = sum n m; kept = R })
    unfolding short checksum p
    te_behind =
        ap (λ (i : ℕ). te_from k (even (length m)) i (rest m) (sum i m)) count_is
        ∙ ap₂ (λ (t : Bool) (x : List ℕ). te_from k t (n + p) x (sum (n + p) m)) even_same rest_is
        ∙ ap (te_from k (even (length R)) (n + p) (rest R)) (sum_add m n p)
        ∙ ap₂ xor (final_from (ltb (last_length (even (length R)) (length (rest R))) 16) (base (even (length R)) (k.left (n + p)) (k.right (n + p))))
        (xor_assoc (sum n m) (sum p R) (end_sum E (even (length R)) (k.left (n + p)) (rest R)))
        ∙ xor_swap (final (from n k) (short R) (base (even (length R)) (k.left (n + p)) (k.right (n + p)))) (sum n m) (checksum E (from n k) R)

-- ---- what stands between two calls, once the bytes of m are fed, in whatever parts
abbrev pub reached : Masks → List ℕ → Between
reached k m = record { masks = from (pairs_of (length m)) k; sum = sum (pairs_of (length m)) m; kept = rest m }

from_from : (n p : ℕ) (k : Masks) → from p (from n k) ≡ from (n + p) k
from_from n p k =
    ap₂ (λ (f g : ℕ → List ℕ). record { left = f; right = g; if_short = k.if_short; if_full = k.if_full })
    (fun_ext (λ i. ap k.left (sym (add_assoc n p i))))
    (fun_ext (λ i. ap k.right (sym (add_assoc n p i))))

pub from_none : (k : Masks) → from 0 k ≡ k
from_none k =
    ap₂ (λ (f g : ℕ → List ℕ). record { left = f; right = g; if_short = k.if_short; if_full = k.if_full })
    (fun_ext (λ i. ap k.left (zero-add i)))
    (fun_ext (λ i. ap k.right (zero-add i)))

-- before the first part
pub reached_none : (k : Masks) → reached k [] ≡ begun k
unfolding sum blocks pairs_of
reached_none k = ap (λ (j : Masks). record { masks = j; sum = zeros 16; kept = [] }) (from_none k)

module _ (k : Masks) (m x : List ℕ) where
  n : ℕ
  n = pairs_of (length m)

  out_within : 32 * n ≤ length m
  unfolding n
  out_within = pairs-within (length m)

  more_out : n ≤ pairs_of (length (m ++ x))
  unfolding n
  more_out = pairs_grow (length m) (length (m ++ x)) (omega (arith, length-append m x))

  -- the kept bytes and the part are what follows the pairs that are out
  D : List ℕ
  D = drop (32 * n) (m ++ x)

  kept_is : rest m ++ x ≡ D
  unfolding n D
  kept_is = sym (drop-append-le (32 * n) m x out_within)

  pub count_fed : pairs_of (length (m ++ x)) ≡ pairs_of (length m) + due (reached k m) x
  unfolding n D p
  count_fed = count_is (m ++ x) n more_out ∙ ap (λ (y : List ℕ). n + pairs_of (length y)) (sym kept_is)

  -- feeding goes on from what was reached
  pub reached_fed : fed (reached k m) x ≡ reached k (m ++ x)
  unfolding n D p
  reached_fed =
      ap (λ (y : List ℕ). record { masks = from (pairs_of (length y)) (from n k); sum = xor (sum n m) (sum (pairs_of (length y)) y); kept = rest y }) kept_is
      ∙ ap (λ (j : Masks). record { masks = j; sum = xor (sum n m) (sum (pairs_of (length D)) D); kept = rest D })
      (from_from n (pairs_of (length D)) k ∙ ap (λ (i : ℕ). from i k) (sym all))
      ∙ ap₂ (λ (s y : List ℕ). record { masks = from (pairs_of (length (m ++ x))) k; sum = s; kept = y })
      (ap (λ (s : List ℕ). xor s (sum (pairs_of (length D)) D)) (sym (sum_front n m x out_within))
      ∙ sym (sum_add (m ++ x) n (pairs_of (length D)))
      ∙ ap (λ (i : ℕ). sum i (m ++ x)) (sym all))
      (sym (rest_is (m ++ x) n more_out))
    where
      all : pairs_of (length (m ++ x)) ≡ n + pairs_of (length D)
      all = count_is (m ++ x) n more_out

  -- what is out, and what a part gives, is what is out then
  joined : {A : Type 0} (walk : Masks → ℕ → List ℕ → List A)
      → ((i : ℕ) → walk k (n + i) (m ++ x) ≡ walk k n (m ++ x) ++ walk (from n k) i (drop (32 * n) (m ++ x)))
      → walk k n (m ++ x) ≡ walk k n m
      → walk k (pairs_of (length m)) m ++ walk (from (pairs_of (length m)) k) (pairs_of (length (rest m ++ x))) (rest m ++ x)
      ≡ walk k (pairs_of (length (m ++ x))) (m ++ x)
  unfolding n D p
  joined walk add front =
      ap₂ ◌++◌ (sym front) (ap (λ (y : List ℕ). walk (from n k) (pairs_of (length y)) y) kept_is)
      ∙ sym (add (pairs_of (length D)))
      ∙ ap (λ (i : ℕ). walk k i (m ++ x)) (sym (count_is (m ++ x) n more_out))

  module _ (E : List ℕ → List ℕ) where
    pub fed_joined : pairs E k (pairs_of (length m)) m ++ fed_bytes E (reached k m) x ≡ pairs E k (pairs_of (length (m ++ x))) (m ++ x)
    fed_joined = joined (pairs E) (pairs_add (m ++ x) n E k) (pairs_front E k m x n out_within)

    pub fed_inputs_joined : pairs_inputs E k (pairs_of (length m)) m ++ fed_inputs E (reached k m) x ≡ pairs_inputs E k (pairs_of (length (m ++ x))) (m ++ x)
    fed_inputs_joined = joined (pairs_inputs E) (pairs_inputs_add (m ++ x) n E k) (pairs_inputs_front E k m x n out_within)

-- what is out, and what ending gives, is what one call seals
module _ (E : List ℕ → List ℕ) (k : Masks) (m : List ℕ) where
  all_out : pairs_of (length m) ≤ pairs_of (length m)
  all_out = omega arith

  pub end_joined : (a : List ℕ) (t : ℕ) → pairs E k (pairs_of (length m)) m ++ end_bytes E a t (reached k m) ≡ sealed E k a t m
  unfolding sealed tag te
  end_joined a t =
      let n = pairs_of (length m) in
      sym (append_assoc (pairs E k n m) (body E (from n k) (rest m)) _)
      ∙ ap₂ (λ (b i : List ℕ). b ++ take t (xor (E i) a)) (sym (body_behind m n all_out E k)) (sym (te_behind m n all_out E k))

  pub end_inputs_joined : pairs_inputs E k (pairs_of (length m)) m ++ end_inputs E (reached k m) ≡ sealed_inputs E k m
  unfolding sealed_inputs
  end_inputs_joined =
      let n = pairs_of (length m) in
      sym (append_assoc (pairs_inputs E k n m) (body_inputs E (from n k) (rest m)) _)
      ∙ ap₂ (λ (b : List (List ℕ)) (i : List ℕ). b ++ (i ∷ [])) (sym (body_inputs_behind m n all_out E k)) (sym (te_behind m n all_out E k))

-- masks that are doubled from pair to pair, from pair n on
pub doubles_add : (n i : ℕ) (x : List ℕ) → doubles (n + i) x ≡ doubles i (doubles n x)
unfolding doubles
doubles_add n zero x = ap (λ (j : ℕ). doubles j x) (add-zero n)
doubles_add n (suc i) x =
    let more : n + suc i ≡ suc (n + i) = omega arith in
    ap (λ (j : ℕ). doubles j x) more ∙ ap double (doubles_add n i x)

pub from_doubled : (n : ℕ) (l r : List ℕ) → from n (doubled l r) ≡ doubled (doubles n l) (doubles n r)
from_doubled n l r =
    ap₂ (λ (f g : ℕ → List ℕ). record { left = f; right = g; if_short = triple_twice; if_full = seven }) (fun_ext (λ i. doubles_add n i l))
    (fun_ext (λ i. doubles_add n i r))

-- ---- parts fed in turn, and then the end, joined: what each gives by out, and the end by fin
pub in_parts : {A : Type 0} → (Between → List ℕ → List A) → (Between → List A) → Between → List (List ℕ) → List A
in_parts out fin s [] = fin s
in_parts out fin s (x ∷ parts) = out s x ++ in_parts out fin (fed s x) parts

module _ {A : Type 0} (out : Between → List ℕ → List A) (fin : Between → List A) (front whole : List ℕ → List A) (k : Masks)
    (goes_on : (m x : List ℕ) → front m ++ out (reached k m) x ≡ front (m ++ x))
    (ends : (m : List ℕ) → front m ++ fin (reached k m) ≡ whole m) where
  from_reached : (parts : List (List ℕ)) (m : List ℕ) → front m ++ in_parts out fin (reached k m) parts ≡ whole (m ++ flatten parts)
  unfolding in_parts flatten
  from_reached [] m = ends m ∙ ap whole (sym (append-nil m))
  from_reached (x ∷ parts) m =
      sym (append_assoc (front m) (out (reached k m) x) _)
      ∙ ap₂ (λ (y : List A) (s : Between). y ++ in_parts out fin s parts) (goes_on m x) (reached_fed k m x)
      ∙ from_reached parts (m ++ x)
      ∙ ap whole (append_assoc m x (flatten parts))

  from_begun : front [] ≡ [] → (parts : List (List ℕ)) → in_parts out fin (begun k) parts ≡ whole (flatten parts)
  from_begun none parts =
      ap₂ (λ (y : List A) (s : Between). y ++ in_parts out fin s parts) (sym none) (sym (reached_none k)) ∙ from_reached parts []

-- however a message is divided, parts of no bytes among them, what comes out is what one call seals, and the blocks handed to the cipher
-- are its list
module _ (E : List ℕ → List ℕ) (k : Masks) (parts : List (List ℕ)) where
  pub divided : (a : List ℕ) (t : ℕ) → in_parts (fed_bytes E) (end_bytes E a t) (begun k) parts ≡ sealed E k a t (flatten parts)
  unfolding pairs blocks pairs_of
  divided a t =
      from_begun (fed_bytes E) (end_bytes E a t) (λ m. pairs E k (pairs_of (length m)) m) (sealed E k a t) k (λ m x. fed_joined k m x E)
      (λ m. end_joined E k m a t) refl parts

  pub divided_inputs : in_parts (fed_inputs E) (end_inputs E) (begun k) parts ≡ sealed_inputs E k (flatten parts)
  unfolding pairs_inputs blocks pairs_of
  divided_inputs =
      from_begun (fed_inputs E) (end_inputs E) (λ m. pairs_inputs E k (pairs_of (length m)) m) (sealed_inputs E k) k (λ m x. fed_inputs_joined k m x E)
      (end_inputs_joined E k) refl parts
