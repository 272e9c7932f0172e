-- A part fed, as the code puts it together. Assumes nothing.
use mathlib.Core.Path.{◌≡◌, sym, ap, ap₂, ◌∙◌}
use mathlib.Core.List.{List, ◌++◌, append_assoc}
use Prim.Native.Nat.{ℕ, ◌+◌, ◌-◌, ◌*◌, ◌≤◌}
use native.Mathlib.Omega.{arith}
use lib.ListN.{length, take, drop, length-append, length-drop, take-append-drop}
use lib.Seq.{length-take-le, drop_at, drop-drop}
use Rattle.lists.specs.Lay.{lay}
use Rattle.lists.specs.Xor.{xor}
use Rattle.lists.specs.Zeros.{zeros}
use Rattle.lists.proofs.Laid.{lay-lay, lay_whole}
use Rattle.lists.proofs.Xor.{xor_assoc}
use Rattle.lists.proofs.Zeros.{length-zeros, xor-zeros}
use Rattle.mode.specs.Masks.{Masks, IsCipher, doubles, doubled}
use Rattle.mode.specs.Message.{pairs_of, sum, pairs}
use Rattle.mode.specs.Feeding.{fed_bytes, fed_inputs}
use Rattle.mode.proofs.Counts.{pairs_are}
use Rattle.mode.proofs.Pairs.{length_pairs}
use Rattle.mode.proofs.Data.{length-doubles}
use Rattle.mode.proofs.Otr.{doubled_masks}
use Rattle.mode.proofs.Runs.{length-pairs_inputs}
use Rattle.mode.proofs.Front.{sum_front, pairs_front}
use Rattle.mode.proofs.Feeding.{sum_add, pairs_add, doubles_add, from_doubled}
use Rattle.parts.specs.declared.State.{State}
use Rattle.parts.specs.State.{between, kept32, behind_state, fed_state}

module _ (kept : List ℕ) (long : length kept ≡ 32) (held : ℕ) where
  held_long : held ≤ 32 → length (take held kept) ≡ held
  held_long h = length-take-le held kept (omega arith)

  pub hand_long : held ≤ 32 → (x : List ℕ) → length (take held kept ++ x) ≡ held + length x
  hand_long h x = length-append (take held kept) x ∙ ap (λ (i : ℕ). i + length x) (held_long h)

  module _ (part : List ℕ) (within : held ≤ 32) (enough : 32 ≤ held + length part) where
    -- all that is at hand, the first 32 bytes of it, and what follows them
    abbrev pub hand : List ℕ
    hand = take held kept ++ part

    abbrev pub first : List ℕ
    first = take held kept ++ take (32 - held) part

    first_long : length first ≡ 32
    first_long =
        omega (arith, length-append (take held kept) (take (32 - held) part), held_long within, length-take-le (32 - held) part (omega arith))

    pub first_whole : kept32 first ≡ first
    first_whole = lay_whole first (zeros 32) (omega (arith, first_long, length-zeros 32))

    hand_is : hand ≡ first ++ drop (32 - held) part
    hand_is =
        ap (λ (x : List ℕ). take held kept ++ x) (sym (take-append-drop (32 - held) part))
        ∙ sym (append_assoc (take held kept) (take (32 - held) part) (drop (32 - held) part))

    pub tail_is : drop (32 * 1) hand ≡ drop (32 - held) part
    tail_is = ap (drop 32) hand_is ∙ drop_at first (drop (32 - held) part) 32 first_long

    pub first_pair : (E : List ℕ → List ℕ) (k : Masks) → pairs E k 1 first ≡ pairs E k 1 hand
    first_pair E k = sym (ap (pairs E k 1) hand_is ∙ pairs_front E k first (drop (32 - held) part) 1 (omega (arith, first_long)))

    pub first_sum : sum 1 first ≡ sum 1 hand
    first_sum = sym (ap (sum 1) hand_is ∙ sum_front 1 first (drop (32 - held) part) (omega (arith, first_long)))

-- ---- p pairs, and q behind them
module _ (l r s y : List ℕ) (p q : ℕ) where
  state_add : behind_state (doubles p l) (doubles p r) (xor s (sum p y)) q (drop (32 * p) y) ≡ behind_state l r s (p + q) y
  state_add =
      let place : 32 * p + 32 * q ≡ 32 * (p + q) = omega arith in
      let x = drop (32 * p) y in
      ap₂ (λ (a b : List ℕ). record { left = a; right = b; sum = xor (xor s (sum p y)) (sum q x); kept = kept32 (drop (32 * q) x) })
      (sym (doubles_add p q l)) (sym (doubles_add p q r))
      ∙ ap₂ (λ (a b : List ℕ). record { left = doubles (p + q) l; right = doubles (p + q) r; sum = a; kept = kept32 b })
      (xor_assoc s (sum p y) (sum q (drop (32 * p) y)) ∙ ap (xor s) (sym (sum_add y p q)))
      (drop-drop (32 * q) (32 * p) y ∙ ap (λ (i : ℕ). drop i y) place)

  bytes_add : (E : List ℕ → List ℕ)
      → pairs E (doubled l r) p y ++ pairs E (doubled (doubles p l) (doubles p r)) q (drop (32 * p) y) ≡ pairs E (doubled l r) (p + q) y
  bytes_add E =
      sym (pairs_add y p E (doubled l r) q ∙ ap (λ (k : Masks). pairs E (doubled l r) p y ++ pairs E k q (drop (32 * p) y)) (from_doubled p l r))

-- ---- a part for which n pairs are due: one of all that is at hand, and n − 1 behind it
pub record Due (s : State) (held n : ℕ) (part out : List ℕ) : Type 0 where
  pub kept : length s.kept ≡ 32
  pub left : length s.left ≡ 16
  pub right : length s.right ≡ 16
  pub within : held ≤ 32
  pub count : n ≡ pairs_of (held + length part)
  pub some : 1 ≤ n
  pub fits : 32 * n ≤ length out

module _ (E : List ℕ → List ℕ) (e : IsCipher E) (s : State) (held n : ℕ) (part out : List ℕ) (d : Due s held n part out) where
  abbrev y : List ℕ
  y = take held s.kept ++ part

  abbrev k : Masks
  k = doubled s.left s.right

  y_long : length y ≡ held + length part
  y_long = hand_long s.kept d.kept held d.within part

  count_is : 1 + (n - 1) ≡ pairs_of (length y)
  count_is = omega (arith, d.count, d.some, ap pairs_of y_long)

  -- so many bytes lie behind the first pair
  tail_most : (32 * (n - 1) ≤ length part - (32 - held)) × (length part - (32 - held) ≤ 32 * (n - 1) + 32) × (32 ≤ held + length part)
  tail_most =
      let due = pairs_are (held + length part) in
      (omega (arith, d.count, d.some), omega (arith, d.count, d.some), omega (arith, d.count, d.some))

  abbrev front : List ℕ
  front = pairs E k 1 y

  front_long : length front ≡ 32
  front_long = length_pairs E e k (doubled_masks s.left s.right d.left d.right) 1 y (omega (arith, y_long, tail_most))

  abbrev tail : List ℕ
  tail = pairs E (doubled (doubles 1 s.left) (doubles 1 s.right)) (n - 1) (drop (32 - held) part)

  behind : drop (32 * 1) y ≡ drop (32 - held) part
  behind = tail_is s.kept d.kept held part d.within tail_most.2

  pub fed_laid : lay 32 tail (lay 0 front out) ≡ lay 0 (fed_bytes E (between s held) part) out
  fed_laid =
      let place : 32 ≡ 0 + length front = omega (arith, front_long) in
      let after_first : length tail ≡ 32 * (n - 1) =
      length_pairs E e (doubled (doubles 1 s.left) (doubles 1 s.right))
      (doubled_masks (doubles 1 s.left) (doubles 1 s.right) (length-doubles 1 s.left d.left) (length-doubles 1 s.right d.right)) (n - 1) (drop (32 - held) part)
      (omega (arith, tail_most, length-drop (32 - held) part)) in
      ap (λ (i : ℕ). lay i tail (lay 0 front out)) place
      ∙ lay-lay 0 front tail out (omega (arith, front_long, after_first, d.fits, d.some))
      ∙ ap (λ (x : List ℕ). lay 0 x out)
      (ap (λ (x : List ℕ). front ++ pairs E (doubled (doubles 1 s.left) (doubles 1 s.right)) (n - 1) x) (sym behind)
      ∙ bytes_add s.left s.right s.sum y 1 (n - 1) E
      ∙ ap (λ (i : ℕ). pairs E k i y) count_is)

  pub fed_state_lem :
      behind_state (doubles 1 s.left) (doubles 1 s.right) (xor s.sum (sum 1 y)) (n - 1) (drop (32 - held) part) ≡ fed_state s held part
  fed_state_lem =
      ap (behind_state (doubles 1 s.left) (doubles 1 s.right) (xor s.sum (sum 1 y)) (n - 1)) (sym behind)
      ∙ state_add s.left s.right s.sum y 1 (n - 1)
      ∙ ap (λ (i : ℕ). behind_state s.left s.right s.sum i y) count_is

  pub fed_runs : 2 + 2 * (n - 1) ≡ length (fed_inputs E (between s held) part)
  fed_runs = omega (arith, length-pairs_inputs E k (pairs_of (length y)) y, count_is, d.some)

-- no pair is due: all is kept
pub kept_all : (s : State) (held : ℕ) (x : List ℕ) → length s.kept ≡ 32 → length s.sum ≡ 16 → held + length x ≤ 32
    → record { left = s.left; right = s.right; sum = s.sum; kept = kept32 (take held s.kept ++ x) } ≡ fed_state s held x
unfolding sum doubles
kept_all s held x long sixteen h =
    let y = take held s.kept ++ x in
    let none : pairs_of (length y) ≡ 0 = omega (arith, pairs_are (length y), hand_long s.kept long held (omega arith) x) in
    ap (λ (a : List ℕ). record { left = s.left; right = s.right; sum = a; kept = kept32 y }) (sym (xor-zeros s.sum 16 (omega arith)))
    ∙ sym (ap (λ (i : ℕ). behind_state s.left s.right s.sum i y) none)
