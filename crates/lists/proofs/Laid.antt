-- Laying a part into a list: the laws. Assumes nothing.
use mathlib.Core.Path.{◌≡◌, sym, ap, ap₂, ◌∙◌}
use mathlib.Core.List.{List, [], ◌∷◌, ◌++◌, append_assoc, append-nil}
use Prim.Native.Nat.{ℕ, ◌+◌, ◌-◌, ◌≤◌, ◌<◌}
use native.Mathlib.Nat.{add-zero, zero-add, add_assoc}
use native.Mathlib.Omega.{arith}
use native.Mathlib.Numerals.{add-one}
use lib.ListN.{length, get_or, take, drop, set, length-append, length-drop, take-append-drop, drop_of_length-le, get_or-append}
use lib.Seq.{length-take-le, take_at, drop_at, drop-append-add, drop-drop, take_all, set_split, get_or-take, get_or-drop, get_or-append-add}
use Rattle.lists.specs.Lay.{lay}

module _ (i : ℕ) (new out : List ℕ) (fits : i + length new ≤ length out) where
  front : length (take i out) ≡ i
  front = length-take-le i out (omega arith)

  written : length (take i out ++ new) ≡ i + length new
  written = length-append (take i out) new ∙ ap (λ (n : ℕ). n + length new) front

  pub length-lay : length (lay i new out) ≡ length out
  length-lay = simp (length-append, length-drop, front) (omega arith)

  -- what stands before the end of the part, and what behind it
  pub take-lay : take (i + length new) (lay i new out) ≡ take i out ++ new
  take-lay =
      ap (take (i + length new)) (sym (append_assoc (take i out) new (drop (i + length new) out)))
      ∙ take_at (take i out ++ new) (drop (i + length new) out) (i + length new) written

  pub drop-lay : drop (i + length new) (lay i new out) ≡ drop (i + length new) out
  drop-lay =
      ap (drop (i + length new)) (sym (append_assoc (take i out) new (drop (i + length new) out)))
      ∙ drop_at (take i out ++ new) (drop (i + length new) out) (i + length new) written

  -- byte by byte: within the part, before it, and behind it
  pub get_or_laid : (k : ℕ) → k < length new → get_or (lay i new out) (i + k) 0 ≡ get_or new k 0
  get_or_laid k h =
      ap (λ (n : ℕ). get_or (lay i new out) (n + k) 0) (sym front)
      ∙ get_or-append-add (take i out) (new ++ drop (i + length new) out) k 0
      ∙ get_or-append new (drop (i + length new) out) 0 k h

  pub get_or_before : (k : ℕ) → k < i → get_or (lay i new out) k 0 ≡ get_or out k 0
  get_or_before k h = get_or-append (take i out) (new ++ drop (i + length new) out) 0 k (omega (arith, front)) ∙ get_or-take i out k 0 h

  pub get_or_behind : (k : ℕ) → i + length new ≤ k → get_or (lay i new out) k 0 ≡ get_or out k 0
  get_or_behind k h =
      let more = k - (i + length new) in
      let place : i + length new + more ≡ k = omega arith in
      ap (λ (n : ℕ). get_or (lay i new out) n 0) (sym place)
      ∙ sym (get_or-drop (i + length new) (lay i new out) more 0)
      ∙ ap (λ (l : List ℕ). get_or l more 0) drop-lay
      ∙ get_or-drop (i + length new) out more 0
      ∙ ap (λ (n : ℕ). get_or out n 0) place

pub lay_none : (i : ℕ) (out : List ℕ) → lay i [] out ≡ out
lay_none i out = ap (λ (n : ℕ). take i out ++ drop n out) (add-zero i) ∙ take-append-drop i out

-- the list's own front, laid where it stands
pub lay_front : (n : ℕ) (out : List ℕ) → n ≤ length out → lay 0 (take n out) out ≡ out
lay_front n out h =
    let all : 0 + length (take n out) ≡ n = omega (arith, length-take-le n out h) in
    ap (λ (k : ℕ). take n out ++ drop k out) all ∙ take-append-drop n out

-- a longer front covers a shorter one
pub lay_over : (a b out : List ℕ) → length a ≤ length b → lay 0 b (lay 0 a out) ≡ lay 0 b out
lay_over a b out h =
    let more = length b - length a in
    let place : 0 + length b ≡ length a + more = omega arith in
    let place_out : 0 + length a + more ≡ 0 + length b = omega arith in
    ap (λ (l : List ℕ). b ++ l)
    (ap (λ (k : ℕ). drop k (a ++ drop (0 + length a) out)) place
    ∙ drop-append-add a (drop (0 + length a) out) more
    ∙ drop-drop more (0 + length a) out
    ∙ ap (λ (k : ℕ). drop k out) place_out)

-- a part, and directly behind it a second one, are one part
pub lay-lay : (i : ℕ) (a b out : List ℕ) → i + length a + length b ≤ length out
    → lay (i + length a) b (lay i a out) ≡ lay i (a ++ b) out
lay-lay i a b out h =
    ap (λ (l : List ℕ). l ++ (b ++ drop (i + length a + length b) (lay i a out))) (take-lay i a out (omega arith))
    ∙ ap (λ (l : List ℕ). (take i out ++ a) ++ (b ++ l)) behind
    ∙ append_assoc (take i out) a (b ++ drop (i + length (a ++ b)) out)
    ∙ ap (λ (l : List ℕ). take i out ++ l) (sym (append_assoc a b (drop (i + length (a ++ b)) out)))
  where
    behind : drop (i + length a + length b) (lay i a out) ≡ drop (i + length (a ++ b)) out
    behind =
        sym (drop-drop (length b) (i + length a) (lay i a out))
        ∙ ap (drop (length b)) (drop-lay i a out (omega arith))
        ∙ drop-drop (length b) (i + length a) out
        ∙ ap (λ (n : ℕ). drop n out) (add_assoc i (length a) (length b) ∙ ap (λ (n : ℕ). i + n) (sym (length-append a b)))

-- one store directly behind the part makes it longer by one
pub set-lay : (i : ℕ) (a out : List ℕ) (v : ℕ) → i + length a < length out
    → set (lay i a out) (i + length a) v ≡ lay i (a ++ (v ∷ [])) out
set-lay i a out v h =
    set_split (lay i a out) (i + length a) v (omega (arith, length-lay i a out (omega arith)))
    ∙ ap (λ (n : ℕ). take (i + length a) (lay i a out) ++ v ∷ drop n (lay i a out)) (sym (add-one (i + length a)))
    ∙ lay-lay i a (v ∷ []) out (omega arith)

-- ---- at the front, and over the whole
pub front_none : (out : List ℕ) → lay 0 [] out ≡ out
front_none out = lay_none 0 out

pub lay_whole : (new out : List ℕ) → length out ≤ length new → lay 0 new out ≡ new
lay_whole new out h =
    let none : drop (0 + length new) out ≡ [] = drop_of_length-le out {i = 0 + length new} (omega arith) in
    ap (λ (l : List ℕ). new ++ l) none ∙ append-nil new

-- laid into the part from place i to the end, and so into the whole
pub lay_part : (i : ℕ) (new out : List ℕ) → i ≤ length out
    → take i out ++ (lay 0 new (take (length out - i) (drop i out)) ++ drop (length out - i) (drop i out)) ≡ lay i new out
lay_part i new out h =
    let long : length (drop i out) ≡ length out - i = length-drop i out in
    let none : drop (length out - i) (drop i out) ≡ [] = drop_of_length-le (drop i out) {i = length out - i} (omega arith) in
    ap (λ (l : List ℕ). take i out ++ l)
    (ap₂ (λ (a b : List ℕ). lay 0 new a ++ b) (take_all (length out - i) (drop i out) (omega arith)) none
    ∙ append-nil (lay 0 new (drop i out))
    ∙ ap (λ (n : ℕ). new ++ drop n (drop i out)) (zero-add (length new))
    ∙ ap (λ (l : List ℕ). new ++ l) (drop-drop (length new) i out))
