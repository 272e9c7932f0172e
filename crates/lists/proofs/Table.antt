-- One computed equation gives a rule at every entry: where a list is the table of f, its entry k is f k. Assumes nothing.
use mathlib.Core.Path.{◌≡◌, refl, sym, ap, ◌∙◌}
use mathlib.Core.List.{List}
use Prim.Native.Nat.{ℕ, zero, suc, ◌+◌, ◌<◌}
use native.Mathlib.Nat.{add-zero, zero-add, add-suc, suc-add, le_of_suc-le-suc, not-suc-le-zero}
use lib.ListN.{length, get_or}
use lib.Seq.{ext_get_or}
use Rattle.lists.specs.Table.{table, table_from}

length_from : (f : ℕ → ℕ) (i n : ℕ) → length (table_from f i n) ≡ n
unfolding table_from
length_from f i zero = refl
length_from f i (suc n) = ap suc (length_from f (suc i) n)

get_or_from : (f : ℕ → ℕ) (i n k : ℕ) → k < n → get_or (table_from f i n) k 0 ≡ f (i + k)
unfolding table_from
get_or_from f i zero k h = absurd (not-suc-le-zero h)
get_or_from f i (suc n) zero h = ap f (sym (add-zero i))
get_or_from f i (suc n) (suc k) h =
    get_or_from f (suc i) n k (le_of_suc-le-suc h) ∙ ap f (suc-add i k ∙ sym (add-suc i k))

pub length-table : (f : ℕ → ℕ) (n : ℕ) → length (table f n) ≡ n
length-table f n = length_from f 0 n

pub at : (f : ℕ → ℕ) (n : ℕ) (t : List ℕ) → t ≡ table f n → (k : ℕ) → k < n → get_or t k 0 ≡ f k
at f n t e k h = ap (λ (l : List ℕ). get_or l k 0) e ∙ get_or_from f 0 n k h ∙ ap f (zero-add k)

-- two rules whose tables are equal agree below n
pub agree : (f g : ℕ → ℕ) (n : ℕ) → table f n ≡ table g n → (k : ℕ) → k < n → f k ≡ g k
agree f g n e k h = sym (at f n (table f n) refl k h) ∙ at g n (table f n) e k h

-- a list of n is the table of its elements
pub as_table : (l : List ℕ) (n : ℕ) (f : ℕ → ℕ) → length l ≡ n → ((i : ℕ) → i < n → f i ≡ get_or l i 0) → table f n ≡ l
as_table l n f e h =
    ext_get_or 0 (table f n) l (length-table f n ∙ sym e)
    (λ i lt.
    let below : i < n = rw length-table at lt in
    at f n (table f n) refl i below ∙ h i below)
