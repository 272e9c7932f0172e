-- An entry of the joined tables, read: its bytes are the shares of the substitution. Assumes nothing.
use mathlib.Core.Path.{◌≡◌, refl, ap, ap₂, subst, ◌∙◌}
use mathlib.Core.List.{List, [], ◌∷◌}
use Prim.Native.Nat.{ℕ, zero, suc, ◌+◌, ◌*◌, ◌/◌, ◌%◌, ◌<◌}
use native.Mathlib.Omega.{arith}
use lib.Bits.{xor_lt}
use lib.ListN.{get_or}
use Rattle.lists.specs.Table.{table_from}
use Rattle.lists.proofs.Table.{at, agree}
use Rattle.words.specs.Word.{little}
use Rattle.words.proofs.Words.{little_number}
use Rattle.field.specs.Field.{product, inverse}
use Rattle.field.specs.Substitution.{affine, substitute}
use Rattle.field.proofs.Products.{twice_is, twice_byte, thrice_is}
use Rattle.tables.specs.Joined.{below, share, entry, joined}

-- ---- all that stands in an entry is a byte
none_above : (b : ℕ) → b < 256 → substitute b / 256 ≡ 0
unfolding table_from substitute affine inverse product
none_above = agree (λ b. substitute b / 256) (λ b. 0) 256 refl

substitute_byte_lem : (b : ℕ) → b < 256 → substitute b < 256
substitute_byte_lem b h = omega (arith, none_above b h)

twice_is_byte : (s : ℕ) → s < 256 → product 2 s < 256
twice_is_byte s h = subst (λ (x : ℕ). x < 256) (twice_is s h) (twice_byte s h)

thrice_is_byte : (s : ℕ) → s < 256 → product 3 s < 256
thrice_is_byte s h = subst (λ (x : ℕ). x < 256) (thrice_is s h) (xor_lt 8 (product 2 s) s (twice_is_byte s h) h)

share_byte : (s i : ℕ) → s < 256 → get_or (product 2 s ∷ s ∷ s ∷ product 3 s ∷ []) i 0 < 256
share_byte s zero h = twice_is_byte s h
share_byte s (suc zero) h = h
share_byte s (suc (suc zero)) h = h
share_byte s (suc (suc (suc zero))) h = thrice_is_byte s h
share_byte s (suc (suc (suc (suc i)))) h = omega arith

-- ---- table k at byte b, which stands at place i
pub entry_at : (t : List ℕ) → t ≡ joined → (k b i : ℕ) → k < 4 → b < 256 → i ≡ 256 * k + b → get_or t i 0 ≡ entry k b
unfolding joined
entry_at t is k b i hk hb hi =
    let table_is : i / 256 ≡ k = omega arith in
    let byte_is : i % 256 ≡ b = omega arith in
    at (λ i. entry (i / 256) (i % 256)) 1024 t is i (omega arith) ∙ ap₂ entry table_is byte_is

pub entry_shares : (k b : ℕ) → b < 256
    → little 4 (entry k b) ≡ share k 0 (substitute b) ∷ share k 1 (substitute b) ∷ share k 2 (substitute b) ∷ share k 3 (substitute b) ∷ []
unfolding entry
entry_shares k b hb =
    let s = substitute b in
    let hs = substitute_byte_lem b hb in
    little_number (share k 0 s) (share k 1 s) (share k 2 s) (share k 3 s)
    (share_byte s (below k 0) hs) (share_byte s (below k 1) hs) (share_byte s (below k 2) hs) (share_byte s (below k 3) hs)

-- so in a list that is the tables
pub shares_at : (t : List ℕ) → t ≡ joined → (k b i : ℕ) → k < 4 → b < 256 → i ≡ 256 * k + b
    → little 4 (get_or t i 0) ≡ share k 0 (substitute b) ∷ share k 1 (substitute b) ∷ share k 2 (substitute b) ∷ share k 3 (substitute b) ∷ []
shares_at t is k b i hk hb hi = ap (little 4) (entry_at t is k b i hk hb hi) ∙ entry_shares k b hb
