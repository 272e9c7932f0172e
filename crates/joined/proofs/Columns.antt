-- Looked-up words are a column of the round. Assumes nothing.
use mathlib.Core.Path.{◌≡◌, refl, sym, ap, ap₂, ◌∙◌}
use mathlib.Core.List.{List, [], ◌∷◌}
use Prim.Native.Nat.{ℕ, ◌+◌, ◌%◌, ◌<◌}
use native.Mathlib.Omega.{arith}
use lib.Bits.{bit_xor, xor_comm}
use lib.ListN.{get_or}
use Rattle.lists.specs.Xor.{xor}
use Rattle.lists.proofs.Bits.{xor_swap}
use Rattle.lists.proofs.Four.{four}
use Rattle.words.specs.Word.{little}
use Rattle.words.proofs.Words.{little_xor}
use Rattle.field.specs.Field.{product}
use Rattle.field.specs.Substitution.{substitute}
use Rattle.tables.specs.Joined.{entry, joined}
use Rattle.tables.proofs.Entries.{entry_at, entry_shares}
use Rattle.aes.specs.Column.{mixed_column}

-- the first of four to the end
turn : (a b c d : ℕ) → bit_xor (bit_xor (bit_xor a b) c) d ≡ bit_xor (bit_xor (bit_xor b c) d) a
turn a b c d =
    ap (λ (x : ℕ). bit_xor (bit_xor x c) d) (xor_comm a b)
    ∙ ap (λ (x : ℕ). bit_xor x d) (xor_swap b a c)
    ∙ xor_swap (bit_xor b c) a d

-- the four words: (5.6) row by row, each row turned to begin with its own byte
words_are : (a b c d : ℕ) → a < 256 → b < 256 → c < 256 → d < 256
    → little 4 (bit_xor (bit_xor (bit_xor (entry 0 a) (entry 1 b)) (entry 2 c)) (entry 3 d))
    ≡ mixed_column (substitute a ∷ substitute b ∷ substitute c ∷ substitute d ∷ [])
unfolding xor
words_are a b c d ha hb hc hd =
    let e = entry 0 a in
    let f = entry 1 b in
    let g = entry 2 c in
    let p = substitute a in
    let q = substitute b in
    let r = substitute c in
    let s = substitute d in
    little_xor 4 (bit_xor (bit_xor e f) g) (entry 3 d)
    ∙ ap₂ xor
    (little_xor 4 (bit_xor e f) g ∙ ap₂ xor (little_xor 4 e f ∙ ap₂ xor (entry_shares 0 a ha) (entry_shares 1 b hb)) (entry_shares 2 c hc))
    (entry_shares 3 d hd)
    ∙ four
    refl
    (turn p (product 2 q) (product 3 r) s)
    (turn p q (product 2 r) (product 3 s) ∙ turn q (product 2 r) (product 3 s) p)
    (sym (turn (product 2 s) (product 3 p) q r))

-- the words as the code has them, and the word of the key
pub entries_column : (a b c d k : ℕ) → a < 256 → b < 256 → c < 256 → d < 256
    → little 4 (bit_xor (bit_xor (bit_xor (bit_xor (entry 0 a) (entry 1 b)) (entry 3 d)) (entry 2 c)) k)
    ≡ xor (mixed_column (substitute a ∷ substitute b ∷ substitute c ∷ substitute d ∷ [])) (little 4 k)
entries_column a b c d k ha hb hc hd =
    let two = bit_xor (entry 0 a) (entry 1 b) in
    little_xor 4 (bit_xor (bit_xor two (entry 3 d)) (entry 2 c)) k
    ∙ ap (λ (l : List ℕ). xor l (little 4 k))
    (ap (little 4) (xor_swap two (entry 3 d) (entry 2 c)) ∙ words_are a b c d ha hb hc hd)

pub entry_substituted : (b : ℕ) → b < 256 → entry 2 b % 256 ≡ substitute b
unfolding little
entry_substituted b h = ap (λ (l : List ℕ). get_or l 0 0) (entry_shares 2 b h)

-- the same in a list that is the tables
module _ (t : List ℕ) (is : t ≡ joined) where
  pub column_is : (a b c d k : ℕ) → a < 256 → b < 256 → c < 256 → d < 256
      → little 4 (bit_xor (bit_xor (bit_xor (bit_xor (get_or t a 0) (get_or t (256 + b) 0)) (get_or t (768 + d) 0)) (get_or t (512 + c) 0)) k)
      ≡ xor (mixed_column (substitute a ∷ substitute b ∷ substitute c ∷ substitute d ∷ [])) (little 4 k)
  column_is a b c d k ha hb hc hd =
      ap₂ (λ (x y : ℕ). little 4 (bit_xor (bit_xor (bit_xor (bit_xor x y) (get_or t (768 + d) 0)) (get_or t (512 + c) 0)) k))
      (entry_at t is 0 a a (omega arith) ha (omega arith)) (entry_at t is 1 b (256 + b) (omega arith) hb (omega arith))
      ∙ ap₂ (λ (x y : ℕ). little 4 (bit_xor (bit_xor (bit_xor (bit_xor (entry 0 a) (entry 1 b)) x) y) k))
      (entry_at t is 3 d (768 + d) (omega arith) hd (omega arith)) (entry_at t is 2 c (512 + c) (omega arith) hc (omega arith))
      ∙ entries_column a b c d k ha hb hc hd

  pub substituted_is : (b : ℕ) → b < 256 → get_or t (512 + b) 0 % 256 ≡ substitute b
  substituted_is b h = ap (λ (x : ℕ). x % 256) (entry_at t is 2 b (512 + b) (omega arith) h (omega arith)) ∙ entry_substituted b h
