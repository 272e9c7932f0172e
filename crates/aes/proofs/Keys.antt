-- A key of a known length: its round keys give the cipher of FIPS 197. Assumes nothing.
use mathlib.Core.Path.{◌≡◌, refl, ap, ap₂, ◌∙◌}
use mathlib.Core.List.{List}
use Prim.Native.Nat.{ℕ, ◌+◌, ◌-◌, ◌*◌, ◌≤◌}
use native.Mathlib.Omega.{arith}
use lib.ListN.{length, drop}
use Rattle.std.specs.Prelude.{Option, Some, None, option_map, unwrap_or}
use Rattle.lists.specs.Zeros.{zeros}
use Rattle.aes.specs.Cipher.{cipher}
use Rattle.aes.specs.Expansion.{key_words, key_rounds, key_expansion, aes}
use Rattle.aes.specs.Key.{known, size_of, expanded_as, expansion_of, expanded}
use Rattle.aes.specs.declared.key.KeySize.{KeySize}
use Rattle.aes.specs.declared.key.RoundKeys.{RoundKeys}
use Rattle.aes.proofs.Words.{length-words}
use Rattle.aes.proofs.Sizes.{Sizes, sizes}
use Rattle.aes.proofs.Front.{cipher_front}

-- what a key of a known length has
pub record Usable (key : List ℕ) : Type 0 where
  pub known : size_of (length key) ≡ known (key_rounds key) (4 * (key_rounds key + 1))
  pub rounds : (expanded key).rounds ≡ key_rounds key
  pub least : 10 ≤ key_rounds key
  pub most : key_rounds key ≤ 14
  pub ciphers : (b : List ℕ) → cipher (expanded key).rounds (expanded key).words b ≡ aes key b

length_expansion : (key : List ℕ) → length key ≡ 4 * key_words key → 1 ≤ key_words key → length (key_expansion key) ≡ 16 * (key_rounds key + 1)
unfolding key_expansion
length_expansion key h l =
    omega (arith, length-words (key_words key) key (4 * (key_rounds key + 1) - key_words key) h)

pub usable : (key : List ℕ) (s : KeySize) → size_of (length key) ≡ Some s → Usable key
unfolding expanded aes
usable key s e =
    let z : Sizes (length key) s.rounds s.words = sizes (length key) s e in
    let re : s.rounds ≡ key_rounds key = z.rounds in
    let ne : s.words ≡ 4 * (key_rounds key + 1) = omega arith in
    let full : size_of (length key) ≡ known (key_rounds key) (4 * (key_rounds key + 1)) = e ∙ ap₂ known re ne in
    let is : expanded key ≡ expanded_as key (record { rounds = key_rounds key; words = 4 * (key_rounds key + 1) }) =
    ap (λ (o : Option KeySize). unwrap_or (option_map (expanded_as key) o) (record { rounds = 0; words = zeros 240 })) full in
    record {
      known = full;
      rounds = ap (λ k. k.rounds) is;
      least = omega arith;
      most = omega arith;
      ciphers =
          λ b.
          ap (λ k. cipher k.rounds k.words b) is
          ∙ cipher_front (key_expansion key) (drop (0 + length (key_expansion key)) (zeros 240)) (key_rounds key) b
          (omega (arith, length_expansion key (omega arith) (omega arith)));
    }

-- by the round keys themselves
pub refused : (key : List ℕ) → expansion_of key ≡ None → size_of (length key) ≡ None
refused key e = go (size_of (length key)) refl e
  where
    go : (o : Option KeySize) → size_of (length key) ≡ o → option_map (expanded_as key) o ≡ None → size_of (length key) ≡ None
    go (Some s) z e = absurd (let f : ◌≡◌ {A = ℕ} 0 1 = cc in omega arith)
    go None z e = z

pub accepted : (key : List ℕ) (k : RoundKeys) → expansion_of key ≡ Some k → (expanded key ≡ k) × Usable key
unfolding expanded
accepted key k e = (ap (λ (o : Option RoundKeys). unwrap_or o (record { rounds = 0; words = zeros 240 })) e, go (size_of (length key)) refl e)
  where
    go : (o : Option KeySize) → size_of (length key) ≡ o → option_map (expanded_as key) o ≡ Some k → Usable key
    go (Some s) z e = usable key s z
    go None z e = absurd (let f : ◌≡◌ {A = ℕ} 0 1 = cc in omega arith)
