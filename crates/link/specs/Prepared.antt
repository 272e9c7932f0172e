-- Document 02, wish 9: a prepared key is a record of round count, round keys and E(zero), the first mask of the data pass.
use Rattle.std.specs.Prelude.{Bool, true, false, List, [], ◌∷◌, ℕ, length, Err}
use Rattle.lists.specs.Zeros.{zeros}
use Rattle.aes.specs.Cipher.{cipher}
use Rattle.aes.specs.Expansion.{aes}
use Rattle.aes.specs.Key.{expanded}
use Rattle.link.specs.Answers.{done}
use Rattle.link.specs.Checks.{known_key}
use Rattle.link.specs.declared.answer.Refusal.TheVariants.{Key}
use Rattle.link.specs.declared.prepared.Prepared.{Prepared}
use Rattle.link.specs.declared.prepared.Preparation.{Preparation}

-- the cipher of a record, whoever made it: that of its round count over its round keys
abbrev pub cipher_of : Prepared → List ℕ → List ℕ
cipher_of p = cipher p.rounds p.words

-- the record of a key with the first mask q: its round count, and its round keys, those not used zero
abbrev pub record_of : List ℕ → List ℕ → Prepared
record_of key q = record { rounds = (expanded key).rounds; words = (expanded key).words; zero = q }

-- ---- what preparing gives: E(zero) for the first mask, after its one run; for a key of another length the refusal 1, and a record of
-- zeros
abbrev pub prepared_if : Bool → List ℕ → Preparation
prepared_if true key = record { answer = done 0 (length (zeros 16 ∷ [])); key = record_of key (aes key (zeros 16)) }
prepared_if false key = record { answer = Err Key; key = record { rounds = 0; words = zeros 240; zero = zeros 16 } }

unfoldable pub preparation : List ℕ → Preparation
preparation key = prepared_if (known_key (length key)) key
