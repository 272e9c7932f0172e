-- Document 01, 'Numbers a call may carry' and 'What comes back', with the form (document 02, wish 1), nonces of 1 to 15 bytes (wish 5),
-- the edition (wish 7) and prepared keys (wish 9): checks 10 and 8, and then 1 to 6 in the order of their numbers. They go by the numbers
-- of the edition and the form, by lengths alone (of the key, the nonce, the tag, the associated data, the message or the sealed bytes,
-- and the output), and of a prepared key by its round count.
use Rattle.std.specs.Prelude.{Bool, true, false, ◌&&◌, ◌||◌, ℕ, zero, suc, ◌+◌, ◌-◌, eqb, leb, Result, Ok, Err}
use Rattle.link.specs.declared.answer.Refusal.{Refusal}
use Rattle.link.specs.declared.answer.Refusal.TheVariants.{Key, Nonce, Tag, Data, Length, Room, Form, Edition}

-- a is from l to h
abbrev pub from_to : ℕ → ℕ → ℕ → Bool
from_to l h a = leb l a && leb a h

-- what the checks come to: they pass, with the number of bytes that a call writes; or the first that fails stops the call
abbrev pub Check : Type 0
Check = Result ℕ Refusal

abbrev pub unless : {A : Type 0} → Bool → Refusal → Result A Refusal → Result A Refusal
unless true r next = next
unless false r next = Err r

-- check 10: the editions; and check 8: the last form that an edition has, which of edition 1 is the parallel one
abbrev pub known_edition : ℕ → Bool
known_edition edition = eqb edition 1 || eqb edition 3

abbrev pub last_form : ℕ → ℕ
last_form zero = 1
last_form (suc zero) = 0
last_form (suc (suc n)) = 1

-- check 1: the bytes that a key may have, and the rounds that a prepared key may
abbrev pub known_key : ℕ → Bool
known_key key = eqb key 16 || (eqb key 24 || eqb key 32)

abbrev pub known_rounds : ℕ → Bool
known_rounds rounds = eqb rounds 10 || (eqb rounds 12 || eqb rounds 14)

-- checks 10, 8 and 1 to 4, which all calls share, and what comes after them
unfoldable pub call_check : {A : Type 0} → ℕ → ℕ → Bool → ℕ → ℕ → ℕ → Result A Refusal → Result A Refusal
call_check edition form known nonce t ad next =
    unless (known_edition edition) Edition
    (unless (leb form (last_form edition)) Form
    (unless known Key
    (unless (from_to 1 15 nonce) Nonce
    (unless (from_to 4 16 t) Tag
    (unless (leb ad 4096) Data next)))))

-- sealing a message of m bytes into o bytes: checks 5 and 6, and all eight under a raw key and under a prepared one
abbrev pub seal_next : ℕ → ℕ → ℕ → Check
seal_next t m o = unless (leb m 16384) Length (unless (leb (m + t) o) Room (Ok (m + t)))

abbrev pub seal_check : ℕ → ℕ → ℕ → ℕ → ℕ → ℕ → ℕ → ℕ → Check
seal_check edition form key nonce t ad m o = call_check edition form (known_key key) nonce t ad (seal_next t m o)

abbrev pub seal_with_check : ℕ → ℕ → ℕ → ℕ → ℕ → ℕ → ℕ → ℕ → Check
seal_with_check edition form rounds nonce t ad m o = call_check edition form (known_rounds rounds) nonce t ad (seal_next t m o)

-- opening s sealed bytes into o bytes: checks 5 and 6, and all eight likewise
abbrev pub open_next : ℕ → ℕ → ℕ → Check
open_next t s o = unless (from_to t (16384 + t) s) Length (unless (leb (s - t) o) Room (Ok (s - t)))

abbrev pub open_check : ℕ → ℕ → ℕ → ℕ → ℕ → ℕ → ℕ → ℕ → Check
open_check edition form key nonce t ad s o = call_check edition form (known_key key) nonce t ad (open_next t s o)

abbrev pub open_with_check : ℕ → ℕ → ℕ → ℕ → ℕ → ℕ → ℕ → ℕ → Check
open_with_check edition form rounds nonce t ad s o = call_check edition form (known_rounds rounds) nonce t ad (open_next t s o)
