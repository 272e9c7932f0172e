-- Wrong programs that the number brings (document 02, wish 2), at the named inputs of `Calls` in edition 3, parallel, where any number but
-- 0 is wrong. Assumes nothing.
use mathlib.Core.Path.{◌≡◌, refl}
use mathlib.Core.List.{List, []}
use Prim.Native.Nat.{ℕ}
use native.Mathlib.Omega.{arith}
use Rattle.link.specs.Answers.{number_of}
use Rattle.link.specs.Promises.{Seals, Opens}
use Rattle.firmware.specs.Numbered.{Numbered}
use Rattle.demands.proofs.Demand1.{sealing_answers, opening_answers}
use Rattle.demands.proofs.Firmware.{ruled_out}
use Rattle.wrong.proofs.Named.{key, nonce, one}
use Rattle.wrong.proofs.Calls.{room, small, s, third_parallel, refuses_sealing, refuses_opening, seals_refused, opens_refused}

not_sealed : (n : ℕ) (a : List ℕ) → (n ≡ 0 → ⊥) → Numbered (Seals 3 0 key nonce [] (one 0) 16 room) n a → ⊥
not_sealed = ruled_out (Seals 3 0 key nonce [] (one 0) 16 room) (λ n a. n ≡ 0 → ⊥) (refuses_sealing 3 0 third_parallel)

not_opened : (n : ℕ) (a : List ℕ) → (n ≡ 0 → ⊥) → Numbered (Opens 3 0 key nonce [] (s 3 0 0) 16 small) n a → ⊥
not_opened = ruled_out (Opens 3 0 key nonce [] (s 3 0 0) 16 small) (λ n a. n ≡ 0 → ⊥) (refuses_opening 3 0 third_parallel)

-- gives back how many bytes it wrote
pub seals_length : (a : List ℕ) → Numbered (Seals 3 0 key nonce [] (one 0) 16 room) 17 a → ⊥
seals_length a = not_sealed 17 a (λ z. omega arith)

pub opens_length : (a : List ℕ) → Numbered (Opens 3 0 key nonce [] (s 3 0 0) 16 small) 1 a → ⊥
opens_length a = not_opened 1 a (λ z. omega arith)

-- exchanges form and tag length: what the promise allows for form 16 and a tag of 0, it does not for form 0 and a tag of 16
pub seals_exchanged : (n : ℕ) (a : List ℕ)
    → Numbered (Seals 3 16 key nonce [] (one 0) 0 room) n a → Numbered (Seals 3 0 key nonce [] (one 0) 16 room) n a → ⊥
seals_exchanged n a (r, is, p) =
    let eight : number_of r ≡ 8 = (sealing_answers 3 16 key nonce [] (one 0) 0 room r a p).0 in
    not_sealed n a (λ z. omega arith)

pub opens_exchanged : (n : ℕ) (a : List ℕ)
    → Numbered (Opens 3 16 key nonce [] (s 3 0 0) 0 small) n a → Numbered (Opens 3 0 key nonce [] (s 3 0 0) 16 small) n a → ⊥
opens_exchanged n a (r, is, p) =
    let eight : number_of r ≡ 8 = ((opening_answers 3 16 key nonce [] (s 3 0 0) 0 small r a p).stopped (λ z. omega arith)).0 in
    not_opened n a (λ z. omega arith)

-- keeps three bits of the number, so that 8 is done
pub seals_8_as_0 : (a : List ℕ) → Numbered (Seals 3 2 key nonce [] (one 0) 16 room) 0 a → ⊥
seals_8_as_0 a (r, is, p) = seals_refused 3 2 8 key refl r a (λ z. omega arith) p

pub opens_8_as_0 : (a : List ℕ) → Numbered (Opens 3 2 key nonce [] (s 3 0 0) 16 small) 0 a → ⊥
opens_8_as_0 a (r, is, p) = opens_refused 3 2 8 key (s 3 0 0) refl (λ z. omega arith) r a (λ z. omega arith) p

-- exchanges edition and form: what the promise allows for edition 0 and form 3, it does not for edition 3 and form 0
pub seals_edition_as_form : (n : ℕ) (a : List ℕ)
    → Numbered (Seals 0 3 key nonce [] (one 0) 16 room) n a → Numbered (Seals 3 0 key nonce [] (one 0) 16 room) n a → ⊥
seals_edition_as_form n a (r, is, p) =
    let ten : number_of r ≡ 10 = (sealing_answers 0 3 key nonce [] (one 0) 16 room r a p).0 in
    not_sealed n a (λ z. omega arith)

pub opens_edition_as_form : (n : ℕ) (a : List ℕ)
    → Numbered (Opens 0 3 key nonce [] (s 3 0 0) 16 small) n a → Numbered (Opens 3 0 key nonce [] (s 3 0 0) 16 small) n a → ⊥
opens_edition_as_form n a (r, is, p) =
    let ten : number_of r ≡ 10 = ((opening_answers 0 3 key nonce [] (s 3 0 0) 16 small r a p).stopped (λ z. omega arith)).0 in
    not_opened n a (λ z. omega arith)
