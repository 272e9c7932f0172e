-- Wrong programs of document 02's wish 7, each at a named input of `Calls` at which its result does not meet the promise. Assumes nothing.
use mathlib.Core.Path.{◌≡◌, refl, ap}
use mathlib.Core.List.{List, []}
use Prim.Native.Nat.{ℕ}
use native.Mathlib.Omega.{arith}
use lib.ListN.{get_or}
use Rattle.lists.specs.Hex.{bytes}
use Rattle.lists.specs.Zeros.{zeros}
use Rattle.aes.specs.Expansion.{aes}
use Rattle.block.specs.Block.{pad}
use Rattle.mode.specs.declared.edition.Edition.TheVariants.{V1}
use Rattle.mode.specs.Nonce.{format}
use Rattle.mode.specs.Sealing.{sealed, data_tag}
use Rattle.link.specs.Answers.{Answer, number_of}
use Rattle.link.specs.Promises.{Seals, Opens}
use Rattle.wrong.proofs.Named.{key, nonce, one, m64, from_block, editions_apart, bound_apart, doubles_right, doubled_apart}
use Rattle.wrong.proofs.Calls.{room, small, s, third_parallel, first_parallel, limits, all_sealed, seals_as, opens_as, seals_refused, opens_refused, seals_taken, opens_taken}

-- ---- takes edition 1 for 3: what edition 3's promise allows, edition 1's does not
pub seals_as_third : (r : Answer) (after : List ℕ)
    → Seals 3 0 key nonce [] (one 0) 16 room r after → Seals 1 0 key nonce [] (one 0) 16 room r after → ⊥
seals_as_third = seals_as 3 0 1 0 third_parallel first_parallel editions_apart

pub opens_as_third : (r : Answer) (after : List ℕ)
    → Opens 3 0 key nonce [] (s 1 0 0) 16 small r after → Opens 1 0 key nonce [] (s 1 0 0) 16 small r after → ⊥
opens_as_third = opens_as 3 0 1 0 third_parallel first_parallel editions_apart

-- ---- doubles L' as a whole in edition 1: 64 zeros, whose last two blocks stand behind a pair
abbrev pub room64 : List ℕ
room64 = bytes 80 0

pub doubles_right_lem : (r : Answer)
    → Seals 1 0 key nonce [] m64 16 room64 r (sealed (aes key) (doubles_right (aes key (pad nonce))) (data_tag (aes key) (aes key (zeros 16)) V1 []) 16 m64) → ⊥
doubles_right_lem r p =
    let a = data_tag (aes key) (aes key (zeros 16)) V1 [] in
    let wrong = sealed (aes key) (doubles_right (aes key (pad nonce))) a 16 m64 in
    doubled_apart a a (ap (λ (l : List ℕ). get_or l 32 0) (all_sealed 1 0 first_parallel nonce m64 16 room64 (limits 1 0 first_parallel) (omega arith) (omega arith) r wrong p).1)

-- ---- puts the tag length into edition 1's nonce block, as edition 3 does
pub binds_tag_length : (r : Answer) → Seals 1 0 key nonce [] (one 0) 16 room r (from_block V1 (format 16 nonce) 16 (one 0)) → ⊥
binds_tag_length r p =
    let wrong = from_block V1 (format 16 nonce) 16 (one 0) in
    bound_apart (ap (λ (l : List ℕ). get_or l 0 0) (all_sealed 1 0 first_parallel nonce (one 0) 16 room (limits 1 0 first_parallel) (omega arith) (omega arith) r wrong p).1)

-- ---- answers 8 before 10: neither the edition nor the form is one
pub seals_8_before_10 : (r : Answer) (after : List ℕ) → number_of r ≡ 8 → Seals 2 2 key nonce [] (one 0) 16 room r after → ⊥
seals_8_before_10 r after h = seals_refused 2 2 10 key refl r after (λ z. omega arith)

pub opens_8_before_10 : (r : Answer) (after : List ℕ) → number_of r ≡ 8 → Opens 2 2 key nonce [] (s 1 0 0) 16 small r after → ⊥
opens_8_before_10 r after h = opens_refused 2 2 10 key (s 1 0 0) refl (λ z. omega arith) r after (λ z. omega arith)

-- ---- takes edition 2 for 3, or edition 1 in the serial form
pub seals_edition_2 : (r : Answer) (after : List ℕ)
    → Seals 3 0 key nonce [] (one 0) 16 room r after → Seals 2 0 key nonce [] (one 0) 16 room r after → ⊥
seals_edition_2 r after = seals_taken 3 0 third_parallel 2 0 10 (λ z. omega arith) r after refl

pub opens_edition_2 : (r : Answer) (after : List ℕ)
    → Opens 3 0 key nonce [] (s 3 0 0) 16 small r after → Opens 2 0 key nonce [] (s 3 0 0) 16 small r after → ⊥
opens_edition_2 r after = opens_taken 3 0 third_parallel 2 0 10 (λ z. omega arith) r after refl

pub seals_first_serial : (r : Answer) (after : List ℕ) → number_of r ≡ 0 → Seals 1 1 key nonce [] (one 0) 16 room r after → ⊥
seals_first_serial r after h = seals_refused 1 1 8 key refl r after (λ z. omega arith)

pub opens_first_serial : (r : Answer) (after : List ℕ) → number_of r ≡ 0 → Opens 1 1 key nonce [] (s 1 0 0) 16 small r after → ⊥
opens_first_serial r after h = opens_refused 1 1 8 key (s 1 0 0) refl (λ z. omega arith) r after (λ z. omega arith)
