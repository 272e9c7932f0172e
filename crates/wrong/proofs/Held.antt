-- A named record that `prepare` does not give: the round count and the round keys of the named key, with zeros for its first mask.
-- What it seals to is not what it would with E(zero) in their place, whatever edition and form are named. Assumes nothing.
use mathlib.Core.Path.{◌≡◌, refl, sym, ap, ap₂, fun_ext, ◌∙◌}
use mathlib.Core.List.{List, ◌++◌}
use Prim.Native.Nat.{ℕ}
use native.Mathlib.Omega.{arith}
use lib.Bits.{bit_xor}
use lib.ListN.{length, get_or}
use Rattle.lists.specs.Hex.{bytes}
use Rattle.lists.specs.Xor.{xor}
use Rattle.lists.specs.Zeros.{zeros}
use Rattle.field.specs.Field.{product, inverse}
use Rattle.field.specs.Substitution.{affine, substitute}
use Rattle.aes.specs.Cipher.{add_round_key, round, last_round, rounds, cipher}
use Rattle.aes.proofs.Front.{cipher_front}
use Rattle.block.specs.Block.{pad, shift, double}
use Rattle.mode.specs.declared.edition.Form.TheVariants.{Parallel, Serial}
use Rattle.mode.specs.declared.edition.Edition.{Edition}
use Rattle.mode.specs.declared.edition.Edition.TheVariants.{V1, V3}
use Rattle.mode.specs.Masks.{Masks, AreMasks, doubles, third, first}
use Rattle.mode.specs.Message.{blocks, pairs_of, even}
use Rattle.mode.specs.Data.{data_sum, chain, ta}
use Rattle.mode.specs.Nonce.{format}
use Rattle.mode.specs.Sealing.{sealed, data_tag, otr_from}
use Rattle.mode.proofs.Format.{length-format}
use Rattle.mode.proofs.Opens.{shows_added}
use Rattle.mode.proofs.Otr.{third_masks, first_masks}
use Rattle.block.proofs.Blocks.{length-pad}
use Rattle.block.proofs.Doubling.{length-double}
use Rattle.mode.proofs.Tag.{xor_sixteen}
use Rattle.pairs.proofs.Cipher.{is_cipher, length-ta}
use Rattle.link.specs.Prepared.{cipher_of}
use Rattle.link.specs.declared.prepared.Prepared.{Prepared}
use Rattle.wrong.proofs.Named.{nonce, one, w, v12, nonce_12, byte_of_one}

-- the record, with a first mask q
abbrev pub held : List ℕ → Prepared
held q = record { rounds = 10; words = w ++ zeros 64; zero = q }

-- its cipher does not read the words behind the named key's
abbrev E : List ℕ → List ℕ
E = cipher 10 w

w_long : length w ≡ 176
unfolding w
w_long = refl

cipher_held : (q : List ℕ) → cipher_of (held q) ≡ E
cipher_held q = fun_ext (λ x. cipher_front w (zeros 64) 10 x (omega (arith, w_long)))

-- ---- what is computed: E(zero); and for data of one byte, TA in both editions and forms and the first byte of E(U) in the serial one,
-- from E(zero) and from zeros
abbrev own : List ℕ
own = bytes 16 0x66e94bd4ef8a2c3b884cfa59ca342b2e

own_is : E (zeros 16) ≡ own
unfolding w xor zeros product inverse affine substitute add_round_key round last_round rounds cipher
own_is = refl

parallel_own : get_or (data_tag E own (V3 Parallel) (one 0)) 0 0 ≡ 0x1c
unfolding w xor zeros pad shift double doubles blocks data_sum ta product inverse affine substitute add_round_key round last_round rounds cipher
parallel_own = refl

parallel_zeros : get_or (data_tag E (zeros 16) (V3 Parallel) (one 0)) 0 0 ≡ 0xb9
unfolding w xor zeros pad shift double doubles blocks data_sum ta product inverse affine substitute add_round_key round last_round rounds cipher
parallel_zeros = refl

first_own_tag : get_or (data_tag E own V1 (one 0)) 0 0 ≡ 0xd4
unfolding w xor zeros pad shift double doubles blocks data_sum ta product inverse affine substitute add_round_key round last_round rounds cipher
first_own_tag = refl

first_zeros_tag : get_or (data_tag E (zeros 16) V1 (one 0)) 0 0 ≡ 0xb9
unfolding w xor zeros pad shift double doubles blocks data_sum ta product inverse affine substitute add_round_key round last_round rounds cipher
first_zeros_tag = refl

abbrev ta_own : List ℕ
ta_own = bytes 16 0x916b9e12ea13245a66de55991d4f3511

serial_own : data_tag E own (V3 Serial) (one 0) ≡ ta_own
unfolding w xor zeros pad shift double blocks chain ta product inverse affine substitute add_round_key round last_round rounds cipher
serial_own = refl

abbrev ta_zeros : List ℕ
ta_zeros = bytes 16 0xb970dfbe40698af1638fe38bd3df3b2f

serial_zeros : data_tag E (zeros 16) (V3 Serial) (one 0) ≡ ta_zeros
unfolding w xor zeros pad shift double blocks chain ta product inverse affine substitute add_round_key round last_round rounds cipher
serial_zeros = refl

first_own : get_or (E (double (xor v12 ta_own))) 0 0 ≡ 0x43
unfolding w xor zeros shift double product inverse affine substitute add_round_key round last_round rounds cipher
first_own = refl

first_zeros : get_or (E (double (xor v12 ta_zeros))) 0 0 ≡ 0x89
unfolding w xor zeros shift double product inverse affine substitute add_round_key round last_round rounds cipher
first_zeros = refl

-- ---- so the two seal the byte 0 to strings that differ: in the tag, and in the serial form in their first byte
nonce_long : length (E (format 16 nonce)) ≡ 16
nonce_long = is_cipher 10 w (format 16 nonce) (length-format 16 nonce (omega arith))

first_byte : (q a : List ℕ) → data_tag E q (V3 Serial) (one 0) ≡ a → get_or (otr_from E q (V3 Serial) nonce (one 0) 16 (one 0)) 0 0 ≡ bit_xor 0 (get_or (E (double (xor v12 a))) 0 0)
unfolding blocks pairs_of even doubles
first_byte q a is =
    let u = double (xor (E (format 16 nonce)) (data_tag E q (V3 Serial) (one 0))) in
    let u-long = length-double _ (xor_sixteen (E (format 16 nonce)) (data_tag E q (V3 Serial) (one 0)) nonce_long (length-ta 10 w q (V3 Serial) (one 0))) in
    byte_of_one E (is_cipher 10 w) (third u) (third_masks u u-long) (zeros 16) (one 0) 16 (omega arith) refl
    ∙ ap₂ (λ (v x : List ℕ). bit_xor 0 (get_or (E (double (xor v x))) 0 0)) nonce_12 is

-- where TA goes into the tag, two of them that differ show there
tags_apart : (f : Edition) (k : Masks) → AreMasks k → (get_or (data_tag E own f (one 0)) 0 0 ≡ get_or (data_tag E (zeros 16) f (one 0)) 0 0 → ⊥)
    → sealed E k (data_tag E own f (one 0)) 16 (one 0) ≡ sealed E k (data_tag E (zeros 16) f (one 0)) 16 (one 0) → ⊥
tags_apart f k s differ h =
    differ
    (ap (λ (l : List ℕ). get_or l 0 0)
    (shows_added E (is_cipher 10 w) k s (data_tag E own f (one 0)) (data_tag E (zeros 16) f (one 0)) (length-ta 10 w own f (one 0)) (length-ta 10 w (zeros 16) f (one 0)) (one 0) h))

apart : (f : Edition) → otr_from E own f nonce (one 0) 16 (one 0) ≡ otr_from E (zeros 16) f nonce (one 0) 16 (one 0) → ⊥
apart V1 =
    tags_apart V1 (first (E (pad nonce))) (first_masks (E (pad nonce)) (is_cipher 10 w (pad nonce) (length-pad nonce (omega arith))))
    (λ h. let z : ◌≡◌ {A = ℕ} 0xd4 0xb9 = sym first_own_tag ∙ h ∙ first_zeros_tag in omega arith)
apart (V3 Parallel) =
    tags_apart (V3 Parallel) (third (E (format 16 nonce))) (third_masks (E (format 16 nonce)) nonce_long)
    (λ h. let z : ◌≡◌ {A = ℕ} 0x1c 0xb9 = sym parallel_own ∙ h ∙ parallel_zeros in omega arith)
apart (V3 Serial) =
    λ h.
    let z : ◌≡◌ {A = ℕ} 0x43 0x89 =
    sym (first_byte own ta_own serial_own ∙ ap (bit_xor 0) first_own) ∙ ap (λ (l : List ℕ). get_or l 0 0) h ∙ first_byte (zeros 16) ta_zeros serial_zeros ∙ ap (bit_xor 0) first_zeros in
    omega arith

-- of the record itself
pub masks_apart : (f : Edition)
    → otr_from (cipher_of (held (zeros 16))) (cipher_of (held (zeros 16)) (zeros 16)) f nonce (one 0) 16 (one 0) ≡ otr_from (cipher_of (held (zeros 16))) (zeros 16) f nonce (one 0) 16 (one 0) → ⊥
masks_apart f h =
    let at : (e : List ℕ → List ℕ) → List ℕ → List ℕ = λ e q. otr_from e q f nonce (one 0) 16 (one 0) in
    apart f
    (ap (at E) (sym own_is)
    ∙ sym (ap (λ (e : List ℕ → List ℕ). at e (e (zeros 16))) (cipher_held (zeros 16)))
    ∙ h
    ∙ ap (λ (e : List ℕ → List ℕ). at e (zeros 16)) (cipher_held (zeros 16)))
