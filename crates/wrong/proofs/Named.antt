-- The named inputs of the wrong programs, and the bytes of theirs that are computed: in both editions and forms, with no associated data.
-- Assumes nothing.
use mathlib.Core.Path.{◌≡◌, refl, sym, ap, subst, fun_ext, ◌∙◌}
use mathlib.Core.Bool.{Bool, true, false}
use mathlib.Core.List.{List, [], ◌∷◌, ◌++◌, zip_with, append_assoc}
use Prim.Native.Nat.{ℕ, ◌+◌, ◌*◌, ◌<◌}
use native.Mathlib.Nat.{add-zero}
use native.Mathlib.Omega.{arith}
use lib.Bits.{bit_xor}
use lib.ListN.{length, get_or, length-append, length-drop, get_or-append}
use lib.Seq.{get_or-append-add, get_or-drop}
use Rattle.lists.specs.Hex.{bytes}
use Rattle.lists.specs.Xor.{xor}
use Rattle.lists.specs.Zeros.{zeros}
use Rattle.lists.proofs.Xor.{get_or-xor}
use Rattle.lists.proofs.Zeros.{xor-zeros}
use Rattle.field.specs.Field.{product, inverse}
use Rattle.field.specs.Substitution.{affine, substitute}
use Rattle.aes.specs.Cipher.{add_round_key, round, last_round, rounds, cipher}
use Rattle.aes.specs.Expansion.{power, temp, next, words, key_expansion, aes}
use Rattle.block.specs.Block.{pad, shift, double}
use Rattle.mode.specs.declared.edition.Form.{Form}
use Rattle.mode.specs.declared.edition.Form.TheVariants.{Parallel, Serial}
use Rattle.mode.specs.Edition.{form_in}
use Rattle.mode.specs.declared.edition.Edition.{Edition}
use Rattle.mode.specs.declared.edition.Edition.TheVariants.{V1, V3}
use Rattle.mode.specs.Masks.{Masks, IsCipher, AreMasks, doubles, first, masks_of}
use Rattle.mode.specs.Message.{blocks, pairs_of, even, rest, half, last, ending, pairs, body}
use Rattle.mode.specs.Nonce.{format, nonce_block}
use Rattle.mode.specs.Sealing.{tag, sealed, first_mask, into_tag, data_tag, masks, otr}
use Rattle.mode.specs.Feeding.{from as from_pair}
use Rattle.block.proofs.Blocks.{length-pad}
use Rattle.block.proofs.Doubling.{length-double}
use Rattle.mode.proofs.Data.{length-doubles}
use Rattle.mode.proofs.Tag.{xor_sixteen}
use Rattle.mode.proofs.Pairs.{length_pairs}
use Rattle.mode.proofs.Ends.{Remains, length-ending}
use Rattle.mode.proofs.Walk.{remains}
use Rattle.mode.proofs.Parts.{body_parts}
use Rattle.mode.proofs.Otr.{first_masks, edition_masks, doublings, without_data}
use Rattle.link.proofs.Entries.{aes_cipher}

-- ---- the named inputs: a key of 16 zeros, nonces of 12 and of 15, messages of one byte x, of 33 zeros and of 64
abbrev pub key : List ℕ
key = bytes 16 0

abbrev pub nonce : List ℕ
nonce = bytes 12 0

abbrev pub nonce15 : List ℕ
nonce15 = bytes 15 0

abbrev pub one : ℕ → List ℕ
one x = x ∷ []

abbrev pub m33 : List ℕ
m33 = bytes 33 0

abbrev pub m64 : List ℕ
m64 = bytes 64 0

-- the byte of a sealed string behind its pairs
module _ (E : List ℕ → List ℕ) (e : IsCipher E) (k : Masks) (s : AreMasks k) (a m : List ℕ) (t : ℕ) (some : 32 * pairs_of (length m) < length m) where
  n : ℕ
  n = pairs_of (length m)

  front : List ℕ
  front = pairs E k n m

  front_long : length front ≡ 32 * n
  unfolding n front
  front_long = length_pairs E e k s n m (omega arith)

  rest_some : 0 < length (rest m)
  rest_some = omega (arith, length-drop (32 * pairs_of (length m)) m)

  -- the first of the end, where two blocks remain or one
  pub byte_behind : (b : Bool) → even (length m) ≡ b
      → get_or (sealed E k a t m) (32 * pairs_of (length m)) 0 ≡ get_or (ending E b (k.left (pairs_of (length m))) (k.right (pairs_of (length m))) (rest m)) 0 0
  unfolding n front sealed
  byte_behind b two =
      ap (λ (l : List ℕ). get_or (l ++ tag_behind) (32 * n) 0) (body_parts E k b m two)
      ∙ ap (λ (l : List ℕ). get_or l (32 * n) 0) (append_assoc front end tag_behind)
      ∙ ap (λ (i : ℕ). get_or (front ++ (end ++ tag_behind)) i 0) place
      ∙ get_or-append-add front (end ++ tag_behind) 0 0
      ∙ get_or-append end tag_behind 0 0 (omega (arith, end_long, rest_some))
    where
      end : List ℕ
      end = ending E b (k.left n) (k.right n) (rest m)

      tag_behind : List ℕ
      tag_behind = tag E k a t m

      place : 32 * n ≡ length front + 0
      place = omega (arith, front_long)

      end_long : length end ≡ length (rest m)
      end_long = length-ending E e (k.left n) (k.right n) (s.left n) (s.right n) b (rest m) (subst (λ (x : Bool). Remains x (rest m)) two (remains m))

  mask_long : length (E (k.left (pairs_of (length m)))) ≡ 16
  mask_long = e (k.left (pairs_of (length m))) (s.left (pairs_of (length m)))

  -- where one remains it is the message's, masked
  pub byte_of_one : even (length m) ≡ false
      → get_or (sealed E k a t m) (32 * pairs_of (length m)) 0 ≡ bit_xor (get_or m (32 * pairs_of (length m)) 0) (get_or (E (k.left (pairs_of (length m)))) 0 0)
  unfolding n
  byte_of_one odd =
      byte_behind false odd
      ∙ get_or-xor 0 (rest m) (E (k.left n)) rest_some (omega (arith, mask_long))
      ∙ ap (λ (x : ℕ). bit_xor x (get_or (E (k.left n)) 0 0)) (get_or-drop (32 * n) m 0 0 ∙ ap (λ (i : ℕ). get_or m i 0) (add-zero (32 * n)))

-- the named key, expanded: each run below then has its round keys at hand
unfoldable pub w : List ℕ
w = bytes 176 0x00000000000000000000000000000000626363636263636362636363626363639b9898c9f9fbfbaa9b9898c9f9fbfbaa90973450696ccffaf2f457330b0fac99ee06da7b876a1581759e42b27e91ee2b7f2e2b88f8443e098dda7cbbf34b9290ec614b851425758c99ff09376ab49ba7217517873550620bacaf6b3cc61bf09b0ef903333ba9613897060a04511dfa9fb1d4d8e28a7db9da1d7bb3de4c664941b4ef5bcb3e92e21123e951cf6f8f188e

pub w_is : key_expansion key ≡ w
unfolding w xor product inverse affine substitute power temp next words key_expansion
w_is = refl

aes_is : (x : List ℕ) → aes key x ≡ cipher 10 w x
unfolding aes
aes_is x = ap (λ (k : List ℕ). cipher 10 k x) w_is

-- what a message seals to from the nonce block b, and its byte behind the pairs, where v is E(b)
abbrev pub from_block : Edition → List ℕ → ℕ → List ℕ → List ℕ
from_block f b t m =
    let a = data_tag (aes key) (aes key (zeros 16)) f [] in
    sealed (aes key) (masks_of f (first_mask (form_in f) (aes key b) a)) (into_tag (form_in f) a) t m

-- the masks from v
abbrev from : Edition → List ℕ → Masks
from f v = masks_of f (doubles (doublings (form_in f)) v)

byte_from : (f : Edition) (b v m : List ℕ) (t : ℕ) → length b ≡ 16 → cipher 10 w b ≡ v → even (length m) ≡ false → 32 * pairs_of (length m) < length m
    → get_or (from_block f b t m) (32 * pairs_of (length m)) 0
    ≡ bit_xor (get_or m (32 * pairs_of (length m)) 0) (get_or (cipher 10 w ((from f v).left (pairs_of (length m)))) 0 0)
byte_from f b v m t h is odd some =
    let a = into_tag (form_in f) (data_tag (aes key) (aes key (zeros 16)) f []) in
    let d = doublings (form_in f) in
    let i = 32 * pairs_of (length m) in
    let long : length (aes key b) ≡ 16 = aes_cipher key b h in
    ap (λ (u : List ℕ). get_or (sealed (aes key) (masks_of f u) a t m) i 0) (without_data (aes key) (aes key (zeros 16)) f (aes key b) long)
    ∙ byte_of_one (aes key) (aes_cipher key) (from f (aes key b)) (edition_masks f (doubles d (aes key b)) (length-doubles d (aes key b) long)) a m t some odd
    ∙ ap (λ (u : List ℕ). bit_xor (get_or m i 0) (get_or (aes key ((from f u).left (pairs_of (length m)))) 0 0)) (aes_is b ∙ is)
    ∙ ap (λ (y : List ℕ). bit_xor (get_or m i 0) (get_or y 0 0)) (aes_is ((from f v).left (pairs_of (length m))))

-- ---- what is computed of a nonce block b: v = E(b), and the first byte of E(L)
record Ciphered (f : Edition) (b v : List ℕ) (byte : ℕ) : Type 0 where
  long : length b ≡ 16
  is : cipher 10 w b ≡ v
  first : get_or (cipher 10 w ((from f v).left 0)) 0 0 ≡ byte

-- so the first byte that the byte 0 seals to
first_of : (f : Edition) (b v : List ℕ) (byte : ℕ) → Ciphered f b v byte → (t : ℕ) → get_or (from_block f b t (one 0)) 0 0 ≡ bit_xor 0 byte
unfolding blocks pairs_of even
first_of f b v byte k t = byte_from f b v (one 0) t k.long k.is refl (omega arith) ∙ ap (bit_xor 0) k.first

-- the nonce of 12 and a tag of 16: E of the nonce block, which v1 calls δ, and the first byte of E(L)
abbrev pub v12 : List ℕ
v12 = bytes 16 0xee944b2fe6e9fc888042608da9615f75

abbrev pub delta : List ℕ
delta = bytes 16 0x3423d8efc31fa2f4c365c77d8f3b5c63

abbrev out12 : Edition → List ℕ
out12 V1 = delta
out12 (V3 f) = v12

abbrev byte12 : Edition → ℕ
byte12 V1 = 0x6c
byte12 (V3 Parallel) = 0xe0
byte12 (V3 Serial) = 0x3a

pub nonce_12 : cipher 10 w (format 16 nonce) ≡ v12
unfolding w xor zeros zip_with format product inverse affine substitute add_round_key round last_round rounds cipher
nonce_12 = refl

pub delta_is : cipher 10 w (pad nonce) ≡ delta
unfolding w xor zeros pad product inverse affine substitute add_round_key round last_round rounds cipher
delta_is = refl

ciphered_12 : (f : Edition) → Ciphered f (nonce_block f 16 nonce) (out12 f) (byte12 f)
unfolding w xor zeros zip_with format pad shift double doubles product inverse affine substitute add_round_key round last_round rounds cipher
ciphered_12 V1 = record { long = refl; is = delta_is; first = refl }
ciphered_12 (V3 Parallel) = record { long = refl; is = nonce_12; first = refl }
ciphered_12 (V3 Serial) = record { long = refl; is = nonce_12; first = refl }

-- the nonce of 15 and a tag of 15, in v3.1
abbrev v15 : List ℕ
v15 = bytes 16 0x6fcc84c6d631595a514057a8f1af8648

abbrev byte15 : Form → ℕ
byte15 Parallel = 0x99
byte15 Serial = 0x51

nonce_15 : cipher 10 w (format 15 nonce15) ≡ v15
unfolding w xor zeros zip_with format product inverse affine substitute add_round_key round last_round rounds cipher
nonce_15 = refl

ciphered_15 : (f : Form) → Ciphered (V3 f) (format 15 nonce15) v15 (byte15 f)
unfolding w xor zeros zip_with format shift double doubles product inverse affine substitute add_round_key round last_round rounds cipher
ciphered_15 Parallel = record { long = refl; is = nonce_15; first = refl }
ciphered_15 Serial = record { long = refl; is = nonce_15; first = refl }

-- the same with the marker laid over the tag byte: 01 and the nonce
abbrev v_laid : List ℕ
v_laid = bytes 16 0x47711816e91d6ff059bbbf2bf58e0fd3

abbrev byte_laid : Form → ℕ
byte_laid Parallel = 0x83
byte_laid Serial = 0x39

laid_15 : cipher 10 w (1 ∷ nonce15) ≡ v_laid
unfolding w xor zeros product inverse affine substitute add_round_key round last_round rounds cipher
laid_15 = refl

ciphered_laid : (f : Form) → Ciphered (V3 f) (1 ∷ nonce15) v_laid (byte_laid f)
unfolding w xor zeros shift double doubles product inverse affine substitute add_round_key round last_round rounds cipher
ciphered_laid Parallel = record { long = refl; is = laid_15; first = refl }
ciphered_laid Serial = record { long = refl; is = laid_15; first = refl }

-- E(4v), for the nonce of 12, and E(8δ)
fourfold : get_or (cipher 10 w (doubles 2 v12)) 0 0 ≡ 0x04
unfolding w xor zeros shift double doubles product inverse affine substitute add_round_key round last_round rounds cipher
fourfold = refl

abbrev z : List ℕ
z = bytes 16 0x7d3f736f7f847b3829abdbf4d9bf82fd

z_is : cipher 10 w (doubles 3 delta) ≡ z
unfolding w xor zeros shift double doubles product inverse affine substitute add_round_key round last_round rounds cipher
z_is = refl

-- ---- the bytes that the wrong programs get wrong
-- the first that the byte 0 seals to: not 0, and not the same in both forms, nor in both editions
first_byte : (f : Edition) → get_or (otr (aes key) f nonce [] 16 (one 0)) 0 0 ≡ bit_xor 0 (byte12 f)
first_byte f = first_of f (nonce_block f 16 nonce) (out12 f) (byte12 f) (ciphered_12 f) 16

pub first_some : (f : Edition) → get_or (otr (aes key) f nonce [] 16 (one 0)) 0 0 ≡ 0 → ⊥
first_some V1 h = let z : ◌≡◌ {A = ℕ} 0x6c 0 = sym (first_byte V1) ∙ h in omega arith
first_some (V3 Parallel) h = let z : ◌≡◌ {A = ℕ} 0xe0 0 = sym (first_byte (V3 Parallel)) ∙ h in omega arith
first_some (V3 Serial) h = let z : ◌≡◌ {A = ℕ} 0x3a 0 = sym (first_byte (V3 Serial)) ∙ h in omega arith

pub apart : (f g : Edition) → (bit_xor 0 (byte12 f) ≡ bit_xor 0 (byte12 g) → ⊥) → otr (aes key) f nonce [] 16 (one 0) ≡ otr (aes key) g nonce [] 16 (one 0) → ⊥
apart f g differ e = differ (sym (first_byte f) ∙ ap (λ (l : List ℕ). get_or l 0 0) e ∙ first_byte g)

pub forms_apart : otr (aes key) (V3 Parallel) nonce [] 16 (one 0) ≡ otr (aes key) (V3 Serial) nonce [] 16 (one 0) → ⊥
forms_apart = apart (V3 Parallel) (V3 Serial) (λ h. let z : ◌≡◌ {A = ℕ} 0xe0 0x3a = h in omega arith)

pub editions_apart : otr (aes key) (V3 Parallel) nonce [] 16 (one 0) ≡ otr (aes key) V1 nonce [] 16 (one 0) → ⊥
editions_apart = apart (V3 Parallel) V1 (λ h. let z : ◌≡◌ {A = ℕ} 0xe0 0x6c = h in omega arith)

-- the last that 33 zeros seal to, behind their pair
byte_32 : (f : Edition) → get_or (otr (aes key) f nonce [] 16 m33) 32 0 ≡ bit_xor 0 (get_or (cipher 10 w ((from f (out12 f)).left 1)) 0 0)
unfolding blocks pairs_of even
byte_32 f = byte_from f (nonce_block f 16 nonce) (out12 f) m33 16 (ciphered_12 f).long (ciphered_12 f).is refl (omega arith)

pub last_some : (f : Edition) → get_or (otr (aes key) f nonce [] 16 m33) 32 0 ≡ 0 → ⊥
unfolding doubles
last_some V1 h = let z : ◌≡◌ {A = ℕ} 0x7d 0 = sym (byte_32 V1 ∙ ap (λ (l : List ℕ). bit_xor 0 (get_or l 0 0)) z_is) ∙ h in omega arith
last_some (V3 Parallel) h = let z : ◌≡◌ {A = ℕ} 0x3a 0 = sym (byte_32 (V3 Parallel) ∙ ap (bit_xor 0) (ciphered_12 (V3 Serial)).first) ∙ h in omega arith
last_some (V3 Serial) h = let z : ◌≡◌ {A = ℕ} 0x04 0 = sym (byte_32 (V3 Serial) ∙ ap (bit_xor 0) fourfold) ∙ h in omega arith

-- the first from the block with the marker laid over the tag byte, which differs from the right one
pub laid_apart : (f : Form) → get_or (from_block (V3 f) (1 ∷ nonce15) 15 (one 0)) 0 0 ≡ get_or (otr (aes key) (V3 f) nonce15 [] 15 (one 0)) 0 0 → ⊥
laid_apart f h = differ f (sym (first_of (V3 f) (1 ∷ nonce15) v_laid (byte_laid f) (ciphered_laid f) 15) ∙ h ∙ first_of (V3 f) (format 15 nonce15) v15 (byte15 f) (ciphered_15 f) 15)
  where
    differ : (f : Form) → bit_xor 0 (byte_laid f) ≡ bit_xor 0 (byte15 f) → ⊥
    differ Parallel h = let z : ◌≡◌ {A = ℕ} 0x83 0x99 = h in omega arith
    differ Serial h = let z : ◌≡◌ {A = ℕ} 0x39 0x51 = h in omega arith

-- v1's first from a nonce block with the tag length in it, v3.1's
ciphered_bound : Ciphered V1 (format 16 nonce) v12 0x04
unfolding doubles
ciphered_bound = record { long = (ciphered_12 (V3 Parallel)).long; is = nonce_12; first = fourfold }

pub bound_apart : get_or (from_block V1 (format 16 nonce) 16 (one 0)) 0 0 ≡ get_or (otr (aes key) V1 nonce [] 16 (one 0)) 0 0 → ⊥
bound_apart h = let z : ◌≡◌ {A = ℕ} 0x04 0x6c = sym (first_of V1 (format 16 nonce) v12 0x04 ciphered_bound 16) ∙ h ∙ first_byte V1 in omega arith

-- ---- v1 with L' doubled as a whole: as long as no pair is out its masks are the right ones
abbrev pub doubles_right : List ℕ → Masks
doubles_right d =
    record {
      left = (first d).left;
      right = λ i. doubles i (xor (double (double d)) d);
      if_short = (first d).if_short;
      if_full = (first d).if_full;
    }

doubles_right_masks : (d : List ℕ) → length d ≡ 16 → AreMasks (doubles_right d)
doubles_right_masks d h =
    let k = first_masks d h in
    let five = xor_sixteen (double (double d)) d (length-double (double d) (length-double d h)) h in
    record { left = k.left; right = λ i. length-doubles i (xor (double (double d)) d) five; if_short = k.if_short; if_full = k.if_full }

-- behind one pair: Z ⊕ R is the last cipher block of zeros, and the one before it goes by L'
last_is : last (cipher 10 w) (doubles 3 delta) (bytes 32 0) ≡ z
unfolding xor zeros shift double doubles
last_is = ap (xor (bytes 16 0)) z_is

behind_is : (r : List ℕ) → ending (cipher 10 w) true (doubles 3 delta) r (bytes 32 0) ≡ half (cipher 10 w) r (pad z) (bytes 16 0) ++ z
behind_is r = ap (λ (l : List ℕ). half (cipher 10 w) r (pad l) (bytes 16 0) ++ l) last_is

right_byte : get_or (half (cipher 10 w) (xor (doubles 3 delta) delta) (pad z) (bytes 16 0) ++ z) 0 0 ≡ 0x19
unfolding w xor zeros pad shift double doubles product inverse affine substitute add_round_key round last_round rounds cipher
right_byte = refl

doubled_byte : get_or (half (cipher 10 w) (double (xor (doubles 2 delta) delta)) (pad z) (bytes 16 0) ++ z) 0 0 ≡ 0x38
unfolding w xor zeros pad shift double doubles product inverse affine substitute add_round_key round last_round rounds cipher
doubled_byte = refl

-- byte 32 of 64 zeros sealed with masks k from δ
byte_of_64 : (k : List ℕ → Masks) → ((d : List ℕ) → length d ≡ 16 → AreMasks (k d)) → (a : List ℕ)
    → get_or (sealed (aes key) (k (aes key (pad nonce))) a 16 m64) 32 0 ≡ get_or (ending (cipher 10 w) true ((k delta).left 1) ((k delta).right 1) (bytes 32 0)) 0 0
unfolding blocks pairs_of even
byte_of_64 k masks a =
    byte_behind (aes key) (aes_cipher key) (k (aes key (pad nonce))) (masks (aes key (pad nonce)) (aes_cipher key (pad nonce) (length-pad nonce (omega arith)))) a m64 16 (omega arith) true refl
    ∙ ap (λ (d : List ℕ). get_or (ending (aes key) true ((k d).left 1) ((k d).right 1) (bytes 32 0)) 0 0) (aes_is (pad nonce) ∙ delta_is)
    ∙ ap (λ (E : List ℕ → List ℕ). get_or (ending E true ((k delta).left 1) ((k delta).right 1) (bytes 32 0)) 0 0) (fun_ext aes_is)

pub doubled_apart : (a b : List ℕ) → get_or (sealed (aes key) (doubles_right (aes key (pad nonce))) a 16 m64) 32 0 ≡ get_or (sealed (aes key) (first (aes key (pad nonce))) b 16 m64) 32 0 → ⊥
unfolding doubles
doubled_apart a b h =
    let z : ◌≡◌ {A = ℕ} 0x38 0x19 =
    sym (byte_of_64 doubles_right doubles_right_masks a ∙ ap (λ (l : List ℕ). get_or l 0 0) (behind_is (double (xor (doubles 2 delta) delta))) ∙ doubled_byte)
    ∙ h
    ∙ byte_of_64 first first_masks b
    ∙ ap (λ (l : List ℕ). get_or l 0 0) (behind_is (xor (doubles 3 delta) delta))
    ∙ right_byte in
    omega arith

-- ---- the first byte of a pair of zeros: that of E(L)
pair_first : (E : List ℕ → List ℕ) → IsCipher E → (k : Masks) → AreMasks k → get_or (pairs E k 1 m33) 0 0 ≡ bit_xor 0 (get_or (E (k.left 0)) 0 0)
unfolding pairs zeros
pair_first E e k s =
    let l = k.left 0 in
    let z = bytes 16 0 in
    let first = half E l z z in
    let inner = e (xor l z) (xor_sixteen l z (s.left 0) refl) in
    get_or-append first (half E (k.right 0) first z) 0 0 (omega (arith, xor_sixteen z (E (xor l z)) refl inner))
    ∙ get_or-xor 0 z (E (xor l z)) (omega arith) (omega (arith, inner))
    ∙ ap (λ (x : List ℕ). bit_xor 0 (get_or (E x) 0 0)) (xor-zeros l 16 (omega (arith, s.left 0)))

-- the masks of the named nonce, in v3.1 with parallel data
abbrev masks12 : Masks
masks12 = masks (aes key) (aes key (zeros 16)) (V3 Parallel) nonce [] 16

nonce_long : length (aes key (format 16 nonce)) ≡ 16
nonce_long = aes_cipher key (format 16 nonce) (ciphered_12 (V3 Parallel)).long

are_masks12 : (n : ℕ) → AreMasks (from_pair n masks12)
are_masks12 n =
    let s = edition_masks (V3 Parallel) (aes key (format 16 nonce)) nonce_long in
    record { left = λ i. s.left (n + i); right = λ i. s.right (n + i); if_short = s.if_short; if_full = s.if_full }

-- from pair n on, and its own first byte is what is sealed
first_from : (n : ℕ) → get_or (pairs (aes key) (from_pair n masks12) 1 m33) 0 0 ≡ bit_xor 0 (get_or (cipher 10 w (doubles (n + 0) v12)) 0 0)
first_from n =
    pair_first (aes key) (aes_cipher key) (from_pair n masks12) (are_masks12 n)
    ∙ ap (λ (u : List ℕ). bit_xor 0 (get_or (aes key (doubles (n + 0) u)) 0 0)) (aes_is (format 16 nonce) ∙ nonce_12)
    ∙ ap (λ (y : List ℕ). bit_xor 0 (get_or y 0 0)) (aes_is (doubles (n + 0) v12))

first_of_all : (x y z : List ℕ) → 0 < length x → get_or ((x ++ y) ++ z) 0 0 ≡ get_or x 0 0
first_of_all x y z some = get_or-append (x ++ y) z 0 0 (omega (arith, length-append x y)) ∙ get_or-append x y 0 0 some

pub first_of_pair : get_or (otr (aes key) (V3 Parallel) nonce [] 16 m33) 0 0 ≡ get_or (pairs (aes key) masks12 1 m33) 0 0
unfolding sealed body blocks pairs_of
first_of_pair =
    let front = pairs (aes key) masks12 1 m33 in
    let long : length front ≡ 32 = length_pairs (aes key) (aes_cipher key) masks12 (edition_masks (V3 Parallel) (aes key (format 16 nonce)) nonce_long) 1 m33 (omega arith) in
    first_of_all front _ _ (omega (arith, long))

-- with the masks of the next pair it is another
pub off_by_one : get_or (pairs (aes key) (from_pair 1 masks12) 1 m33) 0 0 ≡ get_or (otr (aes key) (V3 Parallel) nonce [] 16 m33) 0 0 → ⊥
unfolding doubles pairs
off_by_one h =
    let z : ◌≡◌ {A = ℕ} 0x3a 0xe0 = sym (first_from 1 ∙ ap (bit_xor 0) (ciphered_12 (V3 Serial)).first) ∙ h ∙ first_of_pair ∙ first_from 0 ∙ ap (bit_xor 0) (ciphered_12 (V3 Parallel)).first in
    omega arith
