-- AES-OTR in the edition and form that a call names, over any cipher E and any first mask of the data pass, q: its masks are masks, what
-- goes into its tag has 16 bytes, and so every theorem of the mode holds for it. Of q no more is asked than that TA has 16 bytes, as it
-- has where q has (`Data`, `length-data_tag`). Assumes nothing.
use mathlib.Core.Path.{◌≡◌, refl, ap}
use mathlib.Core.List.{List, []}
use Prim.Native.Nat.{ℕ, ◌+◌, ◌≤◌}
use native.Mathlib.Omega.{arith}
use lib.ListN.{length, take}
use Rattle.lists.specs.Xor.{xor}
use Rattle.lists.proofs.Zeros.{length-zeros, xor-zeros}
use Rattle.block.specs.Block.{double, triple}
use Rattle.block.proofs.Blocks.{length-pad}
use Rattle.block.proofs.Doubling.{length-double, length-triple, length-seven}
use Rattle.mode.specs.Form.{Form, Parallel, Serial}
use Rattle.mode.specs.Edition.{Edition, V1, V3, form_in}
use Rattle.mode.specs.Masks.{Masks, IsCipher, AreMasks, doubles, doubled, third, first, masks_of}
use Rattle.mode.specs.Message.{body, te}
use Rattle.mode.specs.Data.{ta}
use Rattle.mode.specs.Nonce.{nonce_block}
use Rattle.mode.specs.Sealing.{tag, first_mask, into_tag, data_tag, u, masks, added, otr_from}
use Rattle.mode.specs.Opening.{Opened, accepted, Allowed}
use Rattle.mode.specs.Undoing.{unbody, found_from}
use Rattle.mode.proofs.Data.{length-doubles}
use Rattle.mode.proofs.Format.{length-format}
use Rattle.mode.proofs.Tag.{xor_sixteen}
use Rattle.mode.proofs.Walk as Walk
use Rattle.mode.proofs.Tag as Tag
use Rattle.mode.proofs.Opens as Opens

pub doubled_masks : (l r : List ℕ) → length l ≡ 16 → length r ≡ 16 → AreMasks (doubled l r)
doubled_masks l r hl hr =
    record {
      left = λ i. length-doubles i l hl;
      right = λ i. length-doubles i r hr;
      if_short = λ b hb. length-triple (triple b) (length-triple b hb);
      if_full = λ b hb. length-seven b hb;
    }

pub third_masks : (u : List ℕ) → length u ≡ 16 → AreMasks (third u)
third_masks u h = doubled_masks u (triple u) h (length-triple u h)

pub first_masks : (d : List ℕ) → length d ≡ 16 → AreMasks (first d)
first_masks d h =
    let four : length (double (double d)) ≡ 16 = length-double (double d) (length-double d h) in
    record {
      left = λ i. length-doubles i (double (double d)) four;
      right = λ i. xor_sixteen (doubles i (double (double d))) d (length-doubles i (double (double d)) four) h;
      if_short = λ b hb. length-triple b hb;
      if_full = λ b hb. xor_sixteen (triple b) d (length-triple b hb) h;
    }

pub edition_masks : (f : Edition) (u : List ℕ) → length u ≡ 16 → AreMasks (masks_of f u)
edition_masks V1 u h = first_masks u h
edition_masks (V3 f) u h = third_masks u h

-- ---- what an edition makes of the nonce, and a form seals with
length-nonce_block : (f : Edition) (t : ℕ) (n : List ℕ) → length n ≤ 15 → length (nonce_block f t n) ≡ 16
length-nonce_block V1 t n h = length-pad n (omega arith)
length-nonce_block (V3 f) t n h = length-format t n h

length-first_mask : (f : Form) (v a : List ℕ) → length v ≡ 16 → length a ≡ 16 → length (first_mask f v a) ≡ 16
length-first_mask Parallel v a hv ha = hv
length-first_mask Serial v a hv ha = length-double (xor v a) (xor_sixteen v a hv ha)

length-into_tag : (f : Form) (a : List ℕ) → length a ≡ 16 → length (into_tag f a) ≡ 16
length-into_tag Parallel a h = h
length-into_tag Serial a h = length-zeros 16

-- with no data TA is zero: U is then E(nonce block), and in the serial form that doubled all the same (000, Fig. 3, EF-S, line 2)
abbrev pub doublings : Form → ℕ
doublings Parallel = 0
doublings Serial = 1

pub without_data : (E : List ℕ → List ℕ) (q : List ℕ) (f : Edition) (v : List ℕ) → length v ≡ 16
    → first_mask (form_in f) v (data_tag E q f []) ≡ doubles (doublings (form_in f)) v
unfolding ta doubles
without_data E q V1 v h = refl
without_data E q (V3 Parallel) v h = refl
without_data E q (V3 Serial) v h = ap double (xor-zeros v 16 (omega arith))

module _ (E : List ℕ → List ℕ) (e : IsCipher E) (q : List ℕ) (f : Edition) (nonce ad : List ℕ) (t : ℕ) (h : length (data_tag E q f ad) ≡ 16) where
  pub otr-masks : length nonce ≤ 15 → AreMasks (masks E q f nonce ad t)
  otr-masks hn =
      let v = E (nonce_block f t nonce) in
      edition_masks f (u E q f nonce ad t) (length-first_mask (form_in f) v (data_tag E q f ad) (e (nonce_block f t nonce) (length-nonce_block f t nonce hn)) h)

  pub length-added : length (added E q f nonce ad t) ≡ 16
  length-added = length-into_tag (form_in f) (data_tag E q f ad) h

-- the serial tag is the first t bytes of TE alone (000, Fig. 3, OTR-E, line 4)
pub serial_tag : (E : List ℕ → List ℕ) → IsCipher E → (q nonce ad : List ℕ) (t : ℕ) → length (data_tag E q (V3 Serial) ad) ≡ 16 → length nonce ≤ 15 → (m : List ℕ)
    → tag E (masks E q (V3 Serial) nonce ad t) (added E q (V3 Serial) nonce ad t) t m ≡ take t (te E (masks E q (V3 Serial) nonce ad t) m)
unfolding tag
serial_tag E e q nonce ad t h hn m =
    let k = masks E q (V3 Serial) nonce ad t in
    ap (take t) (xor-zeros (te E k m) 16 (omega (arith, Tag.length-te E e k (otr-masks E e q (V3 Serial) nonce ad t h hn) m)))

-- ---- the theorems, for whatever edition and form f are named
module _ (E : List ℕ → List ℕ) (e : IsCipher E) (q : List ℕ) (f : Edition) (nonce ad : List ℕ) (t : ℕ) (h : length (data_tag E q f ad) ≡ 16)
    (hn : length nonce ≤ 15) (ht : t ≤ 16) where
  abbrev k : Masks
  k = masks E q f nonce ad t

  abbrev a : List ℕ
  a = added E q f nonce ad t

  s : AreMasks k
  s = otr-masks E e q f nonce ad t h hn

  ha : length a ≡ 16
  ha = length-added E e q f nonce ad t h

  -- lengths: the ciphertext is as long as the message, the tag has t bytes, and so the whole
  pub otr-length-body : (m : List ℕ) → length (body E k m) ≡ length m
  otr-length-body = Walk.length-body E e k s

  pub otr-length-tag : (m : List ℕ) → length (tag E k a t m) ≡ t
  otr-length-tag = Tag.length-tag E e k s a t ha ht

  pub length-otr : (m : List ℕ) → length (otr_from E q f nonce ad t m) ≡ length m + t
  length-otr = Opens.length-sealed E e k s a ha t ht

  -- undoing after sealing, and sealing after undoing
  pub otr_undone : (m : List ℕ) → unbody E k (body E k m) ≡ m
  otr_undone = Walk.body_undone E e k s

  pub otr-sealed : (c : List ℕ) → body E k (unbody E k c) ≡ c
  otr-sealed = Walk.unbody-sealed E e k s

  -- opening
  pub otr_injective : (m n : List ℕ) → otr_from E q f nonce ad t m ≡ otr_from E q f nonce ad t n → m ≡ n
  otr_injective = Opens.injective E e k s a ha t ht

  pub otr_opens : (x : List ℕ) → t ≤ length x → Allowed (otr_from E q f nonce ad t) x (found_from E q f nonce ad t x)
  otr_opens = Opens.opens E e k s a ha t ht

  pub otr_opening : (x : List ℕ) → t ≤ length x → Opens.OneOrNone (otr_from E q f nonce ad t) x (found_from E q f nonce ad t x)
  otr_opening = Opens.opening E e k s a ha t ht

  pub otr_one_answer : (x : List ℕ) (o p : Opened) → Allowed (otr_from E q f nonce ad t) x o → Allowed (otr_from E q f nonce ad t) x p → o ≡ p
  otr_one_answer = Opens.one_answer E e k s a ha t ht

  pub otr_round_trip : (m : List ℕ) → found_from E q f nonce ad t (otr_from E q f nonce ad t m) ≡ accepted m
  otr_round_trip = Opens.round_trip E e k s a ha t ht
