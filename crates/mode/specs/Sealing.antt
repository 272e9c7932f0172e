-- What sealing gives: the ciphertext, and the tag behind it (source document 000, OTR-E in Fig. 1 and Fig. 3; source document 003, OTR-E
-- in Fig. 1).
use Rattle.std.specs.Prelude.{List, [], ◌∷◌, ◌++◌, ℕ, take}
use Rattle.lists.specs.Xor.{xor}
use Rattle.lists.specs.Zeros.{zeros}
use Rattle.block.specs.Block.{double}
use Rattle.mode.specs.Form.{Form, Parallel, Serial}
use Rattle.mode.specs.Edition.{Edition, form_in}
use Rattle.mode.specs.Masks.{Masks, masks_of}
use Rattle.mode.specs.Message.{body, te, body_inputs, te_input}
use Rattle.mode.specs.Data.{data_pass, ta, ta_inputs, q_inputs, with_data}
use Rattle.mode.specs.Nonce.{nonce_block}

-- over any cipher E, any masks k, and any a that goes into the tag: a tag of t bytes for the message m
module _ (E : List ℕ → List ℕ) (k : Masks) (a : List ℕ) (t : ℕ) where
  unfoldable pub tag : List ℕ → List ℕ
  tag m = take t (xor (te E k m) a)

  unfoldable pub sealed : List ℕ → List ℕ
  sealed m = body E k m ++ tag m

-- the blocks that this hands to the cipher, whatever a and t are
unfoldable pub sealed_inputs : (List ℕ → List ℕ) → Masks → List ℕ → List (List ℕ)
sealed_inputs E k m = body_inputs E k m ++ (te_input E k m ∷ [])

-- ---- what a form seals with, from v = E(nonce block) and a = TA
-- U, which v1 calls δ (000 and 003, Fig. 1, EF, line 2; 000, Fig. 3, EF-S, line 2)
abbrev pub first_mask : Form → List ℕ → List ℕ → List ℕ
first_mask Parallel v a = v
first_mask Serial v a = double (xor v a)

-- what is XORed into the tag (OTR-E, line 4): TA, or nothing, as the serial tag is of TE alone
abbrev pub into_tag : Form → List ℕ → List ℕ
into_tag Parallel a = a
into_tag Serial a = zeros 16

-- ---- AES-OTR as a call names it, f, over any cipher E and any first mask of the data pass, q
-- TA of the associated data
abbrev pub data_tag : (List ℕ → List ℕ) → List ℕ → Edition → List ℕ → List ℕ
data_tag E q f ad = ta E (data_pass E q f) ad

-- for edition and form, nonce, associated data and tag length: U, the masks, what goes into the tag, and what a message seals to
module _ (E : List ℕ → List ℕ) (q : List ℕ) (f : Edition) (nonce ad : List ℕ) (t : ℕ) where
  abbrev pub u : List ℕ
  u = first_mask (form_in f) (E (nonce_block f t nonce)) (data_tag E q f ad)

  abbrev pub masks : Masks
  masks = masks_of f u

  abbrev pub added : List ℕ
  added = into_tag (form_in f) (data_tag E q f ad)

  abbrev pub otr_from : List ℕ → List ℕ
  otr_from m = sealed E masks added t m

  -- the blocks that a call hands to the cipher before its message pass, and all those that sealing does, with q at hand
  abbrev pub call_inputs : List (List ℕ)
  call_inputs = nonce_block f t nonce ∷ ta_inputs E (data_pass E q f) ad

  abbrev pub from_inputs : List ℕ → List (List ℕ)
  from_inputs m = call_inputs ++ sealed_inputs E masks m

-- the same from a cipher alone: the first mask is E of the zero block, which is ciphered where there is data
module _ (E : List ℕ → List ℕ) (f : Edition) (nonce ad : List ℕ) (t : ℕ) where
  abbrev pub otr : List ℕ → List ℕ
  otr m = otr_from E (E (zeros 16)) f nonce ad t m

  abbrev pub otr_inputs : List ℕ → List (List ℕ)
  otr_inputs m = q_inputs (with_data ad) ++ from_inputs E (E (zeros 16)) f nonce ad t m
