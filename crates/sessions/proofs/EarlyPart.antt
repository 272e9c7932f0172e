-- Document 02, wish 12, for a sealer in parts: what has come out after n bytes fed depends on the first 32·(⌈n/32⌉ − 1) of them and on the
-- settings alone, and tells these bytes apart, exactly. For any cipher, then for AES. Assumes nothing.
use mathlib.Core.Path.{◌≡◌, sym, ap, ◌∙◌}
use mathlib.Core.Logic.{◌↔◌, inl, inr}
use mathlib.Core.List.{List}
use Prim.Native.Nat.{ℕ, ◌+◌}
use native.Mathlib.Omega.{arith}
use lib.ListN.{length, take}
use Rattle.lists.specs.Zeros.{zeros}
use Rattle.aes.specs.Cipher.{cipher}
use Rattle.aes.specs.Key.{expanded}
use Rattle.mode.specs.Form.{form_of}
use Rattle.mode.specs.declared.edition.Edition.{Edition}
use Rattle.mode.specs.declared.edition.Edition.TheVariants.{V3}
use Rattle.mode.specs.Masks.{Masks, IsCipher}
use Rattle.mode.specs.Message.{pairs_of, pairs}
use Rattle.mode.specs.Sealing.{masks, otr, otr_inputs}
use Rattle.mode.specs.EarlyPart.{early}
use Rattle.mode.proofs.Editions.{is_parallel}
use Rattle.mode.proofs.EarlyPart.{renamed, fed_tell, parallel_masks}
use Rattle.pairs.proofs.Cipher.{is_cipher}
use Rattle.link.specs.Answers.{runs_of}
use Rattle.sealer.specs.Promises.{keyed, beginning}
use Rattle.sessions.specs.Sessions.{out_after, Came, goes_on, has_ended, Running, Alike, EarlyPart}
use Rattle.sessions.proofs.Sessions.{out_is, are, out_front, any_session}

module _ (C : ℕ → List ℕ → List ℕ → List ℕ) (ciphers : (nr : ℕ) (w : List ℕ) → IsCipher (C nr w)) (form : ℕ) (key nonce : List ℕ) (t : ℕ) where
  abbrev E : List ℕ → List ℕ
  E = keyed C key

  e : IsCipher E
  e = ciphers (expanded key).rounds (expanded key).words

  abbrev f : Edition
  f = V3 (form_of form)

  -- the masks that the data give
  abbrev k : List ℕ → Masks
  k ad = masks E (E (zeros 16)) f nonce ad t

  -- what has come out is the pairs of what was taken in
  out_pairs : (ad m o : List ℕ) → Running C form key nonce ad t m o → o ≡ pairs E (k ad) (pairs_of (length m)) m
  out_pairs ad m o h = go (any_session C ciphers form key nonce ad t h.begun m o h.runs h.now h.calls)
    where
      go : Came (otr E f nonce ad t) (λ n. length (otr_inputs E f nonce ad t n)) m o (runs_of (beginning C form key nonce ad t).answer + h.runs) h.now
          → o ≡ pairs E (k ad) (pairs_of (length m)) m
      go (goes_on still long front) = front ∙ out_front C ciphers form key nonce ad t h.begun m
      go (has_ended is all runs) = absurd (let going = h.going in let z : ◌≡◌ {A = ℕ} 0 1 = cc in omega arith)

  masks_alike : (ad ad' : List ℕ) → Alike form ad ad' → k ad ≡ k ad'
  masks_alike ad ad' (inl h) = parallel_masks E (E (zeros 16)) (E (zeros 16)) f (is_parallel form h) nonce ad ad' t
  masks_alike ad ad' (inr h) = ap k h

  pub any_early : EarlyPart C form key nonce t
  any_early ad ad' m m' o o' alike h h' =
      let n' = pairs_of (length m') in
      let same-masks = ap (λ (l : Masks). pairs E l n' m') (sym (masks_alike ad ad' alike)) in
      let tell : (o ≡ o') ↔ (early (pairs_of (length m)) m ≡ early n' m') =
      renamed (out_pairs ad m o h) (out_pairs ad' m' o' h' ∙ same-masks) (fed_tell E e (k ad) (are C ciphers form key nonce ad t h.begun) m m') in
      let at : take (out_after (length m)) m ≡ early (pairs_of (length m)) m = ap (λ (i : ℕ). take i m) (out_is (length m)) in
      let at' : take (out_after (length m')) m' ≡ early n' m' = ap (λ (i : ℕ). take i m') (out_is (length m')) in
      (λ same. at ∙ tell.0 same ∙ sym at', λ same. tell.1 (sym at ∙ same ∙ at'))

pub session_early : (form : ℕ) (key nonce : List ℕ) (t : ℕ) → EarlyPart cipher form key nonce t
session_early = any_early cipher is_cipher
