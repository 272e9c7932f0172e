-- AES under an expanded key is a cipher in the mode's sense, and TA under it has 16 bytes whatever the first mask is. Assumes nothing.
use mathlib.Core.Path.{◌≡◌, refl}
use mathlib.Core.List.{List}
use Prim.Native.Nat.{ℕ}
use lib.ListN.{length}
use Rattle.aes.specs.Cipher.{cipher}
use Rattle.mode.specs.declared.edition.Edition.{Edition}
use Rattle.mode.specs.Masks.{IsCipher}
use Rattle.mode.specs.Sealing.{data_tag}
use Rattle.mode.proofs.Data.{ciphered_data_tag}

module _ (nr : ℕ) (w : List ℕ) where
  length-cipher : (x : List ℕ) → length (cipher nr w x) ≡ 16
  unfolding cipher
  length-cipher x = refl

  pub is_cipher : IsCipher (cipher nr w)
  is_cipher x h = length-cipher x

  pub length-ta : (q : List ℕ) (f : Edition) (a : List ℕ) → length (data_tag (cipher nr w) q f a) ≡ 16
  length-ta = ciphered_data_tag (cipher nr w) length-cipher
