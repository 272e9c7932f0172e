-- Masks as the loop over the pairs carries them.
use Rattle.std.specs.Prelude.{◌≡◌, List, ℕ, suc}
use Rattle.lists.specs.Xor.{xor}
use Rattle.block.specs.Block.{double}
use Rattle.mode.specs.Masks.{Masks}

-- a sequence that begins with x, and goes on from each block to that doubled, with a XORed in
abbrev pub Steps : (ℕ → List ℕ) → List ℕ → List ℕ → Type 0
Steps s x a = (s 0 ≡ x) × ((i : ℕ) → s (suc i) ≡ xor (double (s i)) a)

-- masks that begin with l and r, and have a and b XORed in at each step
abbrev pub Carries : Masks → List ℕ → List ℕ → List ℕ → List ℕ → Type 0
Carries k l a r b = Steps k.left l a × Steps k.right r b
