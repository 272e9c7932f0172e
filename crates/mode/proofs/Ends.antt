-- The last one or two blocks: their length, and that sealing and undoing them are inverse both ways. Assumes nothing.
use mathlib.Core.Path.{◌≡◌, refl, ap₂, ◌∙◌}
use mathlib.Core.Bool.{Bool, true, false}
use mathlib.Core.List.{List, ◌++◌}
use Prim.Native.Nat.{ℕ, ◌≤◌, ◌<◌}
use native.Mathlib.Omega.{arith}
use lib.ListN.{length, take, drop, length-append, length-drop, take-append-drop}
use lib.Seq.{length-take-le, take_at, drop_at}
use Rattle.lists.specs.Xor.{xor}
use Rattle.lists.proofs.Xor.{length-xor, xor_cancel}
use Rattle.block.specs.Block.{pad}
use Rattle.block.proofs.Blocks.{length-pad}
use Rattle.mode.specs.Masks.{IsCipher}
use Rattle.mode.specs.Message.{half, last, ending, end_sum}
use Rattle.mode.specs.Undoing.{first, unending, undone_sum}
use Rattle.mode.proofs.Pairs.{length-half, half-half}

-- what remains: a full block and 1 to 16 bytes, or up to 16 bytes
abbrev pub Remains : Bool → List ℕ → Type 0
Remains true x = (16 < length x) × (length x ≤ 32)
Remains false x = length x ≤ 16

-- as much remains of a string as of one as long
pub remains_same : (t : Bool) (x y : List ℕ) → length y ≡ length x → Remains t x → Remains t y
remains_same true x y e h = (omega arith, omega arith)
remains_same false x y e h = omega arith

module _ (E : List ℕ → List ℕ) (e : IsCipher E) (l r : List ℕ) (hl : length l ≡ 16) (hr : length r ≡ 16) where
  -- ---- two blocks, p and y
  module _ (p y : List ℕ) (hp : length p ≡ 16) (hy : length y ≤ 16) where
    -- a full block in front of y
    two_take : take 16 (p ++ y) ≡ p
    two_take = take_at p y 16 hp

    two_drop : drop 16 (p ++ y) ≡ y
    two_drop = drop_at p y 16 hp

    -- the last cipher block of p and y; and the other one, of a last cipher block and p
    length_last : length (half E l p y) ≡ length y
    length_last = length-half E e l p hl hp y hy

    length_other : length (half E r (pad y) p) ≡ 16
    length_other = length-half E e r (pad y) hr (length-pad y hy) p (omega arith) ∙ hp

    back_last : half E l p (half E l p y) ≡ y
    back_last = half-half E e l p hl hp y hy

    back_other : half E r (pad y) (half E r (pad y) p) ≡ p
    back_other = half-half E e r (pad y) hr (length-pad y hy) p (omega arith)

  module _ (x : List ℕ) (h : Remains true x) where
    first_full : length (take 16 x) ≡ 16
    first_full = length-take-le 16 x (omega arith)

    last_part : length (drop 16 x) ≤ 16
    last_part = omega (arith, length-drop 16 x)

    whole : take 16 x ++ drop 16 x ≡ x
    whole = take-append-drop 16 x

    -- sealing: q is the last cipher block
    q : List ℕ
    q = last E l x

    length_q : length q ≡ length (drop 16 x)
    unfolding q
    length_q = length_last (take 16 x) (drop 16 x) first_full last_part

    q_part : length q ≤ 16
    q_part = omega (arith, length_q, last_part)

    c : List ℕ
    c = half E r (pad q) (take 16 x)

    length_c : length c ≡ 16
    unfolding c
    length_c = length_other (take 16 x) q first_full q_part

    -- undoing: f is the first block
    f : List ℕ
    f = first E r x

    length_f : length f ≡ 16
    unfolding f
    length_f = length_other (take 16 x) (drop 16 x) first_full last_part

    g : List ℕ
    g = half E l f (drop 16 x)

    length_g : length g ≡ length (drop 16 x)
    unfolding g
    length_g = length_last f (drop 16 x) length_f last_part

    g_part : length g ≤ 16
    g_part = omega (arith, length_g, last_part)

    sealed_long : length (c ++ q) ≡ length x
    sealed_long = omega (arith, length-append c q, length_c, length_q, length-drop 16 x)

    undone_long : length (f ++ g) ≡ length x
    undone_long = omega (arith, length-append f g, length_f, length_g, length-drop 16 x)

    unseal_two : unending E true l r (c ++ q) ≡ x
    unfolding c q
    unseal_two =
        let ct = two_take c q length_c q_part in
        let cd = two_drop c q length_c q_part in
        let is_first : first E r (c ++ q) ≡ take 16 x =
        ap₂ (λ (a b : List ℕ). half E r (pad a) b) cd ct ∙ back_other (take 16 x) q first_full q_part in
        ap₂ ◌++◌ is_first
        (ap₂ (half E l) is_first cd ∙ back_last (take 16 x) (drop 16 x) first_full last_part)
        ∙ whole

    -- the last cipher block of what was recovered
    last_again : last E l (f ++ g) ≡ drop 16 x
    unfolding f g
    last_again =
        ap₂ (half E l) (two_take f g length_f g_part) (two_drop f g length_f g_part) ∙ back_last f (drop 16 x) length_f last_part

    pub first_undone : take 16 (unending E true l r x) ≡ first E r x
    unfolding f g
    first_undone = two_take f g length_f g_part

    sum_two : end_sum E true l (f ++ g) ≡ undone_sum E true l r x
    unfolding f g
    sum_two = ap₂ (λ (a b : List ℕ). xor (E (xor l a)) (pad b)) (two_take f g length_f g_part) last_again

    seal_two_lem : ending E true l r (f ++ g) ≡ x
    unfolding f g
    seal_two_lem =
        ap₂ ◌++◌
        (ap₂ (λ (a b : List ℕ). half E r (pad a) b) last_again (two_take f g length_f g_part)
        ∙ back_other (take 16 x) (drop 16 x) first_full last_part)
        last_again
        ∙ whole

  -- ---- one block
  one_long : (x : List ℕ) → length x ≤ 16 → length (xor x (E l)) ≡ length x
  one_long x h = omega (arith, length-xor x (E l), e l hl)

  one_undone : (x : List ℕ) → length x ≤ 16 → xor (xor x (E l)) (E l) ≡ x
  one_undone x h = xor_cancel x (E l) (omega (arith, e l hl))

  -- ---- either
  pub length-ending : (t : Bool) (x : List ℕ) → Remains t x → length (ending E t l r x) ≡ length x
  unfolding c q
  length-ending true x h = sealed_long x h
  length-ending false x h = one_long x h

  pub length-unending : (t : Bool) (x : List ℕ) → Remains t x → length (unending E t l r x) ≡ length x
  unfolding f g
  length-unending true x h = undone_long x h
  length-unending false x h = one_long x h

  pub ending_undone : (t : Bool) (x : List ℕ) → Remains t x → unending E t l r (ending E t l r x) ≡ x
  unfolding c q
  ending_undone true x h = unseal_two x h
  ending_undone false x h = one_undone x h

  pub unending-sealed : (t : Bool) (x : List ℕ) → Remains t x → ending E t l r (unending E t l r x) ≡ x
  unfolding f g
  unending-sealed true x h = seal_two_lem x h
  unending-sealed false x h = one_undone x h

  pub undone_sum_lem : (t : Bool) (x : List ℕ) → Remains t x → end_sum E t l (unending E t l r x) ≡ undone_sum E t l r x
  unfolding f g
  undone_sum_lem true x h = sum_two x h
  undone_sum_lem false x h = refl
