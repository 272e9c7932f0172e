-- The ciphertext is as long as the message, and sealing and undoing are inverse both ways: one argument, over the end that is put
-- behind the pairs. Assumes nothing.
use mathlib.Core.Path.{◌≡◌, refl, sym, ap, ap₂, ◌∙◌}
use mathlib.Core.Bool.{Bool, true, false}
use mathlib.Core.List.{List, ◌++◌}
use Prim.Native.Nat.{ℕ, ◌-◌, ◌*◌}
use native.Mathlib.Omega.{arith}
use lib.ListN.{length, drop, length-append, length-drop, take-append-drop}
use lib.Seq.{drop_at}
use Rattle.mode.specs.Masks.{Masks, IsCipher, AreMasks}
use Rattle.mode.specs.Message.{pairs_of, even, rest, pairs, ending, body}
use Rattle.mode.specs.Undoing.{swapped, unending, unbody}
use Rattle.mode.proofs.Counts.{pairs-within, even_rest, odd_rest, rest_most}
use Rattle.mode.proofs.Pairs.{swapped_masks, length_pairs, pairs_undone}
use Rattle.mode.proofs.Ends.{Remains, length-ending, length-unending, ending_undone, unending-sealed}

-- what remains behind the pairs is one block or two
pub remains : (m : List ℕ) → Remains (even (length m)) (rest m)
remains m = go (even (length m)) refl
  where
    long : length (rest m) ≡ length m - 32 * pairs_of (length m)
    long = length-drop (32 * pairs_of (length m)) m

    go : (t : Bool) → even (length m) ≡ t → Remains t (rest m)
    go true h =
        (omega (arith, long, even_rest (length m) h), omega (arith, long, rest_most (length m)))
    go false h = omega (arith, long, odd_rest (length m) h)

-- a string is walked through: the pairs, and an end behind them, made with the masks of pair n
abbrev walk : (List ℕ → List ℕ) → Masks → (Bool → ℕ → List ℕ → List ℕ) → List ℕ → List ℕ
walk E k f m = pairs E k (pairs_of (length m)) m ++ f (even (length m)) (pairs_of (length m)) (rest m)

module _ (E : List ℕ → List ℕ) (e : IsCipher E) (k : Masks) (s : AreMasks k) (f : Bool → ℕ → List ℕ → List ℕ)
    (f-long : (t : Bool) (n : ℕ) (x : List ℕ) → Remains t x → length (f t n x) ≡ length x) where
  walk_pairs : (m : List ℕ) → length (pairs E k (pairs_of (length m)) m) ≡ 32 * pairs_of (length m)
  walk_pairs m = length_pairs E e k s (pairs_of (length m)) m (pairs-within (length m))

  length_walk : (m : List ℕ) → length (walk E k f m) ≡ length m
  length_walk m =
      omega (
        arith,
        length-append (pairs E k (pairs_of (length m)) m) (f (even (length m)) (pairs_of (length m)) (rest m)),
        walk_pairs m,
        f-long (even (length m)) (pairs_of (length m)) (rest m) (remains m),
        length-drop (32 * pairs_of (length m)) m,
        pairs-within (length m),
      )

  walk_undone : (g : Bool → ℕ → List ℕ → List ℕ) → ((t : Bool) (n : ℕ) (x : List ℕ) → Remains t x → g t n (f t n x) ≡ x)
      → (m : List ℕ) → walk E (swapped k) g (walk E k f m) ≡ m
  walk_undone g back m =
      ap (λ (b : ℕ). pairs E (swapped k) (pairs_of b) w ++ g (even b) (pairs_of b) (drop (32 * pairs_of b) w)) (length_walk m)
      ∙ ap₂ ◌++◌ (pairs_undone E e k s n m end (pairs-within (length m)))
      (ap (g (even (length m)) n) (drop_at (pairs E k n m) end (32 * n) (walk_pairs m)) ∙ back (even (length m)) n (rest m) (remains m))
      ∙ take-append-drop (32 * n) m
    where
      n : ℕ
      n = pairs_of (length m)

      end : List ℕ
      end = f (even (length m)) n (rest m)

      w : List ℕ
      w = walk E k f m

-- ---- sealing, undoing
module _ (E : List ℕ → List ℕ) (e : IsCipher E) (k : Masks) (s : AreMasks k) where
  -- the ends, with the masks of pair n
  abbrev seal_end : Bool → ℕ → List ℕ → List ℕ
  seal_end t n x = ending E t (k.left n) (k.right n) x

  abbrev undo_end : Bool → ℕ → List ℕ → List ℕ
  undo_end t n x = unending E t (k.left n) (k.right n) x

  seal_long : (t : Bool) (n : ℕ) (x : List ℕ) → Remains t x → length (seal_end t n x) ≡ length x
  seal_long t n x h = length-ending E e (k.left n) (k.right n) (s.left n) (s.right n) t x h

  undo_long : (t : Bool) (n : ℕ) (x : List ℕ) → Remains t x → length (undo_end t n x) ≡ length x
  undo_long t n x h = length-unending E e (k.left n) (k.right n) (s.left n) (s.right n) t x h

  pub length-body : (m : List ℕ) → length (body E k m) ≡ length m
  unfolding body
  length-body = length_walk E e k s seal_end seal_long

  pub body_undone : (m : List ℕ) → unbody E k (body E k m) ≡ m
  unfolding body unbody
  body_undone =
      walk_undone E e k s seal_end seal_long undo_end
      (λ t n x h. ending_undone E e (k.left n) (k.right n) (s.left n) (s.right n) t x h)

  pub unbody-sealed : (c : List ℕ) → body E k (unbody E k c) ≡ c
  unfolding body unbody
  unbody-sealed =
      walk_undone E e (swapped k) (swapped_masks s) undo_end undo_long seal_end
      (λ t n x h. unending-sealed E e (k.left n) (k.right n) (s.left n) (s.right n) t x h)

  pub length-unbody : (c : List ℕ) → length (unbody E k c) ≡ length c
  length-unbody c = sym (length-body (unbody E k c)) ∙ ap length (unbody-sealed c)
