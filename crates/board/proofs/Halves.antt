-- Strips after an entry on one of them, judged by halves: the half without the strip is as before, the other is as the entry makes it.
-- Assumes nothing.
use Prim.Native.Nat.{ℕ, zero, suc, ◌+◌, ◌-◌, ◌*◌, ◌<◌}
use mathlib.Core.Path.{◌≡◌, refl, sym, ap, ◌∙◌}
use mathlib.Core.Bool.{Bool, ◌&&◌, and_comm}
use mathlib.Core.List.{List, [], ◌++◌, append-nil}
use native.Mathlib.Nat.{zero-add}
use native.Mathlib.Omega.{arith}
use lib.ListN.{length, take, drop, take-append-drop, length-drop}
use lib.Seq.{take_all}
use Rattle.buffer.specs.Field.{part, same}
use Rattle.buffer.proofs.Compare.{same_append}
use Rattle.buffer.proofs.Fields.{part_length}
use Rattle.board.specs.Board.{strip_size, enter}
use Rattle.board.proofs.Length.{enter_length}
use Rattle.board.proofs.Entries.{enter_placed}

-- a list is its two halves
two_halves : (s : List ℕ) (w : ℕ) → length s ≡ w + w → part s 0 w ++ part s w w ≡ s
two_halves s w long =
    ap (λ (t : List ℕ). take w s ++ t) (take_all w (drop w s) (rw length-drop (omega arith))) ∙ take-append-drop w s

-- t is two halves of m strips each, s the same strips after an entry
module _ (code x m : ℕ) (s t : List ℕ) (after : length s ≡ strip_size * m + strip_size * m) (before : length t ≡ strip_size * m + strip_size * m) where
  abbrev w : ℕ
  w = strip_size * m

  -- the half at one place is as an entry on its strip i makes it, the half at the other is as before
  abbrev by_halves : ℕ → ℕ → ℕ → Bool
  by_halves own other i = same (part s own w) (enter code i x (part t own w)) && same (part s other w) (part t other w)

  first : length (part t 0 w) ≡ w
  first = part_length t 0 w (omega arith)

  seam : length (part s 0 w) ≡ length (part t 0 w)
  seam = part_length s 0 w (omega arith) ∙ sym first

  of_halves : (k : ℕ) → same s (enter code k x t) ≡ same (part s 0 w ++ part s w w) (enter code k x (part t 0 w ++ part t w w))
  of_halves k = rw (two_halves s w after, two_halves t w before)

  in_first : (i : ℕ) → i < m → same s (enter code i x t) ≡ by_halves 0 w i
  in_first i l =
      of_halves i
      ∙ ap (same (part s 0 w ++ part s w w)) (rw zero-add at (enter_placed [] (part t w w) 0 refl (part t 0 w) i code x (omega (arith, first))))
      ∙ same_append (part s 0 w) (enter code i x (part t 0 w)) (part s w w) (part t w w) (seam ∙ sym (enter_length code i x (part t 0 w)))

  in_second : (i : ℕ) → i < m → same s (enter code (m + i) x t) ≡ by_halves w 0 i
  in_second i l =
      let second = part_length t w w (omega arith) in
      of_halves (m + i)
      ∙ ap (same (part s 0 w ++ part s w w)) (simp append-nil at (enter_placed (part t 0 w) [] m first (part t w w) i code x (omega arith)))
      ∙ same_append (part s 0 w) (part t 0 w) (part s w w) (enter code i x (part t w w)) seam
      ∙ and_comm (same (part s 0 w) (part t 0 w)) (same (part s w w) (enter code i x (part t w w)))

  -- strip k is strip i of half j: the whole is right exactly where both halves are
  pub halved : (k j i : ℕ) → j < 2 → i < m → m * j + i ≡ k → same s (enter code k x t) ≡ by_halves (w * j) (w - w * j) i
  halved k zero i h l e =
      let k-is : k ≡ i = omega arith in
      let own : w * 0 ≡ 0 = omega arith in
      let other : w - 0 ≡ w = omega arith in
      rw (k-is, own, other) (in_first i l)
  halved k (suc zero) i h l e =
      let k-is : k ≡ m + i = omega arith in
      let own : w * 1 ≡ w = omega arith in
      let other : w - w ≡ 0 = omega arith in
      rw (k-is, own, other) (in_second i l)
  halved k (suc (suc j)) i h l e = absurd (omega arith)
