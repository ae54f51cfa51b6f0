-- How many clashes a merge counts: on a strip at most 2, on a board at most 64, and as many as there are cells that clash.
-- Assumes nothing.
use Prim.Native.Nat.{ℕ, zero, suc, ◌+◌, ◌*◌, ◌≤◌}
use mathlib.Core.Path.{◌≡◌, refl}
use mathlib.Core.Bool.{Bool, true, false, cond, not, ◌&&◌}
use mathlib.Core.List.{List}
use native.Mathlib.Omega.{arith}
use lib.Dec.{eqb}
use Rattle.laws.proofs.Logic.{and_l, not_e, cond_false}
use Rattle.buffer.specs.Row.{bit}
use Rattle.buffer.proofs.Rows.{bit_le}
use Rattle.graph.specs.Below.{count_below}
use Rattle.board.specs.declared.Cell.TheVariants.{Level, Heading}
use Rattle.board.specs.Board.{strip_count, merge_value, merge_cell, merge_strip, merge_strips, merge_board}

pub strip_clashes : (l a b : List ℕ) (k : ℕ) → (merge_strip l a b k).clashes ≤ 2
unfolding merge_strip
strip_clashes l a b k =
    let level = bit_le (merge_cell Level k l a b).clash in
    let heading = bit_le (merge_cell Heading k l a b).clash in
    omega arith

pub strips_clashes : (l a b : List ℕ) (n : ℕ) → (merge_strips l a b n).clashes ≤ 2 * n
unfolding merge_strips
strips_clashes l a b zero = omega arith
strips_clashes l a b (suc n) = omega (arith, strips_clashes l a b n, strip_clashes l a b n)

-- "0 to 64"
pub board_clashes : (l a b : List ℕ) → (merge_board l a b).clashes ≤ 64
board_clashes l a b = strips_clashes l a b strip_count

-- two cells more, counted together and apart
two_more : (s t : Bool) (m x y : ℕ) → m ≡ x + y → m + (bit s + bit t) ≡ (x + cond s 1 0) + (y + cond t 1 0)
two_more true true m x y e = omega (arith, e)
two_more true false m x y e = omega (arith, e)
two_more false true m x y e = omega (arith, e)
two_more false false m x y e = omega (arith, e)

-- strip by strip, as many levels and headings as clash
strips_counted : (l a b : List ℕ) (n : ℕ)
    → (merge_strips l a b n).clashes ≡ count_below n (λ k. (merge_cell Level k l a b).clash) + count_below n (λ k. (merge_cell Heading k l a b).clash)
unfolding merge_strips merge_strip count_below
strips_counted l a b zero = refl
strips_counted l a b (suc n) = two_more (merge_cell Level n l a b).clash (merge_cell Heading n l a b).clash _ _ _ (strips_counted l a b n)

pub board_counted : (l a b : List ℕ)
    → (merge_board l a b).clashes ≡ count_below strip_count (λ k. (merge_cell Level k l a b).clash) + count_below strip_count (λ k. (merge_cell Heading k l a b).clash)
board_counted l a b = strips_counted l a b strip_count

-- "So the receiver's value stays where all three differ."
pub clash_keeps : (l a b : ℕ) → (merge_value l a b).clash ≡ true → (merge_value l a b).value ≡ a
clash_keeps l a b h =
    let apart = and_l (not (eqb a l)) (not (eqb b l)) (and_l (not (eqb a l) && not (eqb b l)) (not (eqb a b)) h) in
    cond_false (eqb a l) b a (not_e (eqb a l) apart)
