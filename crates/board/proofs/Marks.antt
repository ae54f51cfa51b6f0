-- Marks stay within their bits when they are merged, and are merged byte by byte; so those that a student sees are made of those that he sees.
-- Assumes nothing.
use Prim.Native.Nat.{ℕ, ◌+◌, ◌*◌, ◌/◌, ◌^◌, ◌≤◌, ◌<◌}
use mathlib.Core.Path.{◌≡◌, refl}
use mathlib.Core.Bool.{not, ◌||◌}
use native.Mathlib.Omega.{arith}
use borrow.Author.Tests.{eqb-true, le-leb}
use lib.Bits.{bit_and, bit_or, and_le_l, or_lt, and_block, or_block, or_mod}
use lib.Dec.{eqb, leb}
use Rattle.laws.proofs.Logic.{implies_e}
use Rattle.buffer.proofs.Fields.{cut}
use Rattle.graph.specs.Below.{every_below}
use Rattle.graph.proofs.Below.{at}
use Rattle.board.specs.Board.{mark_count, mark_bit, without, merge_marks}
use Rattle.board.specs.Pane.{first_unseen_mark, seen_marks}

pub marks_small : (k l a b : ℕ) → a < 2 ^ k → b < 2 ^ k → merge_marks l a b < 2 ^ k
marks_small k l a b p q =
    or_lt k (bit_or (bit_and a b) (without a l)) (without b l)
    (or_lt k (bit_and a b) (without a l) (omega (arith, and_le_l a b)) (omega arith)) (omega arith)

without_bytes : (a l x y : ℕ) → x < 256 → y < 256 → without (a * 256 + x) (l * 256 + y) ≡ without a l * 256 + without x y
without_bytes a l x y p q = rw (and_block 8 a l x y p q) (omega (arith, and_le_l a l, and_le_l x y))

-- the high bytes and the low bytes, each alone
pub marks_bytes : (l a b x y z : ℕ) → x < 256 → y < 256 → z < 256
    → merge_marks (l * 256 + x) (a * 256 + y) (b * 256 + z) ≡ merge_marks l a b * 256 + merge_marks x y z
marks_bytes l a b x y z p q r =
    rw (
      and_block 8 a b y z q r,
      without_bytes a l y x q p,
      without_bytes b l z x r p,
      or_block 8 (bit_and a b) (without a l) (bit_and y z) (without y x) (omega (arith, and_le_l y z)) (omega arith),
      or_block 8 (bit_or (bit_and a b) (without a l)) (without b l) (bit_or (bit_and y z) (without y x)) (without z x)
          (or_lt 8 (bit_and y z) (without y x) (omega (arith, and_le_l y z)) (omega arith)) (omega arith),
    )

-- marks 0 to 7 of what is merged, put or taken, and of what was written in 16 bits
seen_split : (x : ℕ) → x / 256 * 256 + seen_marks x ≡ x
seen_split x = omega arith

pub seen_merged : (l a b : ℕ) → seen_marks (merge_marks l a b) ≡ merge_marks (seen_marks l) (seen_marks a) (seen_marks b)
seen_merged l a b =
    let whole = rw (seen_split l, seen_split a, seen_split b) at
    (marks_bytes (l / 256) (a / 256) (b / 256) (seen_marks l) (seen_marks a) (seen_marks b) (omega arith) (omega arith) (omega arith)) in
    let small = marks_small 8 (seen_marks l) (seen_marks a) (seen_marks b) (omega arith) (omega arith) in
    omega (arith, whole, small)

pub seen_put : (a m : ℕ) → seen_marks (bit_or a m) ≡ bit_or (seen_marks a) (seen_marks m)
seen_put a m = or_mod a m 8

pub seen_taken : (a m : ℕ) → seen_marks (without a m) ≡ without (seen_marks a) (seen_marks m)
seen_taken a m =
    let whole = rw (seen_split a, seen_split m) at (without_bytes (a / 256) (m / 256) (seen_marks a) (seen_marks m) (omega arith) (omega arith)) in
    omega (arith, whole)

pub seen_cut : (x : ℕ) → seen_marks (cut x) ≡ seen_marks x
seen_cut x = omega arith

-- marks 8 to 15 have no bit there
pub unseen_bit : (x : ℕ) → first_unseen_mark ≤ x → x < mark_count → seen_marks (mark_bit x) ≡ 0
unfolding every_below
unseen_bit x low high =
    eqb-true _ _
    (implies_e (leb first_unseen_mark x) (eqb (seen_marks (mark_bit x)) 0)
    (at mark_count (λ y. not (leb first_unseen_mark y) || eqb (seen_marks (mark_bit y)) 0) refl x high) (le-leb first_unseen_mark x low))
