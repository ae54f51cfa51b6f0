-- The consoles one after the other: what a right one says of its head, and the versions behind the heads.
-- Assumes nothing.
use mathlib.Core.Path.{◌≡◌, refl}
use mathlib.Core.Bool.{true, cond}
use mathlib.Core.List.{List}
use Prim.Native.Nat.{ℕ, pred, ◌+◌, ◌≤◌, ◌<◌}
use native.Mathlib.Numerals.{add-one}
use lib.Dec.{eqb, leb}
use borrow.Author.Tests.{leb-true}
use Rattle.laws.proofs.Logic.{and_l}
use Rattle.buffer.specs.Field.{zeros}
use Rattle.buffer.specs.Row.{union}
use Rattle.graph.specs.Below.{every_below}
use Rattle.graph.proofs.Below.{at}
use Rattle.store.specs.Layout.{row_size}
use Rattle.store.specs.Check.{common_in, pair_right, console_right, behind_heads}

-- the heads of the consoles that are right are versions
pub heads_versions : (s : List ℕ) (n c : ℕ) → every_below c (console_right s n) ≡ true → (k : ℕ) → k < c → common_in s k k ≤ n
unfolding console_right
heads_versions s n c h k l =
    leb-true (common_in s k k) n (and_l (leb (common_in s k k) n) (every_below k (pair_right s n k)) (at c (console_right s n) h k l))

-- the versions behind the heads of one console more
module _ (s : List ℕ) (row_of : ℕ → List ℕ) where
  pub behind_none : zeros row_size ≡ behind_heads s row_of 0
  unfolding behind_heads
  behind_none = refl

  pub behind_more : (acc : List ℕ) (c field : ℕ) → acc ≡ behind_heads s row_of c → field ≡ common_in s c c
      → cond (eqb field 0) acc (union acc (row_of (pred field))) ≡ behind_heads s row_of (c + 1)
  unfolding behind_heads
  behind_more acc c field a f = rw (add-one c, a, f)
