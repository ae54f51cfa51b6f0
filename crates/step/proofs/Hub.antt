-- What the test of a hub asks for, of the bytes of a store, and what it answers.
-- Assumes nothing.
use Prim.Native.Nat.{ℕ, pred, ◌+◌, ◌≤◌, ◌<◌}
use mathlib.Core.Path.{◌≡◌}
use mathlib.Core.Bool.{true}
use mathlib.Core.List.{List}
use native.Mathlib.Omega.{arith}
use lib.ListN.{length}
use Rattle.command.specs.Code.{console_count}
use Rattle.room.specs.Sound.{max_capacity}
use Rattle.store.specs.Layout.{row_size, row_at, holds_store}
use Rattle.store.specs.Check.{common_in}
use Rattle.store.proofs.Whole.{whole_header, whole_block, whole_head, whole_common, whole_small, whole_hub}

module _ (s : List ℕ) (t : holds_store s ≡ true) where
  pub hub_row_fits : row_at (pred (common_in s 0 0)) + row_size ≤ length s
  hub_row_fits = omega (arith, whole_block s t _ (whole_head s t))

  pub hub_fields_small : (c d : ℕ) → c < console_count → d < c → common_in s c d ≤ max_capacity
  hub_fields_small c d l m = omega (arith, whole_common s t c d l (omega arith), whole_small s t)

-- what a proof about that test may take for granted
pub ruleset hub_asks = (whole_header, hub_row_fits, hub_fields_small, whole_hub)
