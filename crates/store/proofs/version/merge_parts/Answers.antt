-- `store::version::merge_parts` meets its contract.
use Prim.Native.Nat.{◌+◌}
use mathlib.Core.Path.{◌≡◌, ap, ap₂}
use mathlib.Core.Bool.{not, ◌&&◌}
use Rattle.store.specs.Layout.{node_base_at}
use Rattle.store.specs.Check.{merge_parts}
use native.Mathlib.Omega.{arith}
use Rattle.store.proofs.version.merge_parts.Goals as goal

pub returns : goal.returns
unfolding merge_parts
returns c = let rest : c.block_at-at.result + 10 ≡ node_base_at c.args.v.0 + 2 = omega arith in
    ap₂ ◌&&◌
    (ap₂ ◌&&◌
    (ap₂ ◌&&◌ (ap₂ ◌&&◌ (rw c.block_at-at.ensures at c.zero_part.ensures) (rw rest at c.zero_part-2.ensures)) c.merge_rows_right.ensures)
    c.merge_board_right.ensures)
    (ap not (rw c.entries_part.ensures.0 at c.has_member.ensures))
