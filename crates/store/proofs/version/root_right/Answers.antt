-- `store::version::root_right` meets its contract.
use mathlib.Core.Path.{ap, ap₂}
use mathlib.Core.Bool.{not, ◌&&◌}
use Rattle.store.specs.Check.{root_right}
use Rattle.store.proofs.version.root_right.Goals as goal

pub returns : goal.returns
unfolding root_right
returns c = ap₂ ◌&&◌
    (ap₂ ◌&&◌
    (ap₂ ◌&&◌ (rw c.block_at.ensures at c.zero_part.ensures) c.root_row_right.ensures)
    (rw c.board_at.ensures at c.zero_part-2.ensures))
    (ap not (rw c.entries_part.ensures.0 at c.has_member.ensures))
