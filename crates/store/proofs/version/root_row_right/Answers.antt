-- `store::version::root_row_right` meets its contract.
use Rattle.store.proofs.version.root_row_right.Goals as goal

pub returns : goal.returns
returns c = rw c.row.ensures.0 at c.is_extended.ensures
