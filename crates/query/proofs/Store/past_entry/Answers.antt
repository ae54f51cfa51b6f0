-- `query::Store::past_entry` meets its contract.
use mathlib.Core.Path.{sym, ◌∙◌}
use native.Mathlib.Omega.{arith}
use Rattle.query.proofs.Origins.{walk_past}
use Rattle.query.proofs.Store.past_entry.Goals as goal

pub returns : goal.returns
returns c = rw (← c.self.view_is) (walk_past _ c.self.invariant _ _ c.read_node-node.ensures (omega arith) (rw c.self.view_is c.requires) _ _ _ _ c.in-Entry.is _ _ (sym c.writes_cell.ensures ∙ c.if-writes_cell.false))
