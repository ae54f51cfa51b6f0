-- `update::append::append_entry` meets its contract.
use native.Mathlib.Omega.{arith}
use Rattle.update.proofs.Appended.{entry_appended}
use Rattle.update.proofs.append.append_entry.Goals as goal

pub returns : goal.returns
returns c = let a = c.args in
    entry_appended a.s.now a.n.0 (omega arith) a.p.0 a.code a.strip.0 a.operand (omega arith) _ _ _ _
    c.put_node.ensures c.put_entry_row.ensures c.put_entry_board.ensures c.list_entry.ensures
