-- `update::append::append_merge` meets its contract.
use native.Mathlib.Omega.{arith}
use Rattle.update.proofs.Appended.{merge_appended}
use Rattle.update.proofs.append.append_merge.Goals as goal

pub returns : goal.returns
returns c = let a = c.args in
    merge_appended a.s.now a.n.0 (omega arith) a.p.0 a.q.0 a.l.0 (omega arith) (omega arith) (omega arith) _ _ _ _
    c.put_node.ensures c.put_merge_row.ensures c.put_merge_board.ensures
