-- `update::append::append_version` meets its contract.
use native.Mathlib.Omega.{arith}
use Rattle.store.proofs.VersionTests.{merge_ranged}
use Rattle.update.proofs.Appended.{merge_appended}
use Rattle.update.proofs.append.append_version.Goals as goal

pub returns-in-Merge : goal.returns-in-Merge
returns-in-Merge c = let a = c.args in
    let n = c.in-Merge in
    let lower = merge_ranged n.is c.requires.node_value.0 in
    rw n.is
    (merge_appended a.s.now a.n.0 (omega arith) n.receiver.0 n.giver.0 a.base.0 lower.0 lower.1 (omega arith) _ _ _ _
    c.put_node.ensures c.put_merge_row.ensures c.put_merge_board.ensures).0
