-- `update::append::put_node` meets its contract.
use Rattle.store.specs.Layout.{node_size}
use Rattle.buffer.proofs.Patches.{put_lent}
use Rattle.update.specs.Append.{node_with}
use Rattle.update.proofs.Appended.{node_long}
use Rattle.update.proofs.append.put_node.Goals as goal

pub returns : goal.returns
returns c = let a = c.args in
    put_lent a.s.now _ (node_with a.node a.base.0) _ _ node_size
    c.block_at-at.ensures c.write_node.ensures (node_long a.node a.base.0)
