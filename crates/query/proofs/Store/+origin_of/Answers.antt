-- `query::Store::origin_of` meets its contract: the version that the walk goes on with is a lower one.
use native.Mathlib.Omega.{arith}
use Rattle.query.proofs.Origins.{walk_falls}
use Rattle.query.proofs.Store.+origin_of.Goals as goal

pub origin_of-requires : goal.origin_of-requires
origin_of-requires t c =
    let node = c.read_node-node in
    let falls = walk_falls _ c.self.invariant _ _ node.ensures (omega arith) (rw c.self.view_is c.requires.0) c.args.cell c.args.strip.0 in
    let less = rw c.self.view_is at falls in
    (omega arith, (omega arith, c.requires.1))
