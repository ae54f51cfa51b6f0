-- `update::append::put_parent_board` meets its contract.
use native.Mathlib.Omega.{arith}
use Rattle.update.proofs.Appended.{parent_put}
use Rattle.update.proofs.append.put_parent_board.Goals as goal

pub returns : goal.returns
returns c = let a = c.args in
    parent_put a.s.now a.n.0 a.p.0 (omega arith) (omega arith) cc
