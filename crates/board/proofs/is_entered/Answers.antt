-- `board::is_entered` meets its contract. The half with the strip is judged by its quarters.
use Prim.Native.Nat.{◌/◌, ◌%◌}
use native.Mathlib.Omega.{arith}
use Rattle.board.proofs.Halves.{halved}
use Rattle.board.proofs.is_entered.Goals as goal

pub returns : goal.returns
returns c = let a = c.args in
    let k = a.strip.0 in
    let halves = halved a.code a.operand 16 a.board.now a.parent.now (omega arith) (omega arith) k (k / 16) (k % 16) (omega arith) (omega arith) (omega arith) in
    cc
