-- `board::is_half_entered` meets its contract. The quarter with the strip is made and compared.
use Prim.Native.Nat.{◌/◌, ◌%◌}
use native.Mathlib.Omega.{arith}
use Rattle.board.proofs.Halves.{halved}
use Rattle.board.proofs.is_half_entered.Goals as goal

pub returns : goal.returns
returns c = let a = c.args in
    let k = a.strip.0 in
    let halves = halved a.code a.operand 8 a.half.now a.parent.now (omega arith) (omega arith) k (k / 8) (k % 8) (omega arith) (omega arith) (omega arith) in
    cc
