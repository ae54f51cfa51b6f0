-- `resume::rows::highest_common` meets its contract. The loop's invariant: the rows share no member from word `k` on.
use Prim.Native.Nat.{◌*◌}
use Rattle.resume.proofs.Highest.{NoneAbove}
use Rattle.resume.proofs.rows.highest_common.Given as goal

abbrev pub invariant-loop-k : goal.invariant-loop-k
invariant-loop-k l = NoneAbove l.p l.q (8 * l.k)

abbrev pub decreases-loop-k : goal.decreases-loop-k
decreases-loop-k l = l.k
