-- `store::consoles::has_all_below` meets its contract. The loop's invariant: the bytes before `k` have been compared with those of the full row.
use Prim.Native.Nat.{◌-◌}
use lib.Dec.{ltb}
use Rattle.buffer.specs.Row.{row}
use Rattle.buffer.proofs.Accumulate.{Compared}
use Rattle.store.specs.Layout.{row_size}
use Rattle.store.proofs.consoles.has_all_below.Given as goal

abbrev pub invariant-loop-k : goal.invariant-loop-k
invariant-loop-k l = Compared l.acc (row (λ v. ltb v l.n) row_size) l.wrong l.k

abbrev pub decreases-loop-k : goal.decreases-loop-k
decreases-loop-k l = row_size - l.k
