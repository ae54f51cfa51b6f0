-- `pause::write::put_version_records` meets its contract. The loop's invariant is `Piled`: the first k records are written.
use Prim.Native.Nat.{◌+◌, ◌-◌}
use Rattle.pause.specs.Pieces.{version_pieces}
use Rattle.pause.proofs.Piled.{Piled}
use Rattle.pause.proofs.write.put_version_records.Given as goal

abbrev pub invariant-loop-k : goal.invariant-loop-k
invariant-loop-k l = Piled (version_pieces l.s) l.initial.tape l.from l.n (l.k - 1) l.at l.tape

abbrev pub decreases-loop-k : goal.decreases-loop-k
decreases-loop-k l = l.n + 1 - l.k
