-- `store::version::versions_right` meets its contract. The loop's invariant: the versions up to `k` are right. The measure is what is left of them.
use Prim.Native.Nat.{◌-◌}
use Rattle.store.proofs.VersionTests.{Passed}
use Rattle.store.proofs.version.versions_right.Given as goal

abbrev pub invariant-loop-k : goal.invariant-loop-k
invariant-loop-k l = Passed l.blocks.bytes.now l.n l.k

abbrev pub decreases-loop-k : goal.decreases-loop-k
decreases-loop-k l = l.n - l.k
