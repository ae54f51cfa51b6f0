-- `store::consoles::console_right` meets its contract. The loop's invariant: the pairs of `c` with the consoles before `d` are right.
use Prim.Native.Nat.{◌-◌}
use Rattle.graph.proofs.Passing.{Passing}
use Rattle.store.specs.Check.{pair_right}
use Rattle.store.proofs.consoles.console_right.Given as goal

abbrev pub invariant-loop-d : goal.invariant-loop-d
invariant-loop-d l = Passing l.c.0 (pair_right l.s l.n l.c.0) l.d

abbrev pub decreases-loop-d : goal.decreases-loop-d
decreases-loop-d l = l.c.0 - l.d
