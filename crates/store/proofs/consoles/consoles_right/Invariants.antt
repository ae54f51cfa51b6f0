-- `store::consoles::consoles_right` meets its contract. The loop's invariant: the consoles before `c` are right, so that their heads are versions.
use Prim.Native.Nat.{◌-◌}
use Rattle.graph.proofs.Passing.{Passing}
use Rattle.command.specs.Code.{console_count}
use Rattle.store.specs.Check.{console_right}
use Rattle.store.proofs.consoles.consoles_right.Given as goal

abbrev pub invariant-loop-c : goal.invariant-loop-c
invariant-loop-c l = Passing console_count (console_right l.s l.n) l.c

abbrev pub decreases-loop-c : goal.decreases-loop-c
decreases-loop-c l = console_count - l.c
