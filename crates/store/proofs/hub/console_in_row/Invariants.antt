-- `store::hub::console_in_row` meets its contract. The loop's invariant: those with the consoles before `d` are in the row.
use Prim.Native.Nat.{◌-◌}
use mathlib.Core.Path.{◌≡◌}
use Rattle.graph.proofs.Passing.{Passing}
use Rattle.store.specs.Check.{common_in_row}
use Rattle.store.proofs.hub.console_in_row.Given as goal

abbrev pub invariant-loop-d : goal.invariant-loop-d
invariant-loop-d l = (l.d-end ≡ l.c.0) × Passing l.c.0 (common_in_row l.header l.members l.c.0) l.d

abbrev pub decreases-loop-d : goal.decreases-loop-d
decreases-loop-d l = l.d-end - l.d
