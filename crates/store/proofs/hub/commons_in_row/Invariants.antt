-- `store::hub::commons_in_row` meets its contract. The loop's invariant: those of the consoles before `c` are in the row.
use Prim.Native.Nat.{◌-◌}
use Rattle.graph.specs.Below.{every_below}
use Rattle.graph.proofs.Passing.{Passing}
use Rattle.command.specs.Code.{console_count}
use Rattle.store.specs.Check.{common_in_row}
use Rattle.store.proofs.hub.commons_in_row.Given as goal

abbrev pub invariant-loop-c : goal.invariant-loop-c
invariant-loop-c l = Passing console_count (λ k. every_below k (common_in_row l.header l.members k)) l.c

abbrev pub decreases-loop-c : goal.decreases-loop-c
decreases-loop-c l = console_count - l.c
