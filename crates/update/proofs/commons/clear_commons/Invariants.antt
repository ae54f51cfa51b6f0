-- `update::commons::clear_commons` meets its contract. The loop's invariant: the fields of the consoles before `k` are written.
use Prim.Native.Nat.{ℕ, ◌-◌}
use Rattle.command.specs.Code.{console_count}
use Rattle.update.proofs.CommonsTable.{Others}
use Rattle.update.proofs.commons.clear_commons.Given as goal

abbrev pub invariant-loop-k : goal.invariant-loop-k
invariant-loop-k l = Others l.initial.s l.c.0 (λ (k : ℕ). 0) l.k l.s

abbrev pub decreases-loop-k : goal.decreases-loop-k
decreases-loop-k l = console_count - l.k
