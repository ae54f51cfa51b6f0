-- `resume::commons::build_pairs` meets its contract. The loop's invariant: the pairs of the consoles before `c` are written.
use Prim.Native.Nat.{◌-◌}
use Rattle.command.specs.Code.{console_count}
use Rattle.resume.proofs.TableSteps.{Tabled}
use Rattle.resume.proofs.commons.build_pairs.Given as goal

abbrev pub invariant-loop-c : goal.invariant-loop-c
invariant-loop-c l = Tabled l.rows.0 l.initial.header l.c l.header l.ok

abbrev pub decreases-loop-c : goal.decreases-loop-c
decreases-loop-c l = console_count - l.c
