-- `resume::commons::build_console` meets its contract. The loop's invariant: the pairs of `c` with the consoles before `d` are written.
use Prim.Native.Nat.{◌-◌}
use mathlib.Core.Path.{◌≡◌}
use Rattle.resume.proofs.TableSteps.{Paired}
use Rattle.resume.proofs.commons.build_console.Given as goal

abbrev pub invariant-loop-k : goal.invariant-loop-k
invariant-loop-k l = (l.k-end ≡ l.c.0) × Paired l.rows.0 l.initial.header l.c.0 l.k l.header l.ok

abbrev pub decreases-loop-k : goal.decreases-loop-k
decreases-loop-k l = l.k-end - l.k
