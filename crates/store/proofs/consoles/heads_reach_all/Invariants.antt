-- `store::consoles::heads_reach_all` meets its contract. The loop's invariant: `acc` has the versions behind the heads of the consoles before `c`.
use mathlib.Core.Path.{◌≡◌}
use lib.ListN.{length}
use Rattle.store.specs.Layout.{row_size}
use Rattle.store.specs.Check.{behind_heads}
use Rattle.store.specs.Rows.{row_of}
use Rattle.store.proofs.consoles.heads_reach_all.Given as goal

abbrev pub invariant-loop-c : goal.invariant-loop-c
invariant-loop-c l = (length l.acc ≡ row_size) × (l.acc ≡ behind_heads l.header (row_of l.rows) l.c)
