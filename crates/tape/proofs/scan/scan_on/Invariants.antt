-- `tape::scan::scan_on` meets its contract. The loop's invariant is `Scanning`, the measure what is left of the tape.
use Prim.Native.Nat.{◌-◌}
use lib.ListN.{length}
use Rattle.tape.proofs.Scans.{Scanning}
use Rattle.tape.proofs.scan.scan_on.Given as goal

abbrev pub invariant-loop-at : goal.invariant-loop-at
invariant-loop-at l = Scanning l.tape l.start l.initial.so_far l.at l.versions l.heads l.so_far

abbrev pub decreases-loop-at : goal.decreases-loop-at
decreases-loop-at l = length l.tape - l.at
