-- `resume::ranges::heads_in_range` meets its contract. The loop's invariant: the first `j` heads were read from the bytes and are in range, and `last` is the console of the last of them.
use Rattle.buffer.proofs.Parts.{Bytes}
use Rattle.resume.proofs.Along.{Heads}
use Rattle.resume.proofs.Passed.{Followed}
use Rattle.resume.proofs.ranges.heads_in_range.Given as goal

abbrev pub invariant-loop-j : goal.invariant-loop-j
invariant-loop-j l = Bytes l.bytes × Heads l.tape (Followed l.tape.versions l.last) l.j l.at
