-- `buffer::copy` meets its contract. The loop's invariant: the bytes before `i` have been written over.
use Rattle.buffer.proofs.Written.{Written}
use Rattle.buffer.proofs.copy.Given as goal

abbrev pub invariant-loop-i : goal.invariant-loop-i
invariant-loop-i l = Written l.initial.dst l.src l.i l.dst
