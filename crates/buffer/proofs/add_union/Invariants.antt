-- `buffer::add_union` meets its contract. The loop's invariant: the bytes before `i` have been written over with those of the union.
use Rattle.buffer.specs.Row.{union}
use Rattle.buffer.proofs.Written.{Written}
use Rattle.buffer.proofs.add_union.Given as goal

abbrev pub invariant-loop-i : goal.invariant-loop-i
invariant-loop-i l = Written l.initial.dst (union l.initial.dst l.src) l.i l.dst
