-- `pause::write::put_head_records` meets its contract. The loop's invariant is `Piled`: the head records before c are written.
use Prim.Native.Nat.{◌-◌}
use Rattle.command.specs.Code.{console_count}
use Rattle.pause.specs.Pieces.{head_pieces}
use Rattle.pause.proofs.Piled.{Piled}
use Rattle.pause.proofs.write.put_head_records.Given as goal

abbrev pub invariant-loop-c : goal.invariant-loop-c
invariant-loop-c l = Piled (head_pieces l.store) l.initial.tape l.from console_count l.c l.at l.tape

abbrev pub decreases-loop-c : goal.decreases-loop-c
decreases-loop-c l = console_count - l.c
