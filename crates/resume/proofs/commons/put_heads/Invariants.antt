-- `resume::commons::put_heads` meets its contract. The loop's invariant: the first `j` heads stand in the header.
use Rattle.resume.proofs.Along.{Heads}
use Rattle.resume.proofs.Reread.{Headed}
use Rattle.resume.proofs.commons.put_heads.Given as goal

abbrev pub invariant-loop-j : goal.invariant-loop-j
invariant-loop-j l = Heads l.tape (Headed l.header) l.j l.at
