-- `resume::soundness::build_rows` meets its contract. The loop's invariant: the rows of the first `k` versions were written, and `based` says whether each merge among them has a base.
use Rattle.resume.proofs.Along.{Versions}
use Rattle.resume.proofs.Reread.{Rowed}
use Rattle.resume.proofs.soundness.build_rows.Given as goal

abbrev pub invariant-loop-k : goal.invariant-loop-k
invariant-loop-k l = Versions l.tape (Rowed l.rows.0 l.based) l.k l.at
