-- `resume::writing::write_store` meets its contract. The loop's invariant: the first `k` versions of the tape were written into the fresh store.
use Rattle.resume.proofs.Along.{Versions}
use Rattle.resume.proofs.VersionsWritten.{Built}
use Rattle.resume.proofs.writing.write_store.Given as goal

abbrev pub invariant-loop-k : goal.invariant-loop-k
invariant-loop-k l = Versions l.tape (Built l.initial.store l.store) l.k l.at
