-- `resume::ranges::past_versions` meets its contract. The loop's invariant: the first `k` versions were read from the bytes, and are in range.
use Rattle.buffer.proofs.Parts.{Bytes}
use Rattle.resume.proofs.Along.{Versions}
use Rattle.resume.proofs.Passed.{Ranged}
use Rattle.resume.proofs.ranges.past_versions.Given as goal

abbrev pub invariant-loop-k : goal.invariant-loop-k
invariant-loop-k l = Bytes l.bytes × Versions l.tape Ranged l.k l.at
