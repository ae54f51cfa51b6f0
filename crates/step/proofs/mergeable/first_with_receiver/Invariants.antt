-- `step::mergeable::first_with_receiver` meets its contract. The loop's invariant: no number before that of `giver`.
use Prim.Native.Nat.{◌-◌}
use Rattle.command.specs.Code.{console_count}
use Rattle.room.specs.Mergeable.{pair_number}
use Rattle.step.proofs.Search.{NoneSoFar}
use Rattle.step.proofs.mergeable.first_with_receiver.Given as goal

abbrev pub invariant-loop-giver : goal.invariant-loop-giver
invariant-loop-giver l = NoneSoFar (pair_number l.store l.receiver.0) l.giver

abbrev pub decreases-loop-giver : goal.decreases-loop-giver
decreases-loop-giver l = console_count - l.giver
