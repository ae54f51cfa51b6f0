-- `step::mergeable::first_pair` meets its contract. The loop's invariant: no number before that of `receiver`.
use Prim.Native.Nat.{◌-◌}
use Rattle.command.specs.Code.{console_count}
use Rattle.room.specs.Mergeable.{first_with_receiver}
use Rattle.step.proofs.Search.{NoneSoFar}
use Rattle.step.proofs.mergeable.first_pair.Given as goal

abbrev pub invariant-loop-receiver : goal.invariant-loop-receiver
invariant-loop-receiver l = NoneSoFar (first_with_receiver l.store) l.receiver

abbrev pub decreases-loop-receiver : goal.decreases-loop-receiver
decreases-loop-receiver l = console_count - l.receiver
