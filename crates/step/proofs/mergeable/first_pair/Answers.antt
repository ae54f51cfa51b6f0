-- `step::mergeable::first_pair` meets its contract.
use native.Mathlib.Omega.{arith}
use Rattle.std.proofs.Common.{rules}
use Rattle.room.specs.Mergeable.{first_pair}
use Rattle.step.proofs.Search.{none_but_this}
use Rattle.step.proofs.Verdicts.{found_not_zero}
use Rattle.step.proofs.mergeable.first_pair.Goals as goal

pub returns-then-is_some : goal.returns-then-is_some
unfolding first_pair
returns-then-is_some c = none_but_this c.loop-receiver.invariant (omega arith) c.first_with_receiver-pair.ensures (found_not_zero _ (search rules))
