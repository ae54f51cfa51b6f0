-- `step::mergeable::first_with_receiver` meets its contract.
use native.Mathlib.Omega.{arith}
use Rattle.std.proofs.Common.{rules}
use Rattle.graph.proofs.Below.{none_first}
use Rattle.command.specs.Code.{console_count}
use Rattle.room.specs.Mergeable.{pair_number}
use Rattle.step.proofs.Search.{none_but_this}
use Rattle.step.proofs.Verdicts.{found_not_zero}
use Rattle.step.proofs.mergeable.first_with_receiver.Goals as goal

pub returns-then-is_some : goal.returns-then-is_some
returns-then-is_some c = none_but_this c.loop-giver.invariant (omega arith) c.pair_of-pair.ensures (found_not_zero _ (search rules))

pub pair_of-pair-requires-clause-not_the_other_way : goal.pair_of-pair-requires-clause-not_the_other_way
pair_of-pair-requires-clause-not_the_other_way c =
    let giver = c.loop-giver.giver in
    λ l. none_first console_count (pair_number c.args.store.now giver) (c.requires.no_lower giver l) c.args.receiver.0 (omega arith)
