-- `step::third::some_third_splits` meets its contract.
use mathlib.Core.Path.{refl, ◌∙◌}
use Rattle.std.proofs.Common.{rules, tests}
use Rattle.std.proofs.lemmas.Iterator.{YieldsList-from_range}
use Rattle.std.proofs.lemmas.Iterator.Search.{any_from_yields_List}
use Rattle.command.specs.Code.{console_count}
use Rattle.room.specs.Step.{splits}
use Rattle.graph.proofs.Ranges.{any_below}
use Rattle.step.proofs.third.some_third_splits.Goals as goal

pub returns : goal.returns
returns c =
    any_from_yields_List (splits c.args.store.now c.args.c.0 c.args.d.0) _ _ c.any.result c.any.ensures.ran (YieldsList-from_range 0 console_count console_count refl refl) (λ x b q k. search (rules, tests))
    ∙ any_below _ console_count
