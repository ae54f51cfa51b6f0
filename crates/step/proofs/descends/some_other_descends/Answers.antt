-- `step::descends::some_other_descends` meets its contract.
use mathlib.Core.Path.{refl, ◌∙◌}
use Rattle.std.proofs.Common.{rules, tests}
use Rattle.std.proofs.lemmas.Iterator.{YieldsList-from_range}
use Rattle.std.proofs.lemmas.Iterator.Search.{any_from_yields_List}
use Rattle.command.specs.Code.{console_count}
use Rattle.room.specs.Step.{other_descends}
use Rattle.graph.proofs.Ranges.{any_below}
use Rattle.step.proofs.descends.some_other_descends.Goals as goal

pub returns : goal.returns
returns c =
    any_from_yields_List (other_descends c.args.store.now c.args.c.0) _ _ c.any.result c.any.ensures.ran (YieldsList-from_range 0 console_count console_count refl refl) (λ x b q k. search (rules, tests))
    ∙ any_below _ console_count
