-- `step::mergeable::heads_agree` meets its contract.
use mathlib.Core.Path.{refl, ◌∙◌}
use Rattle.std.proofs.Common.{rules, tests}
use Rattle.std.proofs.lemmas.Iterator.{YieldsList-from_range}
use Rattle.std.proofs.lemmas.Iterator.Search.{all_from_yields_List}
use Rattle.command.specs.Code.{console_count}
use Rattle.room.specs.Mergeable.{agrees, heads_agree}
use Rattle.graph.proofs.Ranges.{all_below}
use Rattle.step.proofs.mergeable.heads_agree.Goals as goal

pub returns : goal.returns
unfolding heads_agree
returns c =
    all_from_yields_List (agrees c.args.store.now) _ _ c.all.result c.all.ensures.ran (YieldsList-from_range 0 console_count console_count refl refl) (λ x b q k. search (rules, tests))
    ∙ all_below _ console_count
