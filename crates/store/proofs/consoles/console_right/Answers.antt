-- `store::consoles::console_right` meets its contract. The loop's invariant: the pairs of `c` with the consoles before `d` are right.
use mathlib.Core.Path.{sym, ◌∙◌}
use native.Mathlib.Omega.{arith}
use borrow.Author.Tests.{not-false}
use Rattle.graph.proofs.Passing.{passing_none, passing_again, passing_fails}
use Rattle.store.specs.Check.{console_right}
use Rattle.store.proofs.consoles.console_right.Goals as goal

pub returns-then-not-pair_right : goal.returns-then-not-pair_right
unfolding console_right
returns-then-not-pair_right c =
    rw (sym c.head_right.ensures ∙ not-false _ c.if-not-head_right.false-raw) (passing_fails _ _ (omega arith) c.pair_right.ensures c.if-not-pair_right.true-raw)

pub loop-d-preserved : goal.loop-d-preserved
loop-d-preserved c = passing_again c.loop-d.invariant (omega arith) c.pair_right.ensures c.if-not-pair_right.false-raw

pub loop-d-init : goal.loop-d-init
loop-d-init c = passing_none _ _
