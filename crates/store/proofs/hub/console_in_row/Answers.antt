-- `store::hub::console_in_row` meets its contract. The loop's invariant: those with the consoles before `d` are in the row.
use mathlib.Core.Path.{refl}
use native.Mathlib.Omega.{arith}
use Rattle.graph.proofs.Passing.{passing_none, passing_again, passing_all, passing_fails}
use Rattle.store.proofs.hub.console_in_row.Goals as goal

pub returns-then-not-common_in_row : goal.returns-then-not-common_in_row
returns-then-not-common_in_row c = let end = c.loop-d.invariant.0 in passing_fails _ _ (omega arith) c.common_in_row.ensures c.if-not-common_in_row.true-raw

pub loop-d-preserved : goal.loop-d-preserved
loop-d-preserved c = let end = c.loop-d.invariant.0 in
    (end, passing_again c.loop-d.invariant.1 (omega arith) c.common_in_row.ensures c.if-not-common_in_row.false-raw)

pub common_in_row-requires : goal.common_in_row-requires
common_in_row-requires c = let end = c.loop-d.invariant.0 in
    omega (arith, c.requires.by_index c.loop-d.d (omega arith))

pub returns : goal.returns
returns c = let end = c.loop-d.invariant.0 in passing_all c.loop-d.invariant.1 (omega arith)

pub loop-d-init : goal.loop-d-init
loop-d-init c = (refl, passing_none _ _)
