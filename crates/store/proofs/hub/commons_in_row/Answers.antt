-- `store::hub::commons_in_row` meets its contract. The loop's invariant: those of the consoles before `c` are in the row.
use native.Mathlib.Omega.{arith}
use Rattle.graph.proofs.Passing.{passing_none, passing_again, passing_all, passing_fails}
use Rattle.command.specs.Code.{console_count}
use Rattle.store.specs.Check.{commons_in_row}
use Rattle.store.proofs.hub.commons_in_row.Goals as goal

pub returns-then-not-console_in_row : goal.returns-then-not-console_in_row
unfolding commons_in_row
returns-then-not-console_in_row c = passing_fails console_count _ (omega arith) c.console_in_row.ensures c.if-not-console_in_row.true-raw

pub console_in_row-requires : goal.console_in_row-requires
console_in_row-requires c = record {
  header_size_in_bounds = c.requires.header_size_in_bounds;
  c_lt_console_count = omega arith;
  by_index = λ d l. c.requires.by_index c.loop-c.c d (omega arith) l;
}

pub loop-c-preserved : goal.loop-c-preserved
loop-c-preserved c = passing_again c.loop-c.invariant (omega arith) c.console_in_row.ensures c.if-not-console_in_row.false-raw

pub returns : goal.returns
unfolding commons_in_row
returns c = passing_all c.loop-c.invariant (omega arith)

pub loop-c-init : goal.loop-c-init
loop-c-init c = passing_none _ _
