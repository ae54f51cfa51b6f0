-- `store::consoles::consoles_right` meets its contract. The loop's invariant: the consoles before `c` are right, so that their heads are versions.
use native.Mathlib.Omega.{arith}
use Rattle.graph.proofs.Passing.{passing_none, passing_again, passing_all, passing_fails}
use Rattle.store.proofs.Heads.{heads_versions}
use Rattle.store.proofs.consoles.consoles_right.Goals as goal

pub console_right-requires : goal.console_right-requires
console_right-requires c = let a = c.args in
    record {
      n_in_bounds = omega arith;
      c_lt_console_count = omega arith;
      by_index = heads_versions a.s.now a.n c.loop-c.c c.loop-c.invariant.told;
    }

pub returns-then-not-console_right : goal.returns-then-not-console_right
returns-then-not-console_right c = passing_fails _ _ (omega arith) c.console_right.ensures c.if-not-console_right.true-raw

pub loop-c-preserved : goal.loop-c-preserved
loop-c-preserved c = passing_again c.loop-c.invariant (omega arith) c.console_right.ensures c.if-not-console_right.false-raw

pub returns : goal.returns
returns c = passing_all c.loop-c.invariant (omega arith)

pub loop-c-init : goal.loop-c-init
loop-c-init c = passing_none _ _
