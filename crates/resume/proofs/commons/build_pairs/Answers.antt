-- `resume::commons::build_pairs` meets its contract. The loop's invariant: the pairs of the consoles before `c` are written.
use native.Mathlib.Omega.{arith}
use Rattle.resume.proofs.TableSteps.{tabled_none, tabled_own, tabled_more}
use Rattle.resume.proofs.commons.build_pairs.Goals as goal

pub loop-c-init : goal.loop-c-init
loop-c-init c = tabled_none _ _ (omega arith)

pub build_console-met-requires : goal.build_console-met-requires
build_console-met-requires c = let own = c.requires.by_index in
    record {
      c_lt_console_count = omega arith;
      by_index = λ k l. omega (arith, tabled_own c.loop-c.invariant k l, own k l);
    }

pub loop-c-preserved : goal.loop-c-preserved
loop-c-preserved c = tabled_more c.loop-c.invariant (omega arith) c.build_console-met.ensures.0 c.build_console-met.ensures.1
