-- `resume::commons::build_console` meets its contract. The loop's invariant: the pairs of `c` with the consoles before `d` are written.
use mathlib.Core.Path.{refl}
use native.Mathlib.Omega.{arith}
use Rattle.resume.proofs.TableSteps.{paired_none, paired_own, paired_more}
use Rattle.resume.proofs.commons.build_console.Goals as goal

pub loop-k-init : goal.loop-k-init
loop-k-init c = (refl, paired_none _ _ _ (omega arith))

pub build_pair-met-requires : goal.build_pair-met-requires
build_pair-met-requires c = let a = c.args in
    let own = c.requires.by_index in
    let n = c.requires.c_lt_console_count in
    let p = c.loop-k.invariant.1 in
    let d = c.loop-k.k in
    let x = paired_own p n a.c.0 n in
    let y = paired_own p n d (omega arith) in
    record {
      c_lt_console_count = omega arith;
      by_index = omega (arith, x, y, own a.c.0 n, own d (omega arith));
    }

pub loop-k-preserved : goal.loop-k-preserved
loop-k-preserved c = let inv = c.loop-k.invariant in (
  inv.0,
  paired_more inv.1 c.requires.c_lt_console_count (omega arith)
      c.build_pair-met.ensures.0 c.build_pair-met.ensures.1,
)
