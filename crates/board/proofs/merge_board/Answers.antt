-- `board::merge_board` meets its contract. The invariant of its loop is `Counting`: the first k strips are merged and their clashes counted.
use native.Mathlib.Omega.{arith}
use Rattle.board.proofs.Boards.{counting_start, counting_step, counting_few, counting_finish}
use Rattle.board.proofs.merge_board.Goals as goal

pub loop-k-init : goal.loop-k-init
loop-k-init c = counting_start _ _ _ _ c.requires.0

pub overflow_add-clashes : goal.overflow_add-clashes
overflow_add-clashes c = omega (arith, counting_few _ c.loop-k.invariant c.merge_strip_at-clashes.ensures.1)

pub loop-k-preserved : goal.loop-k-preserved
loop-k-preserved c = counting_step c.loop-k.invariant c.loop-k-test.true c.merge_strip_at-clashes.ensures

pub returns : goal.returns
returns c = counting_finish c.loop-k.invariant c.loop-k-test.false
