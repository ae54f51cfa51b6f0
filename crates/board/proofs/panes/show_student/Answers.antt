-- `board::panes::show_student` meets its contract. The invariant of its loop is `StripsMade`: the first k strips are written.
use Rattle.board.proofs.Length.{student_strip-length}
use Rattle.board.proofs.Boards.{made_start, made_step, made_finish}
use Rattle.board.proofs.panes.show_student.Goals as goal

pub loop-k-init : goal.loop-k-init
loop-k-init c = made_start _ _ c.requires.0

pub loop-k-preserved : goal.loop-k-preserved
loop-k-preserved c = made_step (student_strip-length _ _) c.loop-k.invariant c.loop-k-test.true c.show_strip_at.ensures

pub returns : goal.returns
returns c = made_finish c.loop-k.invariant c.loop-k-test.false
