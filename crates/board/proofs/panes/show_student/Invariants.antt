-- `board::panes::show_student` meets its contract. The invariant of its loop is `StripsMade`: the first k strips are written.
use Rattle.board.specs.Pane.{student_strip}
use Rattle.board.proofs.Boards.{StripsMade}
use Rattle.board.proofs.panes.show_student.Given as goal

abbrev pub invariant-loop-k : goal.invariant-loop-k
invariant-loop-k l = StripsMade (student_strip l.board) l.pane l.k
