-- `board::merge_board` meets its contract. The invariant of its loop is `Counting`: the first k strips are merged and their clashes counted.
use Rattle.board.proofs.Boards.{Counting}
use Rattle.board.proofs.merge_board.Given as goal

abbrev pub invariant-loop-k : goal.invariant-loop-k
invariant-loop-k l = Counting l.l l.a l.b l.board l.clashes l.k
