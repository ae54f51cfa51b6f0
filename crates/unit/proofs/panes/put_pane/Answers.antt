-- `unit::panes::put_pane` meets its contract.
use mathlib.Core.Path.{sym}
use lib.Seq.{length-take-le}
use Rattle.board.specs.Board.{board_size}
use Rattle.board.proofs.Length.{pane_length}
use Rattle.unit.proofs.panes.put_pane.Goals as goal

pub returns : goal.returns
returns c = let a = c.args in
    rw (c.show_board.ensures, pane_length a.viewer a.board.now c.requires.0)

pub slice_bounds-show_board-end-2 : goal.slice_bounds-show_board-end-2
slice_bounds-show_board-end-2 c = sym (length-take-le board_size c.args.pane.now c.requires.1)

pub show_board-requires : goal.show_board-requires
show_board-requires c = (length-take-le board_size c.args.pane.now c.requires.1, c.requires.0)
