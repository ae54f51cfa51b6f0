-- `update::append::put_entry_board` meets its contract.
use native.Mathlib.Omega.{arith}
use Rattle.board.specs.Board.{board_size, enter}
use Rattle.store.specs.Layout.{board_at}
use Rattle.buffer.proofs.Patches.{changed_lent}
use Rattle.update.proofs.Appended.{entered_keeps}
use Rattle.update.proofs.append.put_entry_board.Goals as goal

pub returns : goal.returns
returns c = let a = c.args in
    changed_lent a.s.now _ _ (enter a.code a.strip.0 a.operand) (board_at a.p.0) _ (board_at a.n.0) board_size
    c.board_at-at.ensures (omega arith) (omega arith) (entered_keeps board_size a.code a.strip.0 a.operand)
    c.put_parent_board.ensures.0 c.enter_board.ensures.0
