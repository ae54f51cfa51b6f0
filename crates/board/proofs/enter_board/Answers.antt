-- `board::enter_board` meets its contract. The strip was lent, and comes back as the entry makes it.
use native.Mathlib.Omega.{arith}
use Rattle.board.proofs.Entries.{entered_back}
use Rattle.board.proofs.enter_board.Goals as goal

pub returns : goal.returns
returns c = entered_back _ _ _ _ (omega arith) c.enter_strip.ensures
