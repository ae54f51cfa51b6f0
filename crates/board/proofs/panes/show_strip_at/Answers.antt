-- `board::panes::show_strip_at` meets its contract. The strip was lent, and comes back as a student sees it.
use Rattle.board.proofs.Boards.{strip_seen_put}
use Rattle.board.proofs.panes.show_strip_at.Goals as goal

pub returns : goal.returns
returns c = strip_seen_put _ _ _ c.strip_of.ensures.0 c.show_strip.ensures
