-- `board::merge_strip_at` meets its contract: the strip is worked out where it is lent.
use Rattle.board.proofs.Boards.{strip_put}
use Rattle.board.proofs.merge_strip_at.Goals as goal

pub returns : goal.returns
returns c = strip_put _ _ _ _ c.args.k c.strips.ensures.base c.strips.ensures.mine c.strips.ensures.given c.merge_strip.ensures
