-- `board::merge_strip` meets its contract. Its calls write the cells from the first to the last.
use Rattle.board.proofs.Strips.{strip_built}
use Rattle.board.proofs.merge_strip.Goals as goal

pub returns : goal.returns
returns c = let sides = c.args.sides.now in
    rw (c.from.ensures, c.from-2.ensures)
    (strip_built _ _ _ c.args.s.now c.requires c.merge_value_at-level_clashes.ensures c.merge_value_at-heading_clashes.ensures
    c.merge_marks_at.ensures c.merge_count_at.ensures c.merge_alerts.ensures)
