-- `board::panes::show_strip` meets its contract. Its calls write the fields from the first to the last.
use Rattle.board.proofs.Strips.{strip_shown}
use Rattle.board.proofs.panes.show_strip.Goals as goal

pub returns : goal.returns
returns c = strip_shown _ c.args.pane.now c.requires.0 c.show_field.ensures c.show_field-2.ensures c.show_field-3.ensures
    c.show_field-4.ensures c.show_field-5.ensures c.show_field-6.ensures
