-- `pause::measure::console_length` meets its contract.
use mathlib.Core.Path.{◌∙◌, sym, ap}
use lib.ListN.{length}
use Rattle.command.specs.Code.{shape_of, length_of}
use Rattle.pause.proofs.Pieces.{present_piece}
use Rattle.pause.proofs.measure.console_length.Goals as goal

pub returns-then-is_present : goal.returns-then-is_present
unfolding shape_of length_of
returns-then-is_present c = c.coded_length.ensures ∙ ap length (present_piece c.args.store.now c.args.c.0 (sym c.is_present.ensures ∙ c.if-is_present.true))
