-- `command::decoder::widths_of` meets its contract.
use borrow.Author.Rules.{rules}
use Rattle.command.specs.Code.{shape_of}
use Rattle.command.proofs.Limits.{below_one}
use Rattle.command.proofs.Shapes.{shape_none, shape_told}
use Rattle.command.proofs.decoder.widths_of.Goals as goal

pub returns-in_default : goal.returns-in_default
unfolding shape_of
returns-in_default c = shape_told _ _ (rw (below_one c.args.code (search rules)))

pub returns-in_default-2 : goal.returns-in_default-2
returns-in_default-2 c = shape_told _ _ (shape_none _ (search rules) (search rules) (search rules) (search rules) (search rules) (search rules) (search rules) (search rules) (search rules))
