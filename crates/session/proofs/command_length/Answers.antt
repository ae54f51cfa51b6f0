-- The length of a command is that of its shape, 1 to 5 bytes.
use Rattle.std.proofs.Common.{◌∙◌, ap, sym}
use Rattle.command.specs.Code.{length_of}
use Rattle.command.proofs.Shapes.{narrow_shape}
use Rattle.session.proofs.Lengths.{length_known}
use Rattle.session.proofs.command_length.Goals as goal

pub length_of-requires : goal.length_of-requires
length_of-requires c = rw c.widths_of.ensures.0 (narrow_shape c.args.code)

pub returns-then-is_command_code : goal.returns-then-is_command_code
returns-then-is_command_code c =
    length_known c.args.code (sym c.if-is_command_code.ensures) (c.length_of.ensures ∙ ap length_of c.widths_of.ensures.0)
