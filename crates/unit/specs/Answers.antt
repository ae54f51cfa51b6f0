-- What a call came to, a count or a refusal, as its reply; and what the numbers name that a caller gives.
use Rattle.std.specs.Prelude.{ℕ, cond, Result, Ok, Err}
use Rattle.board.specs.Board.{cell_of}
use Rattle.board.specs.declared.Cell.{Cell}
use Rattle.command.specs.Code.{is_console, is_strip, is_cell}
use Rattle.graph.specs.declared.Console.{Console}
use Rattle.graph.specs.declared.Strip.{Strip}
use Rattle.refusal.specs.declared.Refusal.{Refusal}
use Rattle.refusal.specs.declared.Refusal.TheVariants.{ConsoleTooHigh, StripTooHigh, OperandTooHigh}
use Rattle.refusal.specs.Answer.{number_of}
use Rattle.unit.specs.declared.Reply.{Reply}
use Rattle.unit.specs.Calls.{replied}

abbrev pub reply_of : Result ℕ Refusal → Reply
reply_of (Ok count) = replied 0 count
reply_of (Err refusal) = replied (number_of refusal) 0

-- the console of a number, the strip, the cell
abbrev pub named_console : ℕ → Result Console Refusal
named_console number = cond (is_console number) (Ok (record { 0 = number })) (Err ConsoleTooHigh)

abbrev pub named_strip : ℕ → Result Strip Refusal
named_strip number = cond (is_strip number) (Ok (record { 0 = number })) (Err StripTooHigh)

abbrev pub named_cell : ℕ → Result Cell Refusal
named_cell number = cond (is_cell number) (Ok (cell_of number)) (Err OperandTooHigh)
