-- "One code byte, then operands; the code alone decides the length." Codes of commands and of tape records, the widths of what follows
-- each, and which numbers may stand there or in a question.
use Rattle.std.specs.Prelude.{ℕ, ◌+◌, Bool, cond, ◌&&◌, List, eqb, leb, ltb, get_or, Option, Some, None}
use Rattle.buffer.specs.Field.{word_at}
use Rattle.board.specs.Board.{strip_count, mark_count, cell_count, level_entry, heading_entry, mark_put_entry, mark_taken_entry, call_entry, alert_off_entry}
use Rattle.command.specs.declared.Kind.{Kind}
use Rattle.command.specs.declared.Kind.TheVariants as kind_is
use Rattle.command.specs.declared.Widths.{Widths}
use Rattle.command.specs.declared.Operands.{Operands}

-- "up to 16 consoles"
abbrev pub console_count : ℕ
console_count = 16

abbrev pub within : ℕ → ℕ → ℕ → Bool
within low high x = leb low x && leb x high

-- Codes of commands: "01 fork", "09 merge, 0A fast-forward", "Code 0B with one console removes it", "Code 0C, no operands"; 02 to 08 make an entry.
abbrev pub fork_command : ℕ
fork_command = 0x01

abbrev pub merge_command : ℕ
merge_command = 0x09

abbrev pub fast_forward_command : ℕ
fast_forward_command = 0x0A

abbrev pub leave_command : ℕ
leave_command = 0x0B

abbrev pub make_hub_command : ℕ
make_hub_command = 0x0C

-- Codes of tape records: "20, capacity", "21: parent ..", "22: receiver's version ..", "23: console ..", "24, the last byte"; "25 just
-- before 24".
abbrev pub start_record : ℕ
start_record = 0x20

abbrev pub entry_record : ℕ
entry_record = 0x21

abbrev pub merge_record : ℕ
merge_record = 0x22

abbrev pub head_record : ℕ
head_record = 0x23

abbrev pub end_record : ℕ
end_record = 0x24

abbrev pub hub_record : ℕ
hub_record = 0x25

-- "Codes 02 to 08 make an entry version": also on tapes and in stores
abbrev pub is_entry_code : ℕ → Bool
is_entry_code code = within level_entry alert_off_entry code

-- The kind of a code. The codes of commands are those that have one: 01 to 0C.
unfoldable pub kind_of : ℕ → Option Kind
kind_of code =
    cond (eqb code fork_command) (Some kind_is.Fork)
    (cond (is_entry_code code) (Some kind_is.Entry)
    (cond (eqb code merge_command) (Some kind_is.Merge)
    (cond (eqb code fast_forward_command) (Some kind_is.FastForward)
    (cond (eqb code leave_command) (Some kind_is.Leave)
    (cond (eqb code make_hub_command) (Some kind_is.MakeHub) None)))))

-- the paper's number for a kind: 0, or "1 empty command, or code outside 01 to 0A.", which the requests make 01 to 0C
abbrev pub kind_refusal : Option Kind → ℕ
kind_refusal None = 1
kind_refusal (Some kind) = 0

-- the widths of what follows a known code
abbrev pub widths : ℕ → ℕ → ℕ → ℕ → Option Widths
widths a b c d = Some (record { first = a; second = b; third = c; fourth = d })

-- "01 fork", "02 level", .. "0A fast-forward", "0B with one console", "0C, no operands"; the tape's records are 20 to 25
unfoldable pub shape_of : ℕ → Option Widths
shape_of code =
    cond (eqb code fork_command) (widths 1 1 0 0)
    (cond (within level_entry heading_entry code) (widths 1 1 2 0)
    (cond (within mark_put_entry mark_taken_entry code) (widths 1 1 1 0)
    (cond (within call_entry alert_off_entry code) (widths 1 1 0 0)
    (cond (within merge_command fast_forward_command code) (widths 1 1 0 0)
    (cond (eqb code leave_command) (widths 1 0 0 0)
    (cond (eqb code make_hub_command) (widths 0 0 0 0)
    (cond (eqb code start_record) (widths 2 0 0 0)
    (cond (eqb code entry_record) (widths 2 1 1 2)
    (cond (eqb code merge_record) (widths 2 2 0 0)
    (cond (eqb code head_record) (widths 1 2 0 0)
    (cond (eqb code end_record) (widths 0 0 0 0)
    (cond (eqb code hub_record) (widths 0 0 0 0) None))))))))))))

-- what refuses a shape: nothing (0), or for an unknown code the number given by whoever asks
abbrev pub shape_refusal : ℕ → Option Widths → ℕ
shape_refusal number None = number
shape_refusal number (Some w) = 0

-- how many bytes a code and what follows it take
unfoldable pub length_of : Option Widths → ℕ
length_of None = 0
length_of (Some w) = 1 + w.first + w.second + w.third + w.fourth

-- the number that stands at a place, one or two bytes wide; of width 0 there is none, and it reads as 0
unfoldable pub number_at : List ℕ → ℕ → ℕ → ℕ
number_at s at width = cond (eqb width 2) (word_at s at) (cond (eqb width 1) (get_or s at 0) 0)

-- what follows the code at the front of these bytes
unfoldable pub operands_of : Option Widths → List ℕ → Operands
operands_of None s = record { first = 0; second = 0; third = 0; fourth = 0 }
operands_of (Some w) s =
    record {
      first = number_at s 1 w.first;
      second = number_at s (1 + w.first) w.second;
      third = number_at s (1 + w.first + w.second) w.third;
      fourth = number_at s (1 + w.first + w.second + w.third) w.fourth;
    }

abbrev pub is_console : ℕ → Bool
is_console c = ltb c console_count

abbrev pub is_strip : ℕ → Bool
is_strip k = ltb k strip_count

abbrev pub is_cell : ℕ → Bool
is_cell cell = ltb cell cell_count

-- "level (0 to 600 ..)", "heading (0 to 360 ..)", "mark k .. k from 0 to 15", "0 for 06 to 08": what an entry of this code may carry
unfoldable pub is_operand : ℕ → ℕ → Bool
is_operand code x =
    cond (eqb code level_entry) (leb x 600)
    (cond (eqb code heading_entry) (leb x 360)
    (cond (within mark_put_entry mark_taken_entry code) (ltb x mark_count) (eqb x 0)))
