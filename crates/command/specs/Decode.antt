-- "A command is decoded whole, or the call ends with its refusal." What a byte string decodes to, with the refusals 1 to 6 and 20.
use Rattle.std.specs.Prelude.{ℕ, Bool, cond, not, ◌||◌, List, [], ◌∷◌, eqb, length, get_or, Option, Some, None, Result, Ok, Err}
use Rattle.buffer.specs.Field.{word}
use Rattle.board.specs.Board.{level_entry, heading_entry, mark_put_entry, mark_taken_entry}
use Rattle.command.specs.declared.Kind.{Kind}
use Rattle.command.specs.declared.Kind.TheVariants as kind_is
use Rattle.command.specs.declared.Operands.{Operands}
use Rattle.command.specs.declared.Command.{Command}
use Rattle.command.specs.declared.Command.TheVariants.{Fork, Entry, Merge, FastForward, Leave, MakeHub}
use Rattle.refusal.specs.declared.Refusal.{Refusal}
use Rattle.refusal.specs.Refusal.{◌when◌, first_refusal}
use Rattle.refusal.specs.Answer.{number_of}
use Rattle.command.specs.Code.{within, fork_command, merge_command, fast_forward_command, leave_command, make_hub_command, kind_of, kind_refusal, shape_of, length_of, operands_of, is_console, is_strip, is_operand}

-- the code of a command; an empty one has none, and reads as 0, which is no command's
abbrev pub code_in : List ℕ → ℕ
code_in s = get_or s 0 0

-- a code is a command's: it has a kind
abbrev pub is_command_code : ℕ → Bool
is_command_code code = eqb (kind_refusal (kind_of code)) 0

-- the operands of a command whose length is its code's
abbrev pub operands_in : List ℕ → Operands
operands_in s = operands_of (shape_of (code_in s)) s

-- "3 console above 15." of two consoles. "6 the same console twice in 01, 09, 0A."
abbrev pub two_console_tests : Operands → List (ℕ × Bool)
two_console_tests o =
    3 when (not (is_console o.first) || not (is_console o.second))
    ∷ 6 when eqb o.first o.second
    ∷ []

-- "3 console above 15." of one console. "4 strip above 31. 5 level above 600, heading above 360, mark above 15."
abbrev pub entry_number_tests : ℕ → Operands → List (ℕ × Bool)
entry_number_tests code o =
    3 when not (is_console o.first)
    ∷ 4 when not (is_strip o.second)
    ∷ 5 when not (is_operand code o.third)
    ∷ []

-- "3 console above 15." of one console. "20 console 0 leaves, tested right after 6": by the command's bytes alone
abbrev pub leave_number_tests : Operands → List (ℕ × Bool)
leave_number_tests o =
    3 when not (is_console o.first)
    ∷ 20 when eqb o.first 0
    ∷ []

-- the tests 3 to 6 and 20 of a command's numbers, by its kind
abbrev pub number_tests : Kind → ℕ → Operands → List (ℕ × Bool)
number_tests kind_is.Fork code o = two_console_tests o
number_tests kind_is.Entry code o = entry_number_tests code o
number_tests kind_is.Merge code o = two_console_tests o
number_tests kind_is.FastForward code o = two_console_tests o
number_tests kind_is.Leave code o = leave_number_tests o
number_tests kind_is.MakeHub code o = []

-- of a code; one that is no command's has none, and is refused with 1
abbrev pub code_tests : Option Kind → ℕ → Operands → List (ℕ × Bool)
code_tests None code o = []
code_tests (Some kind) code o = number_tests kind code o

-- "1 empty command, or code outside 01 to 0A.", which the requests make 01 to 0C. "2 length not the code's."
unfoldable pub command_refusal : List ℕ → ℕ
command_refusal s =
    let code : ℕ = code_in s in
    let o : Operands = operands_in s in
    first_refusal
    (1 when not (is_command_code code)
    ∷ 2 when not (eqb (length s) (length_of (shape_of code)))
    ∷ code_tests (kind_of code) code o)

-- the command of a code and its operands, by its kind
abbrev pub command_of : Kind → ℕ → Operands → Command
command_of kind_is.Fork code o = Fork (record { 0 = o.first }) (record { 0 = o.second })
command_of kind_is.Entry code o = Entry (record { 0 = o.first }) code (record { 0 = o.second }) o.third
command_of kind_is.Merge code o = Merge (record { 0 = o.first }) (record { 0 = o.second })
command_of kind_is.FastForward code o = FastForward (record { 0 = o.first }) (record { 0 = o.second })
command_of kind_is.Leave code o = Leave (record { 0 = o.first })
command_of kind_is.MakeHub code o = MakeHub

-- the command that some bytes say, by the kind of their code, or the paper's number of their refusal
abbrev pub decoded_by : Option Kind → List ℕ → Result Command ℕ
decoded_by None s = Err (command_refusal s)
decoded_by (Some kind) s =
    cond (eqb (command_refusal s) 0) (Ok (command_of kind (code_in s) (operands_in s))) (Err (command_refusal s))

unfoldable pub decode : List ℕ → Result Command ℕ
decode s = decoded_by (kind_of (code_in s)) s

-- the decoder's answer, with the paper's number for its refusal
abbrev pub numbered : Result Command Refusal → Result Command ℕ
numbered (Ok c) = Ok c
numbered (Err refusal) = Err (number_of refusal)

-- the paper's number for what was decoded: its refusal, or 0 for a whole command
abbrev pub refusal_of : Result Command ℕ → ℕ
refusal_of (Ok c) = 0
refusal_of (Err n) = n

-- an entry's operand: 16 bits for 02 and 03, a byte for 04 and 05, none for 06 to 08
unfoldable pub operand_bytes : ℕ → ℕ → List ℕ
operand_bytes code operand = cond (within level_entry heading_entry code) (word operand) (cond (within mark_put_entry mark_taken_entry code) (operand ∷ []) [])

-- the paper's code and values for each command
unfoldable pub command_bytes : Command → List ℕ
command_bytes (Fork new old) = fork_command ∷ new.0 ∷ old.0 ∷ []
command_bytes (Entry console code strip operand) = code ∷ console.0 ∷ strip.0 ∷ operand_bytes code operand
command_bytes (Merge receiver giver) = merge_command ∷ receiver.0 ∷ giver.0 ∷ []
command_bytes (FastForward receiver giver) = fast_forward_command ∷ receiver.0 ∷ giver.0 ∷ []
command_bytes (Leave console) = leave_command ∷ console.0 ∷ []
command_bytes MakeHub = make_hub_command ∷ []

-- the paper's code and values for what was decoded: those of a whole command, none for a refusal
abbrev pub decoded_bytes : Result Command ℕ → List ℕ
decoded_bytes (Ok c) = command_bytes c
decoded_bytes (Err n) = []
