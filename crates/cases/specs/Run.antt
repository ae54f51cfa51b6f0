-- How the cases are put: commands by name, rooms that commands make, and a row of the table.
use Rattle.std.specs.Prelude.{ℕ, suc, ◌/◌, ◌%◌, cond, List, [], ◌∷◌, map, eqb}
use Rattle.std.proofs.Math.Option.{Option, none, some}
use Rattle.std.specs.Prelude.{Result, Ok, Err}
use Rattle.command.specs.declared.Command.{Command}
use Rattle.command.specs.Decode.{decode}
use Rattle.graph.specs.Graph.{version_count}
use Rattle.room.specs.Room.{Room, head_of}
use Rattle.room.specs.Step.{step_refusal, step, clash_count}
use Rattle.unit.specs.declared.Reply.{Reply}
use Rattle.unit.specs.Calls.{replied}

-- A row: what the definitions give, and what the paper or a request says.
pub record Case : Type 0 where
  pub got : List ℕ
  pub due : List ℕ

infix 60 ◌gives◌
abbrev pub ◌gives◌ : List ℕ → List ℕ → Case
computed gives told = record { got = computed; due = told }

-- The commands that the rows name, in the bytes of the paper and the requests and not by the definitions' names for the codes.
abbrev pub fork : ℕ → ℕ → List ℕ
fork new old = 0x01 ∷ new ∷ old ∷ []

abbrev pub level : ℕ → ℕ → ℕ → List ℕ
level c k x = 0x02 ∷ c ∷ k ∷ x / 256 ∷ x % 256 ∷ []

abbrev pub heading : ℕ → ℕ → ℕ → List ℕ
heading c k x = 0x03 ∷ c ∷ k ∷ x / 256 ∷ x % 256 ∷ []

abbrev pub mark : ℕ → ℕ → ℕ → List ℕ
mark c k x = 0x04 ∷ c ∷ k ∷ x ∷ []

abbrev pub unmark : ℕ → ℕ → ℕ → List ℕ
unmark c k x = 0x05 ∷ c ∷ k ∷ x ∷ []

abbrev pub call : ℕ → ℕ → List ℕ
call c k = 0x06 ∷ c ∷ k ∷ []

abbrev pub alert : ℕ → ℕ → List ℕ
alert c k = 0x07 ∷ c ∷ k ∷ []

abbrev pub quiet : ℕ → ℕ → List ℕ
quiet c k = 0x08 ∷ c ∷ k ∷ []

abbrev pub merge : ℕ → ℕ → List ℕ
merge receiver giver = 0x09 ∷ receiver ∷ giver ∷ []

abbrev pub forward : ℕ → ℕ → List ℕ
forward receiver giver = 0x0A ∷ receiver ∷ giver ∷ []

abbrev pub leave : ℕ → List ℕ
leave c = 0x0B ∷ c ∷ []

abbrev pub hub : List ℕ
hub = 0x0C ∷ []

-- the answer to a command in a room
unfoldable pub answer_in : Room → Result Command ℕ → ℕ
answer_in r (Err n) = n
answer_in r (Ok c) = step_refusal r c

-- what it counts where it is accepted
unfoldable pub count_in : Room → Result Command ℕ → ℕ
count_in r (Err n) = 0
count_in r (Ok c) = clash_count r c

unfoldable pub room_after : Room → Result Command ℕ → Room
room_after r (Err n) = r
room_after r (Ok c) = cond (eqb (step_refusal r c) 0) (step r c) r

-- the room that these commands make
unfoldable pub made : Room → List (List ℕ) → Room
made r [] = r
made r (c ∷ cs) = made (room_after r (decode c)) cs

-- the replies to these commands, one after the other
unfoldable pub replies : Room → List (List ℕ) → List Reply
replies r [] = []
replies r (c ∷ cs) = replied (answer_in r (decode c)) (count_in r (decode c)) ∷ replies (room_after r (decode c)) cs

-- their answers, and their counts
abbrev pub answers : Room → List (List ℕ) → List ℕ
answers r cs = map (λ (x : Reply). x.answer) (replies r cs)

abbrev pub counts : Room → List (List ℕ) → List ℕ
counts r cs = map (λ (x : Reply). x.count) (replies r cs)

-- the answer to a command after those that made a room
abbrev pub answer : Room → List ℕ → List ℕ
answer r c = answer_in r (decode c) ∷ []

-- how a row says where a console is: on a version, or nowhere while it is absent; 1 more than the version, so that version 0 is not nowhere
abbrev pub nowhere : ℕ
nowhere = 0

abbrev pub on : ℕ → ℕ
on v = suc v

abbrev pub shown : Option ℕ → ℕ
shown none = nowhere
shown (some v) = on v

-- where each of the 16 consoles is, console 0 first
abbrev pub heads_shown : Room → List ℕ
heads_shown r = map shown r.heads

-- the head of the console in the first operand of a command; nowhere where it has none
abbrev pub operand_shown : Room → List ℕ → ℕ
operand_shown r [] = nowhere
operand_shown r (code ∷ []) = nowhere
operand_shown r (code ∷ (c ∷ rest)) = shown (head_of r c)

-- "Each line: .. answer (0 or refusal), head of the console in the first operand", then the number of versions. Ordinals are left out.
-- Meant for commands none of which is answered 1 or 2, and the paper's are such: after these answers the program stops, and this goes on.
unfoldable pub session : Room → List (List ℕ) → List ℕ
session r [] = version_count r.versions ∷ []
session r (c ∷ cs) =
    let next : Room = room_after r (decode c) in
    answer_in r (decode c) ∷ operand_shown next c ∷ session next cs
