-- "A refusal returns its number, counts 0, and changes no lent byte. An accepted call returns 0, and with it a question its number, pause
-- and the copied board the bytes written, all others count 0.", but for "An accepted merge reports the number" of its clashes. For each call
-- its reply and the lent buffer that it may write, afterwards, and of a view the bytes of the part that it returns; a command, a tape to
-- resume, and the stores of a question or a pause are lent for reading alone, so that nothing can change them.
use Rattle.std.specs.Prelude.{ℕ, Bool, cond, not, ◌||◌, List, [], ◌∷◌, ◌++◌, map, eqb, ltb, length, take}
use Rattle.std.proofs.Math.Option.{Option, none, some}
use Rattle.buffer.specs.Field.{overwrite, address_of}
use Rattle.board.specs.Board.{board_size, cell_of}
use Rattle.board.specs.declared.Viewer.{Viewer}
use Rattle.board.specs.declared.Viewer.TheVariants.{Instructor}
use Rattle.board.specs.Pane.{pane_of}
use Rattle.command.specs.declared.Command.{Command}
use Rattle.std.specs.Prelude.{Result, Ok, Err}
use Rattle.refusal.specs.Refusal.{◌when◌, first_refusal}
use Rattle.command.specs.Code.{is_console, is_strip, is_cell}
use Rattle.command.specs.Decode.{decode}
use Rattle.room.specs.Room.{Room, head, common, heard_count, open_settings, fresh}
use Rattle.room.specs.Sound.{settings_in_range}
use Rattle.room.specs.Boards.{board_of}
use Rattle.room.specs.Origin.{origin}
use Rattle.room.specs.Step.{absent, version_free, state_tests, step, clash_count}
use Rattle.room.specs.Mergeable.{mergeable}
use Rattle.store.specs.Layout.{store_size, board_at, encode, room_in, holds_store}
use Rattle.tape.specs.Tape.{Content, content_of, tape_tests, room_of, tape_of}
use Rattle.unit.specs.declared.Reply.{Reply}

pub record Outcome : Type 0 where
  pub reply : Reply
  pub buffer : List ℕ

-- refused with this number, or accepted with this count
abbrev pub replied : ℕ → ℕ → Reply
replied refusal count = record { answer = refusal; count = cond (eqb refusal 0) count 0 }

-- the same for a call that writes these bytes at the front of a lent buffer where it is accepted
abbrev pub written : ℕ → ℕ → List ℕ → List ℕ → Outcome
written refusal count new old =
    record { reply = replied refusal count; buffer = cond (eqb refusal 0) (overwrite new old) old }

-- "19 lent output or store buffer too short."
abbrev pub too_short : List ℕ → ℕ → Bool
too_short buffer size = ltb (length buffer) size

-- "11 in every call but opening and resume, which read no store: the lent bytes hold no sound store (too short included)."
abbrev pub holds_no_store : List ℕ → Bool
holds_no_store store = not (holds_store store)

-- The last test of opening, resume, pause, the copied board and the panes, which write so many bytes at the front of a lent buffer, is 19.
abbrev pub buffer_tests : List (ℕ × Bool) → List ℕ → ℕ → List (ℕ × Bool)
buffer_tests tests buffer size = tests ++ (19 when too_short buffer size ∷ [])

-- The calls that change a store, first opening: "Opening makes version 0 with console 0 on it."
abbrev pub open_tests : ℕ → List ℕ → List (ℕ × Bool)
open_tests capacity store = buffer_tests (8 when not (settings_in_range (open_settings capacity)) ∷ []) store (store_size capacity)

unfoldable pub open_outcome : ℕ → List ℕ → Outcome
open_outcome capacity store = written (first_refusal (open_tests capacity store)) 0 (encode (fresh capacity)) store

-- a command that was decoded whole: 11, then the tests of the state, 12 to 18 and 21 to 23
abbrev pub command_tests : List ℕ → Command → List (ℕ × Bool)
command_tests store c = 11 when holds_no_store store ∷ state_tests (room_in store) (version_free (room_in store)) c

-- what was decoded, on a store
unfoldable pub step_outcome : List ℕ → Result Command ℕ → Outcome
step_outcome store (Err n) = written n 0 [] store
step_outcome store (Ok c) =
    let room : Room = room_in store in
    let next : List ℕ = encode (step room c) in
    written (first_refusal (command_tests store c)) (clash_count room c) next store

unfoldable pub command_outcome : List ℕ → List ℕ → Outcome
command_outcome store command = step_outcome store (decode command)

-- resume: "7 tape isn't such a sequence of whole records", 8 to 10, and the store of the room that the tape gives
abbrev pub resume_tests : Option Content → List ℕ → List (ℕ × Bool)
resume_tests none store = tape_tests none
resume_tests (some t) store = buffer_tests (tape_tests (some t)) store (store_size t.settings.capacity)

unfoldable pub resumed : Option Content → List ℕ → Outcome
resumed none store = written (first_refusal (resume_tests none store)) 0 [] store
resumed (some t) store = written (first_refusal (resume_tests (some t) store)) 0 (encode (room_of t)) store

unfoldable pub resume_outcome : List ℕ → List ℕ → Outcome
resume_outcome tape store = resumed (content_of tape) store

-- The calls that ask a store: the questions and pause. One that answers a number: refused by the first of its tests that applies,
-- else that number.
abbrev pub question_reply : List (ℕ × Bool) → ℕ → Reply
question_reply tests number = replied (first_refusal tests) number

-- one that writes so many bytes at the front of a lent output, and counts them
abbrev pub output_outcome : List (ℕ × Bool) → ℕ → List ℕ → List ℕ → Outcome
output_outcome tests size new output = written (first_refusal (buffer_tests tests output size)) size new output

-- why a store can't be asked about a console: the refusals from the state
abbrev pub console_state_tests : List ℕ → ℕ → List (ℕ × Bool)
console_state_tests store console =
    11 when holds_no_store store
    ∷ 12 when absent (room_in store) console
    ∷ []

-- with the one from the input before them
abbrev pub console_tests : List ℕ → ℕ → List (ℕ × Bool)
console_tests store console =
    3 when not (is_console console)
    ∷ console_state_tests store console

-- the same for two consoles
abbrev pub pair_state_tests : List ℕ → ℕ → ℕ → List (ℕ × Bool)
pair_state_tests store first second =
    11 when holds_no_store store
    ∷ 12 when (absent (room_in store) first || absent (room_in store) second)
    ∷ []

abbrev pub pair_tests : List ℕ → ℕ → ℕ → List (ℕ × Bool)
pair_tests store first second =
    3 when (not (is_console first) || not (is_console second))
    ∷ pair_state_tests store first second

-- "its heard count"
unfoldable pub heard_reply : List ℕ → ℕ → Reply
heard_reply store console =
    let room : Room = room_in store in
    question_reply (console_tests store console) (heard_count room console)

-- "the common version of two consoles (of a console with itself: its head)"
unfoldable pub common_reply : List ℕ → ℕ → ℕ → Reply
common_reply store first second =
    let room : Room = room_in store in
    question_reply (pair_tests store first second) (common room first second)

-- "Add a question: console, strip, cell (0 level, 1 heading)." "(Another cell: 5.)" The refusals from the input, then those from the state.
abbrev pub origin_input_tests : ℕ → ℕ → ℕ → List (ℕ × Bool)
origin_input_tests console strip cell =
    3 when not (is_console console)
    ∷ 4 when not (is_strip strip)
    ∷ 5 when not (is_cell cell)
    ∷ []

abbrev pub origin_tests : List ℕ → ℕ → ℕ → ℕ → List (ℕ × Bool)
origin_tests store console strip cell = origin_input_tests console strip cell ++ console_state_tests store console

unfoldable pub origin_reply : List ℕ → ℕ → ℕ → ℕ → Reply
origin_reply store console strip cell =
    let room : Room = room_in store in
    question_reply (origin_tests store console strip cell) (origin room console strip (cell_of cell))

-- the board that a console shows: that of its head
abbrev pub board_shown : Room → ℕ → List ℕ
board_shown room console = board_of room.versions (head room console)

-- "Each is copied out as a board is.": the instructor's or the student's pane of a console
unfoldable pub pane_outcome : Viewer → List ℕ → ℕ → List ℕ → Outcome
pane_outcome viewer store console output =
    output_outcome (console_tests store console) board_size (pane_of viewer (board_shown (room_in store) console)) output

-- "a console's board copied out": "The instructor's pane is the board."
abbrev pub board_outcome : List ℕ → ℕ → List ℕ → Outcome
board_outcome store console output = pane_outcome Instructor store console output

-- "Given the live store and a resumed one, a console and a choice byte (0 live, 1 frozen), return the 384 bytes of that console's board as a
-- part of the store chosen, with no copy." Of two stores, or of the pointers to them, the one that the choice names; where it names none the
-- frozen one, and the view is refused. A choice is never cut to 8 bits.
abbrev pub chosen : {X : Type 0} → ℕ → X → X → X
chosen choice live frozen = cond (eqb choice 0) live frozen

abbrev pub is_choice : ℕ → Bool
is_choice choice = ltb choice 2

-- "(Another choice byte: 5.)"
abbrev pub view_input_tests : ℕ → ℕ → List (ℕ × Bool)
view_input_tests console choice =
    3 when not (is_console console)
    ∷ 5 when not (is_choice choice)
    ∷ []

-- "Only the chosen store is tested for soundness."
abbrev pub view_tests : List ℕ → List ℕ → ℕ → ℕ → List (ℕ × Bool)
view_tests live frozen console choice = view_input_tests console choice ++ console_state_tests (chosen choice live frozen) console

-- the part's bytes; "A refusal gives a part of length 0"
unfoldable pub view_part : List ℕ → List ℕ → ℕ → ℕ → List ℕ
view_part live frozen console choice =
    cond (eqb (first_refusal (view_tests live frozen console choice)) 0) (board_shown (room_in (chosen choice live frozen)) console) []

-- where the part begins in the store chosen: at the board of the console's head. An exported call can't return a reference, so that C is told
-- this, and the part itself is returned to Rattle alone.
unfoldable pub view_at_reply : List ℕ → List ℕ → ℕ → ℕ → Reply
view_at_reply live frozen console choice =
    let room : Room = room_in (chosen choice live frozen) in
    question_reply (view_tests live frozen console choice) (board_at (head room console))

-- where the part lies in memory, by the pointers to the two stores: in the store chosen, at that place
abbrev pub view_address : ℕ × ℕ → ℕ × ℕ → List ℕ → List ℕ → ℕ → ℕ → ℕ × ℕ
view_address toLive toFrozen live frozen console choice =
    address_of (chosen choice toLive toFrozen) (view_at_reply live frozen console choice).count

-- "a second question with the same operands gives its number, or 0, and counts 0"
unfoldable pub view_refusal_reply : List ℕ → List ℕ → ℕ → ℕ → Reply
view_refusal_reply live frozen console choice = question_reply (view_tests live frozen console choice) 0

-- why a room as a whole can't be asked about
abbrev pub room_tests : List ℕ → List (ℕ × Bool)
room_tests store = 11 when holds_no_store store ∷ []

-- "Add a question that answers the first pair"
unfoldable pub mergeable_reply : List ℕ → Reply
mergeable_reply store =
    let room : Room = room_in store in
    question_reply (room_tests store) (mergeable room)

-- pause: the tape of the room, and how many bytes it has
unfoldable pub pause_outcome : List ℕ → List ℕ → Outcome
pause_outcome store output =
    let tape : List ℕ = tape_of (room_in store) in
    output_outcome (room_tests store) (length tape) tape output

-- what a pause that answers 0 wrote, as many bytes as it counts
abbrev pub paused_tape : List ℕ → List ℕ → List ℕ
paused_tape store output = take (pause_outcome store output).reply.count (pause_outcome store output).buffer

-- The other store of a view: it is the frozen one, and the store that is asked the live one, or the other way round. The same store twice is
-- either, with that store's bytes.
pub data Beside : Type 0 where
  as_live : List ℕ → Beside
  as_frozen : List ℕ → Beside

-- what a question about a live store and a frozen one replies, where this store is one of the two
abbrev pub reply_beside : (List ℕ → List ℕ → Reply) → List ℕ → Beside → Reply
reply_beside reply store (as_live frozen) = reply store frozen
reply_beside reply store (as_frozen live) = reply live store

-- What a store is asked, with the output lent for it: "the three questions (board, heard count, common version)", where a cell comes from,
-- about the view of a console in this store or in another beside it, which two can merge or fast-forward, the panes of a console, and its tape.
pub data Question : Type 0 where
  heard : ℕ → Question
  common_version : ℕ → ℕ → Question
  cell_origin : ℕ → ℕ → ℕ → Question
  view_at : Beside → ℕ → ℕ → Question
  view_refusal : Beside → ℕ → ℕ → Question
  mergeable_pair : Question
  board : ℕ → List ℕ → Question
  pane : Viewer → ℕ → List ℕ → Question
  pause : List ℕ → Question

-- its reply and the output lent to it afterwards, [] where none is
unfoldable pub answer_to : List ℕ → Question → Outcome
answer_to store (heard console) = record { reply = heard_reply store console; buffer = [] }
answer_to store (common_version first second) = record { reply = common_reply store first second; buffer = [] }
answer_to store (cell_origin console strip cell) = record { reply = origin_reply store console strip cell; buffer = [] }
answer_to store (view_at beside console choice) =
    record { reply = reply_beside (λ live frozen. view_at_reply live frozen console choice) store beside; buffer = [] }
answer_to store (view_refusal beside console choice) =
    record { reply = reply_beside (λ live frozen. view_refusal_reply live frozen console choice) store beside; buffer = [] }
answer_to store mergeable_pair = record { reply = mergeable_reply store; buffer = [] }
answer_to store (board console output) = board_outcome store console output
answer_to store (pane viewer console output) = pane_outcome viewer store console output
answer_to store (pause output) = pause_outcome store output

-- A call on a store: one that changes it, or one that asks it.
pub data Call : Type 0 where
  opening : ℕ → Call
  command : List ℕ → Call
  resume : List ℕ → Call
  question : Question → Call

-- its reply
unfoldable pub reply_to : List ℕ → Call → Reply
reply_to store (opening capacity) = (open_outcome capacity store).reply
reply_to store (command c) = (command_outcome store c).reply
reply_to store (resume tape) = (resume_outcome tape store).reply
reply_to store (question q) = (answer_to store q).reply

-- and the store's buffer afterwards, which a call that asks leaves as it is
unfoldable pub store_after : List ℕ → Call → List ℕ
store_after store (opening capacity) = (open_outcome capacity store).buffer
store_after store (command c) = (command_outcome store c).buffer
store_after store (resume tape) = (resume_outcome tape store).buffer
store_after store (question q) = store

-- the replies to a list of calls, given one after the other, and the answer in each
unfoldable pub replies_to : List ℕ → List Call → List Reply
replies_to store [] = []
replies_to store (c ∷ calls) = reply_to store c ∷ replies_to (store_after store c) calls

abbrev pub answers_of : List ℕ → List Call → List ℕ
answers_of store calls = map (λ (r : Reply). r.answer) (replies_to store calls)

-- the store's buffer after the list: `after_calls` of demand 3 without its journal
unfoldable pub store_after_all : List ℕ → List Call → List ℕ
store_after_all store [] = store
store_after_all store (c ∷ calls) = store_after_all (store_after store c) calls
