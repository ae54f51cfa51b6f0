-- Seven, as a caller sees it, on any bytes: what the part and the two questions about it say together, and that a frozen store shows each
-- console as it was when the room was paused. That the part lies in the store chosen, and is no copy, is the pointer in the contract of
-- `room_view` (unit/src/views.rt).
use Rattle.std.specs.Prelude.{ℕ, ◌+◌, ◌≤◌, ◌≡◌, cond, List, [], eqb, length}
use Rattle.buffer.specs.Field.{part}
use Rattle.board.specs.Board.{board_size}
use Rattle.command.specs.Code.{is_console}
use Rattle.room.specs.Room.{Room, head}
use Rattle.store.specs.Layout.{store_size, board_at, room_in}
use Rattle.unit.specs.declared.Reply.{Reply}
use Rattle.unit.specs.Calls.{replied, written, common_reply, board_shown, board_outcome, view_part, view_at_reply, view_refusal_reply, pause_outcome, paused_tape, resume_outcome}

-- the part's bytes, and what the two questions with the same operands reply
pub record View : Type 0 where
  pub bytes : List ℕ
  pub at_reply : Reply
  pub refusal_reply : Reply

abbrev pub view_of : List ℕ → List ℕ → ℕ → ℕ → View
view_of live frozen console choice = record {
  bytes = view_part live frozen console choice;
  at_reply = view_at_reply live frozen console choice;
  refusal_reply = view_refusal_reply live frozen console choice;
}

-- a view that both questions refuse with this number
abbrev pub refused_view : ℕ → View
refused_view number = record { bytes = []; at_reply = replied number 0; refusal_reply = replied number 0 }

-- one that is not refused, of a store with this room
abbrev pub shown_view : Room → ℕ → View
shown_view room console = record {
  bytes = board_shown room console;
  at_reply = replied 0 (board_at (head room console));
  refusal_reply = replied 0 0;
}

-- what is said of a view of this store
pub record Told (store : List ℕ) (console : ℕ) (view : View) : Type 0 where
  -- both questions answer alike, and the second counts 0
  pub answer : view.at_reply.answer ≡ view.refusal_reply.answer
  pub no_count : view.refusal_reply.count ≡ 0
  -- "A refusal gives a part of length 0", and nothing else does
  pub size : length view.bytes ≡ cond (eqb view.refusal_reply.answer 0) board_size 0
  -- the place that the first counts: that of the board of the console's head, which is its common version with itself
  pub place : view.at_reply.count ≡ cond (eqb view.refusal_reply.answer 0) (board_at (common_reply store console console).count) 0
  -- the part's bytes are those that stand there
  pub inside : view.at_reply.count + length view.bytes ≤ length store
  pub stands : view.bytes ≡ part store view.at_reply.count (length view.bytes)
  -- and those that are copied out as the console's board into any output that is long enough; or both are refused alike
  pub copied : (output : List ℕ) → board_size ≤ length output
      → board_outcome store console output ≡ written view.refusal_reply.answer board_size view.bytes output

-- "as it was at pause": of a room that was paused, and resumed into any buffer that is long enough, each console is shown as the paused store
-- showed it, whatever the live store is by then
abbrev pub AsPaused : Type 0
AsPaused = (store output lent : List ℕ) → (pause_outcome store output).reply.answer ≡ 0 → store_size (room_in store).settings.capacity ≤ length lent
    → let frozen = (resume_outcome (paused_tape store output) lent).buffer in
    (live other : List ℕ) (console : ℕ) → view_of live frozen console 1 ≡ view_of store other console 0

-- the claim
pub record Viewed : Type 0 where
  -- "Only the chosen store is tested for soundness", and nothing else of the other is looked at: live or frozen, a store is shown alike
  pub alone : (store other another : List ℕ) (console : ℕ) → view_of store other console 0 ≡ view_of another store console 1
  pub told : (store other : List ℕ) (console : ℕ) → Told store console (view_of store other console 0)
  -- "(Another choice byte: 5.)", after 3, whatever the stores are
  pub no_choice : (live frozen : List ℕ) (console choice : ℕ) → 2 ≤ choice → view_of live frozen console choice ≡ refused_view (cond (is_console console) 5 3)
  pub as_paused : AsPaused
