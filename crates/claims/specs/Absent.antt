-- A console that is absent, before it is forked and after it left, in terms of the calls: "the store has no common for it", nor a board, a
-- pane, a heard count, an origin or a view, and its number can be forked.
use Rattle.std.specs.Prelude.{ℕ, ◌<◌, ◌≡◌, true, false, List, [], ◌∷◌}
use Rattle.board.specs.Board.{strip_count, cell_count}
use Rattle.board.specs.declared.Viewer.{Viewer}
use Rattle.command.specs.Code.{console_count, fork_command}
use Rattle.room.specs.Room.{present}
use Rattle.room.specs.Step.{beside_hub}
use Rattle.store.specs.Layout.{room_in}
use Rattle.unit.specs.Calls.{replied, command_outcome, pane_outcome, heard_reply, common_reply, origin_reply}
use Rattle.unit.specs.View.{view_of, refused_view}

pub record Absent (store : List ℕ) (c : ℕ) : Type 0 where
  pub no_common : (d : ℕ) → d < console_count → (common_reply store c d ≡ replied 12 0) × (common_reply store d c ≡ replied 12 0)
  -- the instructor's is the board
  pub no_pane : (viewer : Viewer) (output : List ℕ) → pane_outcome viewer store c output ≡ record { reply = replied 12 0; buffer = output }
  pub no_heard : heard_reply store c ≡ replied 12 0
  pub no_origin : (k cell : ℕ) → k < strip_count → cell < cell_count → origin_reply store c k cell ≡ replied 12 0
  -- as the live store or as the frozen one
  pub no_view : (other : List ℕ) → (view_of store other c 0 ≡ refused_view 12) × (view_of other store c 1 ≡ refused_view 12)
  -- from any console that is present; in a room whose hub is console 0, from that one
  pub forkable : (old : ℕ) → present (room_in store) old ≡ true → beside_hub (room_in store) old ≡ false
      → (command_outcome store (fork_command ∷ c ∷ old ∷ [])).reply ≡ replied 0 0
