-- What the rows say of rooms is said of the calls, on a buffer that begins with the bytes of a sound room, whatever lies behind them.
use Rattle.std.specs.Prelude.{ℕ, ◌≤◌, ◌<◌, ◌≡◌, true, List, ◌++◌, map, length}
use Rattle.std.proofs.Math.Option.{Option, none, some}
use Rattle.board.specs.Board.{strip_count, cell_count, cell_of}
use Rattle.board.specs.declared.Viewer.{Viewer}
use Rattle.command.specs.Code.{console_count}
use Rattle.room.specs.Room.{Room, head_of, present}
use Rattle.room.specs.Origin.{origin}
use Rattle.room.specs.Mergeable.{mergeable}
use Rattle.store.specs.Layout.{encode}
use Rattle.tape.specs.Tape.{tape_of}
use Rattle.unit.specs.declared.Reply.{Reply}
use Rattle.unit.specs.Calls.{command, replied, written, pause_outcome, common_reply, origin_reply, mergeable_reply, pane_outcome, replies_to}
use Rattle.unit.specs.View.{view_of}
use Rattle.claims.specs.Journal.{Journal}
use Rattle.claims.specs.Convergence.{after_calls}
use Rattle.cases.specs.Run.{made, replies}
use Rattle.cases.specs.Requests.{view_in, pane_in}

-- how a head is told: the common version of a console with itself
abbrev pub head_reply : Option ℕ → Reply
head_reply none = replied 12 0
head_reply (some v) = replied 0 v

-- these commands on room r, with this rest behind its bytes; true of every sound room, with any rest and any commands
pub record Called (r : Room) (rest : List ℕ) (commands : List (List ℕ)) : Type 0 where
  pub answered : replies_to (encode r ++ rest) (map command commands) ≡ replies r commands
  -- the buffer afterwards, whatever journal is fed along
  pub stored : (j : Journal) → (after_calls (encode r ++ rest) j (map command commands)).0 ≡ encode (made r commands) ++ rest
  -- a pause of it, and its heads
  pub paused : (output : List ℕ) → length (tape_of (made r commands)) ≤ length output
      → pause_outcome (encode (made r commands) ++ rest) output ≡ written 0 (length (tape_of (made r commands))) (tape_of (made r commands)) output
  pub heads : (c : ℕ) → c < console_count → common_reply (encode (made r commands) ++ rest) c c ≡ head_reply (head_of (made r commands) c)
  -- where a cell of a present console comes from
  pub origins : (c k cell : ℕ) → present (made r commands) c ≡ true → k < strip_count → cell < cell_count
      → origin_reply (encode (made r commands) ++ rest) c k cell ≡ replied 0 (origin (made r commands) c k (cell_of cell))
  -- which two can merge or fast-forward
  pub pair : mergeable_reply (encode (made r commands) ++ rest) ≡ replied 0 (mergeable (made r commands))
  -- the view of a console, as the live store or as the frozen one, beside any bytes
  pub views : (other : List ℕ) (c : ℕ) → c < console_count → let store = encode (made r commands) ++ rest in
      (view_of store other c 0 ≡ view_in (made r commands) c) × (view_of other store c 1 ≡ view_in (made r commands) c)
  -- the panes of a console, into whatever is lent
  pub panes : (viewer : Viewer) (c : ℕ) → c < console_count → (lent : List ℕ)
      → pane_outcome viewer (encode (made r commands) ++ rest) c lent ≡ pane_in viewer (made r commands) c lent
