-- "Version 0 means that no such entry was met, and then the value is 0. Otherwise the found entry must be one that the console has heard
-- and must have written the value shown." For any bytes, wherever the question is accepted.
use Rattle.std.specs.Prelude.{ℕ, ◌≤◌, ◌<◌, ◌≡◌, true, List, length}
use Rattle.std.proofs.Math.Option.{some}
use Rattle.board.specs.Board.{board_size, cell_of, value_in, writing_code}
use Rattle.graph.specs.Graph.{entry, node_of}
use Rattle.room.specs.Room.{hears}
use Rattle.store.specs.Layout.{room_in}
use Rattle.unit.specs.Calls.{replied, board_outcome, origin_reply}

-- the value of a cell as the call that copies a console's board out shows it
abbrev pub shown_by : List ℕ → ℕ → ℕ → ℕ → List ℕ → ℕ
shown_by store console strip cell output = value_in (cell_of cell) strip (board_outcome store console output).buffer

pub record Traced (store : List ℕ) (console strip cell version shown : ℕ) : Type 0 where
  pub unwritten : version ≡ 0 → shown ≡ 0
  pub heard : 0 < version → hears (room_in store) console version ≡ true
  -- an entry on some parent, with the code that writes the cell, on that strip, whose operand is the value shown
  pub wrote : 0 < version → (parent : ℕ) × (node_of (room_in store).versions version ≡ some (entry parent (writing_code (cell_of cell)) strip shown))

-- the claim: the version that an accepted question counts, against a board copied out into any output that is long enough
abbrev pub OriginsTraced : Type 0
OriginsTraced = (store : List ℕ) (console strip cell version : ℕ) → origin_reply store console strip cell ≡ replied 0 version
    → (output : List ℕ) → board_size ≤ length output → Traced store console strip cell version (shown_by store console strip cell output)
