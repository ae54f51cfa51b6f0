-- Where the question for the origin of a cell is accepted, the version that it counts is 0 and the copied board shows 0, or it is an entry that
-- the console has heard and that wrote the value shown.
-- Assumes nothing.
use Prim.Native.Nat.{ℕ, ◌≤◌}
use mathlib.Core.Path.{◌≡◌, refl, sym, ap}
use mathlib.Core.List.{List}
use native.Mathlib.Omega.{arith}
use lib.ListN.{length}
use Rattle.buffer.proofs.Fields.{word_at-left}
use Rattle.board.specs.Board.{board_size, cell_of, cell_at}
use Rattle.board.proofs.Cells.{cell_inside}
use Rattle.room.specs.Room.{head}
use Rattle.room.specs.Origin.{origin, value_shown}
use Rattle.room.proofs.Lengths.{board_of-length}
use Rattle.room.proofs.Origins.{origin_none, origin_heard, origin_wrote}
use Rattle.store.specs.Layout.{room_in}
use Rattle.store.proofs.RoundTrip.{holds_sound}
use Rattle.unit.specs.declared.Reply.{Reply}
use Rattle.unit.specs.Calls.{replied, board_shown, origin_reply}
use Rattle.claims.specs.Traced.{shown_by, OriginsTraced}
use Rattle.unit.proofs.Answered.{Askable, origin_allowed}
use Rattle.claims.proofs.Convergence.{board_shown_lem}

-- an accepted question counts the origin
accepted : (store : List ℕ) (c k cell v : ℕ) → origin_reply store c k cell ≡ replied 0 v → Askable store c k cell × (v ≡ origin (room_in store) c k (cell_of cell))
unfolding origin_reply
accepted store c k cell v told =
    let none = ap (λ (r : Reply). r.answer) told in
    (origin_allowed store c k cell refl none, sym (rw none at (ap (λ (r : Reply). r.count) told)))

-- the copied board shows the value of the head's board
shown_is : (store : List ℕ) (c k cell : ℕ) → Askable store c k cell → (output : List ℕ) → board_size ≤ length output
    → shown_by store c k cell output ≡ value_shown (room_in store) c k (cell_of cell)
shown_is store c k cell asked output fits =
    let r = room_in store in
    let board = board_shown r c in
    rw (board_shown_lem store asked.held c asked.here output fits)
    (word_at-left board _ (cell_at (cell_of cell) k) (omega (arith, cell_inside (cell_of cell) k asked.is_strip_lem, board_of-length r.versions (head r c))))

pub origins_traced : OriginsTraced
origins_traced store c k cell v told output fits =
    let answer = accepted store c k cell v told in
    let asked = answer.0 in
    let r = room_in store in
    let sound = holds_sound store asked.held in
    rw (answer.1, shown_is store c k cell asked output fits)
    record {
      unwritten = origin_none r c k (cell_of cell) sound asked.here asked.is_strip_lem;
      heard = origin_heard r c k (cell_of cell) sound asked.here asked.is_strip_lem;
      wrote = origin_wrote r c k (cell_of cell) sound asked.here asked.is_strip_lem;
    }
