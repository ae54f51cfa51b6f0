-- "Instructors point at a level or heading and want the entry behind it." The origin of a cell of a console's board.
use Rattle.std.specs.Prelude.{ℕ, Bool, false, cond, ◌&&◌, [], ◌∷◌, eqb}
use Rattle.board.specs.declared.Cell.{Cell}
use Rattle.board.specs.Board.{value_in, writing_code, follows_giver}
use Rattle.graph.specs.declared.Node.{Node}
use Rattle.graph.specs.declared.Node.TheVariants.{Entry, Merge}
use Rattle.graph.specs.Graph.{Graph, version_count, base_of}
use Rattle.room.specs.Room.{Room, head}
use Rattle.room.specs.Boards.{board_of}

-- "an entry that writes the cell": one on strip k with the code of such entries
abbrev pub writes_cell : Cell → ℕ → Node → Bool
writes_cell cell k (Entry p code strip operand) = eqb code (writing_code cell) && eqb k strip.0
writes_cell cell k (Merge p q) = false

-- the value that version v shows
abbrev pub value_of : Cell → ℕ → Graph → ℕ → ℕ
value_of cell k g v = value_in cell k (board_of g v)

-- "if the receiver's value equals the base's and the giver's differs", at a merge of p and q
abbrev pub leads_to_giver : Cell → ℕ → Graph → ℕ → ℕ → Bool
leads_to_giver cell k g p q = follows_giver (value_of cell k g (base_of g p q)) (value_of cell k g p) (value_of cell k g q)

-- "any other entry leads to its parent. A merge leads to the giver's version if .., else to the receiver's." This is the request's word; the
-- journal's `leads`, of the paper, runs the other way. Not asked of an entry that writes the cell.
abbrev pub leads_to : Cell → ℕ → Graph → Node → ℕ
leads_to cell k g (Entry p code strip operand) = p.0
leads_to cell k g (Merge p q) = cond (leads_to_giver cell k g p.0 q.0) q.0 p.0

-- "an entry that writes the cell is the origin", and any other version has that of the version it leads to. "Version 0 means that no
-- such entry was met" on this way, though the console may have heard one: the origin of version 0, and of a number that names no version,
-- is 0.
unfoldable pub origin_of : Cell → ℕ → Graph → ℕ → ℕ
origin_of cell k [] v = 0
origin_of cell k (n ∷ g) v =
    cond (eqb v (version_count g))
    (cond (writes_cell cell k n) v (origin_of cell k g (leads_to cell k g n)))
    (origin_of cell k g v)

-- "From the head": the origin of a cell of strip k of console c's board, and the value shown there
unfoldable pub origin : Room → ℕ → ℕ → Cell → ℕ
origin r c k cell = origin_of cell k r.versions (head r c)

abbrev pub value_shown : Room → ℕ → ℕ → Cell → ℕ
value_shown r c k cell = value_of cell k r.versions (head r c)
