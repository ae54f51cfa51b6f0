-- "every board is what the rules below give": the board of each version of a graph.
use Rattle.std.specs.Prelude.{ℕ, cond, List, [], ◌∷◌, eqb}
use Rattle.board.specs.Board.{Merged, empty_board, enter, merge_board}
use Rattle.graph.specs.declared.Node.{Node}
use Rattle.graph.specs.declared.Node.TheVariants.{Entry, Merge}
use Rattle.graph.specs.Graph.{Graph, version_count, base_of}

-- what a merge of version q into version p makes, given the board of each version and the base of each two: its board, and its clashes
abbrev pub merge_of : (ℕ → List ℕ) → (ℕ → ℕ → ℕ) → ℕ → ℕ → Merged
merge_of board base p q = merge_board (board (base p q)) (board p) (board q)

-- the board of a new version, given the boards and bases of those before it
unfoldable pub board_made : (ℕ → List ℕ) → (ℕ → ℕ → ℕ) → Node → List ℕ
board_made board base (Entry p code strip operand) = enter code strip.0 operand (board p.0)
board_made board base (Merge p q) = (merge_of board base p.0 q.0).bytes

-- the board of version v
unfoldable pub board_of : Graph → ℕ → List ℕ
board_of [] v = empty_board
board_of (n ∷ g) v = cond (eqb v (version_count g)) (board_made (board_of g) (base_of g) n) (board_of g v)
