-- The board of every version of any graph is 384 bytes.
-- Assumes nothing.
use mathlib.Core.Path.{◌≡◌, ◌∙◌}
use mathlib.Core.Bool.{true, false, cond}
use mathlib.Core.List.{List, [], ◌∷◌}
use Prim.Native.Nat.{ℕ}
use lib.Dec.{eqb}
use lib.ListN.{length}
use Rattle.buffer.proofs.Fields.{zeros_length}
use Rattle.board.specs.Board.{board_size}
use Rattle.board.proofs.Length.{enter_length, merge_board-length}
use Rattle.graph.specs.declared.Node.{Node}
use Rattle.graph.specs.declared.Node.TheVariants.{Entry, Merge}
use Rattle.graph.specs.Graph.{Graph, version_count, meet_number}
use Rattle.room.specs.Boards.{board_made, board_of}

board_made-length : (board : ℕ → List ℕ) (base : ℕ → ℕ → ℕ) (n : Node)
    → ((v : ℕ) → length (board v) ≡ board_size) → length (board_made board base n) ≡ board_size
unfolding board_made
board_made-length board base (Entry p code strip operand) h = enter_length code strip.0 operand (board p.0) ∙ h p.0
board_made-length board base (Merge p q) h = merge_board-length (board (base p.0 q.0)) (board p.0) (board q.0)

pub board_of-length : (g : Graph) (v : ℕ) → length (board_of g v) ≡ board_size
unfolding board_of
board_of-length [] v = zeros_length board_size
board_of-length (n ∷ g) v =
    elim (eqb v (version_count g)) as (λ b. length (cond b (board_made (board_of g) (meet_number g) n) (board_of g v)) ≡ board_size) [
      | true ↦ board_made-length (board_of g) (meet_number g) n (board_of-length g)
      | false ↦ board_of-length g v
    ]
