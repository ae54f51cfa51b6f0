-- A version appended to a store in place: the bytes of its block, made of the blocks of its parents, and the store with that block written.
use Rattle.std.specs.Prelude.{ℕ, List, ◌++◌}
use Rattle.buffer.specs.Field.{with_part}
use Rattle.buffer.specs.Row.{with_member, union}
use Rattle.board.specs.Board.{enter}
use Rattle.graph.specs.declared.Node.{Node}
use Rattle.graph.specs.declared.Node.TheVariants.{Entry, Merge}
use Rattle.store.specs.Layout.{entries_at, block_at, entry_node_bytes, merge_node_bytes}
use Rattle.store.specs.Check.{row_part, board_part, merge_of_boards, entries_part}

-- the block of version n, an entry on p
unfoldable pub entry_block : List ℕ → ℕ → ℕ → ℕ → ℕ → ℕ → List ℕ
entry_block s n p code strip operand =
    entry_node_bytes p code strip operand ++ with_member (row_part s p) n ++ enter code strip operand (board_part s p)

-- the block of version n, a merge of q into p with the base l
unfoldable pub merge_block : List ℕ → ℕ → ℕ → ℕ → ℕ → List ℕ
merge_block s n p q l =
    merge_node_bytes p q l ++ with_member (union (row_part s p) (row_part s q)) n
    ++ (merge_of_boards s p q l).bytes

-- the store with the entry n on p written, and n among its entries
unfoldable pub with_entry : List ℕ → ℕ → ℕ → ℕ → ℕ → ℕ → List ℕ
with_entry s n p code strip operand =
    with_part (with_part s (block_at n) (entry_block s n p code strip operand)) entries_at (with_member (entries_part s) n)

-- the store with the merge n of q into p written
unfoldable pub with_merge : List ℕ → ℕ → ℕ → ℕ → ℕ → List ℕ
with_merge s n p q l = with_part s (block_at n) (merge_block s n p q l)

-- the store with version n written, whatever made it; of a merge, l is the base
abbrev pub appended : List ℕ → ℕ → Node → ℕ → List ℕ
appended s n (Entry p code strip operand) l = with_entry s n p.0 code strip.0 operand
appended s n (Merge p q) l = with_merge s n p.0 q.0 l

-- the bytes of its node
abbrev pub node_with : Node → ℕ → List ℕ
node_with (Entry p code strip operand) l = entry_node_bytes p.0 code strip.0 operand
node_with (Merge p q) l = merge_node_bytes p.0 q.0 l
