-- The parts of a block that are written one behind the other make the block.
-- Assumes nothing.
use Prim.Native.Nat.{ℕ, suc, ◌+◌, ◌<◌, ◌≤◌}
use mathlib.Core.Path.{◌≡◌, refl, ap, ◌∙◌}
use mathlib.Core.List.{List, ◌++◌}
use native.Mathlib.Omega.{arith}
use lib.Bits.{bit_or}
use lib.ListN.{length, set, take, drop, length-append, length-set}
use Rattle.buffer.specs.Field.{byte, put_word, zeros, with_part}
use Rattle.buffer.specs.Row.{with_member, union}
use Rattle.buffer.proofs.Fields.{part_length}
use Rattle.buffer.proofs.Bytewise.{bytewise_length}
use Rattle.buffer.proofs.Patches.{with_length, with_part_lem, with_here, with_next, put_back, part_before}
use Rattle.board.specs.Board.{board_size, enter, merge_board}
use Rattle.board.proofs.Length.{enter_length, merge_board-length}
use Rattle.graph.specs.declared.Node.{Node}
use Rattle.graph.specs.declared.Node.TheVariants.{Entry, Merge}
use Rattle.store.specs.Layout.{node_size, row_size, block_size, entries_at, block_at, row_at, board_at, entry_node_bytes, merge_node_bytes, merge_node_code}
use Rattle.store.specs.Check.{row_part, board_part, merge_of_boards, entries_part}
use Rattle.update.specs.Append.{entry_block, merge_block, with_entry, with_merge, node_with}

-- the nodes, from their first byte on
pub entry_node_made : (node z a b c d : List ℕ) (p code strip operand : ℕ) → length node ≡ node_size → z ≡ zeros (length node)
    → a ≡ set z 0 (byte code) → b ≡ set a 1 (byte strip) → c ≡ put_word b 2 operand → d ≡ put_word c 4 p → d ≡ entry_node_bytes p code strip operand
entry_node_made node z a b c d p code strip operand l ez ea eb ec ed = rw (ed, ec, eb, ea, ez, l)

pub merge_node_made : (node z a b c d : List ℕ) (p q l : ℕ) → length node ≡ node_size → z ≡ zeros (length node)
    → a ≡ set z 0 (byte merge_node_code) → b ≡ put_word a 4 p → c ≡ put_word b 6 q → d ≡ put_word c 8 l → d ≡ merge_node_bytes p q l
merge_node_made node z a b c d p q l long ez ea eb ec ed = rw (ed, ec, eb, ea, ez, long)

pub node_long : (node : Node) (l : ℕ) → length (node_with node l) ≡ node_size
node_long (Entry p code strip operand) l = refl
node_long (Merge p q) l = refl

-- rows and boards keep their lengths
pub member_keeps : (n v : ℕ) (x : List ℕ) → length x ≡ n → length (with_member x v) ≡ n
member_keeps n v x l = length-set x _ _ ∙ l

joined_keeps : (n v : ℕ) (other x : List ℕ) → length other ≡ n → length x ≡ n → length (with_member (union x other) v) ≡ n
joined_keeps n v other x k l = member_keeps n v (union x other) (bytewise_length bit_or x other (omega arith) ∙ l)

pub entered_keeps : (n code k operand : ℕ) (x : List ℕ) → length x ≡ n → length (enter code k operand x) ≡ n
entered_keeps n code k operand x l = enter_length code k operand x ∙ l

-- the board of version p, copied over whatever stands in the part of version n: the part is then that board
pub parent_put : (s : List ℕ) (n p : ℕ) {t : List ℕ} → p < n → block_at (suc n) ≤ length s → t ≡ with_part s (board_at n) (board_part s p)
    → (t ≡ with_part s (board_at n) (board_part s p)) × (board_part t n ≡ board_part s p)
parent_put s n p lower fits e =
    let long : length (board_part s p) ≡ board_size = part_length s (board_at p) board_size (omega arith) in
    (e, ap (λ (u : List ℕ). board_part u n) e ∙ with_here s (board_part s p) (board_at n) (omega arith) board_size long)

-- the board of a merge, put where its version's begins, of boards that stand before that place
module _ (s : List ℕ) (n : ℕ) (fits : block_at (suc n) ≤ length s) where
  board_before : (v : ℕ) → v < n → board_part (take (board_at n) s) v ≡ board_part s v
  board_before v l = part_before s (board_at v) board_size (board_at n) (omega arith) (omega arith)

  pub merged_put : (p q l : ℕ) → p < n → q < n → l < n → {new : List ℕ} {clashes : ℕ}
      → (new ≡ (merge_board (board_part (take (board_at n) s) l) (board_part (take (board_at n) s) p) (board_part (take (board_at n) s) q)).bytes)
      × (clashes ≡ (merge_board (board_part (take (board_at n) s) l) (board_part (take (board_at n) s) p) (board_part (take (board_at n) s) q)).clashes)
      → (take (board_at n) s ++ (new ++ drop board_size (drop (board_at n) s)) ≡ with_part s (board_at n) (merge_of_boards s p q l).bytes)
      × (clashes ≡ (merge_of_boards s p q l).clashes)
  merged_put p q l i j k {new} {clashes} e =
      let merged : (new ≡ (merge_of_boards s p q l).bytes) × (clashes ≡ (merge_of_boards s p q l).clashes) = rw (board_before p i, board_before q j, board_before l k) at e in
      (rw merged.0 (put_back s (merge_of_boards s p q l).bytes (board_at n) board_size (merge_board-length (board_part s l) (board_part s p) (board_part s q))), merged.1)

-- the row and the board of a lower version stay as they were
module _ (s x : List ℕ) (n at v : ℕ) (lower : v < n) (behind : block_at n ≤ at) (fits : at + length x ≤ length s) where
  row_kept : row_part (with_part s at x) v ≡ row_part s v
  row_kept = with_part_lem s x at fits (row_at v) row_size (omega arith) (λ k l a b. omega arith)

  board_kept : board_part (with_part s at x) v ≡ board_part s v
  board_kept = with_part_lem s x at fits (board_at v) board_size (omega arith) (λ k l a b. omega arith)

-- a block written node, row and board
module _ (s node line board : List ℕ) (n : ℕ) (fits : block_at (suc n) ≤ length s) (ln : length node ≡ node_size) (ll : length line ≡ row_size)
    (lb : length board ≡ board_size) where
  block_long : length (node ++ line ++ board) ≡ block_size
  block_long = rw (length-append, length-append) (omega arith)

  block_written : {a b c : List ℕ} → a ≡ with_part s (block_at n) node → b ≡ with_part a (row_at n) line → c ≡ with_part b (board_at n) board
      → c ≡ with_part s (block_at n) (node ++ line ++ board)
  block_written ea eb ec =
      let front : length (node ++ line) ≡ node_size + row_size = rw length-append (omega arith) in
      rw (ec, eb, ea)
      (ap (λ (t : List ℕ). with_part t (board_at n) board) (with_next s node (block_at n) (omega arith) (row_at n) line (omega arith))
      ∙ with_next s (node ++ line) (block_at n) (omega arith) (board_at n) board (omega arith))

module _ (s : List ℕ) (n : ℕ) (fits : block_at (suc n) ≤ length s) where
  row_long : (v : ℕ) → v < n → length (row_part s v) ≡ row_size
  row_long v l = part_length s (row_at v) row_size (omega arith)

  board_long : (v : ℕ) → v < n → length (board_part s v) ≡ board_size
  board_long v l = part_length s (board_at v) board_size (omega arith)

  -- an entry
  module _ (p code strip operand : ℕ) (lower : p < n) where
    abbrev entry_line : List ℕ
    entry_line = with_member (row_part s p) n

    abbrev entry_board : List ℕ
    entry_board = enter code strip operand (board_part s p)

    entry_line-length : length entry_line ≡ row_size
    entry_line-length = member_keeps row_size n (row_part s p) (row_long p lower)

    entry_board-length : length entry_board ≡ board_size
    entry_board-length = entered_keeps board_size code strip operand (board_part s p) (board_long p lower)

    pub entry_block-length : length (entry_block s n p code strip operand) ≡ block_size
    unfolding entry_block
    entry_block-length =
        block_long s (entry_node_bytes p code strip operand) entry_line entry_board n fits refl entry_line-length entry_board-length

    pub entry_appended : (a b c d : List ℕ) → a ≡ with_part s (block_at n) (entry_node_bytes p code strip operand)
        → b ≡ with_part a (row_at n) (with_member (row_part a p) n) → c ≡ with_part b (board_at n) (enter code strip operand (board_part b p))
        → d ≡ with_part c entries_at (with_member (entries_part c) n) → d ≡ with_entry s n p code strip operand
    unfolding with_entry entry_block
    entry_appended a b c d ea eb ec ed =
        let node : List ℕ = entry_node_bytes p code strip operand in
        let ln : length node ≡ node_size = refl in
        let ll = entry_line-length in
        let one : row_part a p ≡ row_part s p = rw ea (row_kept s node n (block_at n) p lower (omega arith) (omega arith)) in
        let two : b ≡ with_part a (row_at n) entry_line = rw one at eb in
        let long : length a ≡ length s = rw ea (with_length s node (block_at n) (omega arith)) in
        let three : board_part b p ≡ board_part s p =
        ap (λ (t : List ℕ). board_part t p) two
        ∙ board_kept a entry_line n (row_at n) p lower (omega arith) (omega arith)
        ∙ ap (λ (t : List ℕ). board_part t p) ea
        ∙ board_kept s node n (block_at n) p lower (omega arith) (omega arith) in
        let four : c ≡ with_part b (board_at n) entry_board = rw three at ec in
        let whole = block_written s node entry_line entry_board n fits ln ll entry_board-length ea two four in
        let size = entry_block-length in
        let five : entries_part c ≡ entries_part s =
        rw whole (with_part_lem s (node ++ entry_line ++ entry_board) (block_at n) (omega arith) entries_at row_size (omega arith) (λ k l x y. omega arith)) in
        ed ∙ rw (five, whole)

  -- a merge
  module _ (p q l : ℕ) (first : p < n) (second : q < n) (third : l < n) where
    abbrev merge_line : List ℕ
    merge_line = with_member (union (row_part s p) (row_part s q)) n

    abbrev merged_board : List ℕ
    merged_board = (merge_of_boards s p q l).bytes

    merge_line-length : length merge_line ≡ row_size
    merge_line-length = joined_keeps row_size n (row_part s q) (row_part s p) (row_long q second) (row_long p first)

    merged_board-length : length merged_board ≡ board_size
    merged_board-length = merge_board-length (board_part s l) (board_part s p) (board_part s q)

    pub merge_block-length : length (merge_block s n p q l) ≡ block_size
    unfolding merge_block
    merge_block-length = block_long s (merge_node_bytes p q l) merge_line merged_board n fits refl merge_line-length merged_board-length

    pub merge_appended : (a b c : List ℕ) (clashes : ℕ) → a ≡ with_part s (block_at n) (merge_node_bytes p q l)
        → b ≡ with_part a (row_at n) (with_member (union (row_part a p) (row_part a q)) n)
        → (c ≡ with_part b (board_at n) (merge_of_boards b p q l).bytes) × (clashes ≡ (merge_of_boards b p q l).clashes)
        → (c ≡ with_merge s n p q l) × (clashes ≡ (merge_of_boards s p q l).clashes)
    unfolding with_merge merge_block
    merge_appended a b c clashes ea eb ec =
        let node : List ℕ = merge_node_bytes p q l in
        let ln : length node ≡ node_size = refl in
        let ll = merge_line-length in
        let row : (v : ℕ) → v < n → row_part a v ≡ row_part s v =
        λ v i. rw ea (row_kept s node n (block_at n) v i (omega arith) (omega arith)) in
        let two : b ≡ with_part a (row_at n) merge_line = rw (row p first, row q second) at eb in
        let long : length a ≡ length s = rw ea (with_length s node (block_at n) (omega arith)) in
        let board : (v : ℕ) → v < n → board_part b v ≡ board_part s v =
        λ v i.
        ap (λ (t : List ℕ). board_part t v) two
        ∙ board_kept a merge_line n (row_at n) v i (omega arith) (omega arith)
        ∙ ap (λ (t : List ℕ). board_part t v) ea
        ∙ board_kept s node n (block_at n) v i (omega arith) (omega arith) in
        let four : (c ≡ with_part b (board_at n) merged_board) × (clashes ≡ (merge_of_boards s p q l).clashes) =
        rw (board l third, board p first, board q second) at ec in
        (block_written s node merge_line merged_board n fits ln ll merged_board-length ea two four.0, four.1)
