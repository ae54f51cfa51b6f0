-- "every board is what the rules below give": what a rule of boards is, and the paper's. Rooms and graphs do not choose among rules yet: their
-- boards are the paper's.
use Rattle.std.specs.Prelude.{ℕ, ◌≡◌, List, length}
use Rattle.board.specs.Board.{Merged, board_size, empty_board, enter, merge_board}

pub record Rule : Type 0 where
  -- how many bytes a board has
  pub size : ℕ
  -- the board of version 0
  pub empty : List ℕ
  -- the board after an entry of this code on strip k with operand x
  pub entered : ℕ → ℕ → ℕ → List ℕ → List ℕ
  -- the board of a merge of base, receiver and giver, with its clashes
  pub merged : List ℕ → List ℕ → List ℕ → Merged

-- the laws of lengths: of boards of its size a rule makes boards of its size
pub record Lawful (rule : Rule) : Type 0 where
  pub empty : length rule.empty ≡ rule.size
  pub entered : (code k x : ℕ) (s : List ℕ) → length s ≡ rule.size → length (rule.entered code k x s) ≡ rule.size
  pub merged : (l a b : List ℕ) → length l ≡ rule.size → length a ≡ rule.size → length b ≡ rule.size → length (rule.merged l a b).bytes ≡ rule.size

-- the rule of the paper
abbrev pub paper_rule : Rule
paper_rule = record { size = board_size; empty = empty_board; entered = enter; merged = merge_board }
