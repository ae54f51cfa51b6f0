-- What theorems on boards may ask of one rule, each as a record of laws, and that the rule of the paper has them.
-- Assumes nothing.
use Prim.Native.Nat.{ℕ, ◌+◌, ◌<◌}
use mathlib.Core.Path.{◌≡◌, ◌∙◌}
use mathlib.Core.Bool.{true, false, ◌&&◌, ◌||◌}
use mathlib.Core.List.{List}
use native.Mathlib.Omega.{arith}
use lib.Dec.{eqb}
use lib.ListN.{length}
use Rattle.buffer.specs.Field.{word_at}
use Rattle.buffer.proofs.Fields.{zeros_length}
use Rattle.board.specs.declared.Cell.{Cell}
use Rattle.board.specs.Board.{strip_count, board_size, calls_at, alerts_at, value_in, mark_bit, merge_count, merge_cell, writing_code, mark_put_entry, mark_taken_entry, call_entry, alert_on_entry}
use Rattle.board.specs.Pane.{seen_marks}
use Rattle.board.specs.Rule.{Rule, Lawful, paper_rule}
use Rattle.board.proofs.Length.{enter_length, merge_board-length}
use Rattle.board.proofs.Cells.{empty_word, value_empty, calls_kept, alerts_kept, value_kept, call_counted, alert_counted, value_entered, calls_merged, alerts_merged, value_merged}
use Rattle.board.proofs.Seen.{Alike, alike_entered, alike_unseen, alike_merged}

-- a board of the rule's size: a law is asked of such boards alone, as no version has another
abbrev pub Fits : Rule → List ℕ → Type 0
Fits rule s = length s ≡ rule.size

pub paper_lawful : Lawful paper_rule
paper_lawful = record {
  empty = zeros_length board_size;
  entered = λ code k x s long. enter_length code k x s ∙ long;
  merged = λ l a b _ _ _. merge_board-length l a b;
}

-- a counter of strip k: the 16 bits at a place, to which entries of one code on that strip add 1, and which no other entry changes
pub record Counted (rule : Rule) (counting place k : ℕ) : Type 0 where
  pub empty : word_at rule.empty place ≡ 0
  pub kept : (code j x : ℕ) (s : List ℕ) → Fits rule s → eqb code counting && eqb k j ≡ false → word_at (rule.entered code j x s) place ≡ word_at s place
  pub counted : (x : ℕ) (s : List ℕ) → Fits rule s → word_at s place + 1 < 65536 → word_at (rule.entered counting k x s) place ≡ word_at s place + 1
  pub merged : (l a b : List ℕ) → Fits rule l → Fits rule a → Fits rule b → merge_count (word_at l place) (word_at a place) (word_at b place) < 65536
      → word_at (rule.merged l a b).bytes place ≡ merge_count (word_at l place) (word_at a place) (word_at b place)

-- the paper's two: calls and alert count
module _ (k : ℕ) (inside : k < strip_count) where
  pub paper_calls : Counted paper_rule call_entry (calls_at k) k
  paper_calls = record {
    empty = empty_word (calls_at k) (omega arith);
    kept = λ code j x s _ other. calls_kept code j x s k other;
    counted = λ x s long. call_counted k x s (omega arith);
    merged = λ l a b _ _ _. calls_merged l a b k inside;
  }

  pub paper_alerts : Counted paper_rule alert_on_entry (alerts_at k) k
  paper_alerts = record {
    empty = empty_word (alerts_at k) (omega arith);
    kept = λ code j x s _ other. alerts_kept code j x s k other;
    counted = λ x s long. alert_counted k x s (omega arith);
    merged = λ l a b _ _ _. alerts_merged l a b k inside;
  }

-- a level or a heading: the entries that write it, and no others, and a merge as the paper has it
pub record ValueLaws (rule : Rule) : Type 0 where
  pub empty : (cell : Cell) (k : ℕ) → k < strip_count → value_in cell k rule.empty ≡ 0
  pub kept : (cell : Cell) (k : ℕ) → k < strip_count → (code j x : ℕ) (s : List ℕ) → Fits rule s → eqb code (writing_code cell) && eqb k j ≡ false
      → value_in cell k (rule.entered code j x s) ≡ value_in cell k s
  pub written : (cell : Cell) (k : ℕ) → k < strip_count → (x : ℕ) (s : List ℕ) → Fits rule s → x < 65536
      → value_in cell k (rule.entered (writing_code cell) k x s) ≡ x
  pub merged : (cell : Cell) (k : ℕ) → k < strip_count → (l a b : List ℕ) → Fits rule l → Fits rule a → Fits rule b → (merge_cell cell k l a b).value < 65536
      → value_in cell k (rule.merged l a b).bytes ≡ (merge_cell cell k l a b).value

pub paper_values : ValueLaws paper_rule
paper_values = record {
  empty = value_empty;
  kept = λ cell k _ code j x s _ other. value_kept code j x s cell k other;
  written = λ cell k inside x s long small. value_entered k x s (omega arith) cell small;
  merged = λ cell k inside l a b _ _ _ small. value_merged l a b k inside cell small;
}

-- what a student sees: of boards that are alike to him the rule makes such boards, and an entry that writes nothing that he sees leaves them alike
pub record SeenLaws (rule : Rule) : Type 0 where
  pub entered : (code k x : ℕ) {s t : List ℕ} → Fits rule s → Fits rule t → Alike s t → Alike (rule.entered code k x s) (rule.entered code k x t)
  pub unseen : (code k x : ℕ) (s : List ℕ) → Fits rule s → ((cell : Cell) → eqb code (writing_code cell) ≡ false)
      → (eqb code mark_put_entry || eqb code mark_taken_entry ≡ true → seen_marks (mark_bit x) ≡ 0) → Alike (rule.entered code k x s) s
  pub merged : {l l' a a' b b' : List ℕ} → Fits rule l → Fits rule l' → Fits rule a → Fits rule a' → Fits rule b → Fits rule b'
      → Alike l l' → Alike a a' → Alike b b' → Alike (rule.merged l a b).bytes (rule.merged l' a' b').bytes

pub paper_seen : SeenLaws paper_rule
paper_seen = record {
  entered = alike_entered;
  unseen = alike_unseen;
  merged = λ _ _ _ _ _ _. alike_merged;
}
