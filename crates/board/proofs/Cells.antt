-- What stands in each cell of an empty board, of a merged one, and of a board after an entry.
-- Assumes nothing.
use Prim.Native.Nat.{ℕ, zero, suc, ◌+◌, ◌-◌, ◌*◌, ◌<◌}
use mathlib.Core.Path.{◌≡◌, refl, sym, ◌∙◌, ap}
use mathlib.Core.List.{List, ◌++◌}
use mathlib.Core.Bool.{Bool, true, false, cond, not, ◌&&◌, ◌||◌}
use native.Mathlib.Omega.{arith}
use native.Mathlib.Decide.{dec_lt}
use borrow.Author.Tests.{eqb-true, eqb-false}
use lib.Bits.{bit_or}
use lib.Dec.{eqb}
use lib.ListN.{length, get_or, set, get_or-replicate, get_or-append}
use lib.Seq.{get_or-append-add, get_or-set_other}
use Rattle.laws.proofs.Logic.{either, and_rest, or_l, or_r}
use Rattle.buffer.specs.Field.{word_at, put_word}
use Rattle.buffer.proofs.Fields.{cut, bytes_word}
use Rattle.buffer.proofs.Writes.{put_cut, put_same, put_apart}
use Rattle.board.specs.declared.Cell.{Cell}
use Rattle.board.specs.declared.Cell.TheVariants.{Level, Heading}
use Rattle.board.specs.Board.{strip_size, strip_count, board_size, empty_board, merge_strip, merge_strips, merge_board, level_at, heading_at, marks_at, calls_at, alerts_at, flag_at, level_entry, heading_entry, mark_put_entry, mark_taken_entry, call_entry, alert_on_entry, alert_off_entry, enter, merge_value, merge_marks, merge_cell, mark_bit, without, cell_at, value_in, writing_code, follows_giver}
use Rattle.board.proofs.Length.{merge_strips-length}

-- an empty board shows 0 everywhere
pub empty_word : (i : ℕ) → i + 1 < board_size → word_at empty_board i ≡ 0
empty_word i l =
    let hi = get_or-replicate {A = ℕ} board_size i 0 0 (omega arith) in
    let lo = get_or-replicate {A = ℕ} board_size (i + 1) 0 0 l in
    omega arith

-- a level and a heading lie in the board
pub cell_inside : (cell : Cell) (k : ℕ) → k < strip_count → cell_at cell k + 1 < board_size
cell_inside Level k h = omega arith
cell_inside Heading k h = omega arith

pub value_empty : (cell : Cell) (k : ℕ) → k < strip_count → value_in cell k empty_board ≡ 0
value_empty cell k h = empty_word (cell_at cell k) (cell_inside cell k h)

-- a byte of a merged board is a byte of the merged strip
strips_at : (l a b : List ℕ) (n k i : ℕ) → k < n → i < strip_size → get_or (merge_strips l a b n).bytes (strip_size * k + i) 0 ≡ get_or (merge_strip l a b k).bytes i 0
unfolding merge_strips
strips_at l a b zero k i kn is = absurd (omega arith)
strips_at l a b (suc n) k i kn is =
    elim (dec_lt k n) [
      | yes lt ↦ get_or-append (merge_strips l a b n).bytes (merge_strip l a b n).bytes 0 (strip_size * k + i) (omega (arith, merge_strips-length l a b n)) ∙ strips_at l a b n k i lt is
      | no ge ↦
          let e : k ≡ n = omega arith in
          let at : strip_size * k + i ≡ length (merge_strips l a b n).bytes + i = omega (arith, merge_strips-length l a b n) in
          ap (λ (j : ℕ). get_or ((merge_strips l a b n).bytes ++ (merge_strip l a b n).bytes) j 0) at
          ∙ get_or-append-add (merge_strips l a b n).bytes (merge_strip l a b n).bytes i 0
          ∙ ap (λ (j : ℕ). get_or (merge_strip l a b j).bytes i 0) (sym e)
    ]

module _ (l a b : List ℕ) (k : ℕ) (h : k < strip_count) where
  board_at_lem : (i j : ℕ) → i < strip_size → j ≡ strip_size * k + i → get_or (merge_board l a b).bytes j 0 ≡ get_or (merge_strip l a b k).bytes i 0
  board_at_lem i j is e = ap (λ (m : ℕ). get_or (merge_board l a b).bytes m 0) e ∙ strips_at l a b strip_count k i h is

  -- the 16 bits at an offset of a merged strip
  board_word : (o : ℕ) → o + 1 < strip_size → word_at (merge_board l a b).bytes (strip_size * k + o) ≡ word_at (merge_strip l a b k).bytes o
  board_word o os =
      let hi : get_or (merge_board l a b).bytes (strip_size * k + o) 0 ≡ get_or (merge_strip l a b k).bytes o 0 = board_at_lem o (strip_size * k + o) (omega arith) refl in
      let lo : get_or (merge_board l a b).bytes (strip_size * k + o + 1) 0 ≡ get_or (merge_strip l a b k).bytes (o + 1) 0 = board_at_lem (o + 1) (strip_size * k + o + 1) (omega arith) (omega arith) in
      cc

  -- "calls and alert count: a + b − l", where that fits 16 bits
  pub calls_merged : word_at a (calls_at k) + word_at b (calls_at k) - word_at l (calls_at k) < 65536
      → word_at (merge_board l a b).bytes (calls_at k) ≡ word_at a (calls_at k) + word_at b (calls_at k) - word_at l (calls_at k)
  unfolding merge_strip
  calls_merged small = board_word 6 (omega arith) ∙ bytes_word _ small

  pub alerts_merged : word_at a (alerts_at k) + word_at b (alerts_at k) - word_at l (alerts_at k) < 65536
      → word_at (merge_board l a b).bytes (alerts_at k) ≡ word_at a (alerts_at k) + word_at b (alerts_at k) - word_at l (alerts_at k)
  unfolding merge_strip
  alerts_merged small = board_word 8 (omega arith) ∙ bytes_word _ small

  -- "level and heading, each alone: b if a = l, else a.", cut to 16 bits, and where it fits them
  pub value_cut : (cell : Cell) → value_in cell k (merge_board l a b).bytes ≡ cut (merge_cell cell k l a b).value
  unfolding merge_strip
  value_cut Level = ap (word_at (merge_board l a b).bytes) (omega arith) ∙ board_word 0 (omega arith)
  value_cut Heading = board_word 2 (omega arith)

  pub value_merged : (cell : Cell) → (merge_cell cell k l a b).value < 65536 → value_in cell k (merge_board l a b).bytes ≡ (merge_cell cell k l a b).value
  value_merged cell small = value_cut cell ∙ bytes_word _ small

  -- "marks: (a and b) or (a without l) or (b without l)."
  pub marks_cut : word_at (merge_board l a b).bytes (marks_at k) ≡ cut (merge_marks (word_at l (marks_at k)) (word_at a (marks_at k)) (word_at b (marks_at k)))
  unfolding merge_strip
  marks_cut = board_word 4 (omega arith)

-- the value of a merge is that of the side taken
pub side_taken : (value : ℕ → ℕ) (l p q : ℕ) → (merge_value l (value p) (value q)).value ≡ value (cond (follows_giver l (value p) (value q)) q p)
side_taken value l p q = go (eqb (value p) l) (eqb (value q) l) refl refl
  where
    go : (s t : Bool) → eqb (value p) l ≡ s → eqb (value q) l ≡ t → cond s (value q) (value p) ≡ value (cond (s && not t) q p)
    go false t d e = refl
    go true false d e = refl
    go true true d e = cc (eqb-true (value p) l d, eqb-true (value q) l e)

-- the 16 bits at i share no byte with those at a place
record Apart (i at : ℕ) : Type 0 where
  same : i ≡ at → ⊥
  behind : i ≡ at + 1 → ⊥
  before : i + 1 ≡ at → ⊥

put_kept : (s : List ℕ) (at x i : ℕ) → Apart i at → word_at (put_word s at x) i ≡ word_at s i
put_kept s at x i a = put_apart s at x i a.same a.behind a.before

flag_kept : (s : List ℕ) (k x i : ℕ) → Apart i (flag_at k) → word_at (set s (flag_at k) x) i ≡ word_at s i
flag_kept s k x i a =
    let hi = get_or-set_other s (flag_at k) i x 0 a.same in
    let lo = get_or-set_other s (flag_at k) (i + 1) x 0 a.before in
    cc

module _ (code k x : ℕ) (s : List ℕ) where
  -- a 16-bit cell that an entry does not write stays as it was
  cell_kept : (i : ℕ) → (eqb code level_entry ≡ true → Apart i (level_at k)) → (eqb code heading_entry ≡ true → Apart i (heading_at k))
      → (eqb code mark_put_entry || eqb code mark_taken_entry ≡ true → Apart i (marks_at k))
      → (eqb code call_entry ≡ true → Apart i (calls_at k)) → (eqb code alert_on_entry ≡ true → Apart i (alerts_at k)) → Apart i (flag_at k)
      → word_at (enter code k x s) i ≡ word_at s i
  unfolding enter
  cell_kept i level heading marks calls alerts flag =
      let P : List ℕ → Type 0 = λ t. word_at t i ≡ word_at s i in
      either P (eqb code level_entry) (λ two. put_kept s (level_at k) x i (level two))
      (either P (eqb code heading_entry) (λ three. put_kept s (heading_at k) x i (heading three))
      (either P (eqb code mark_put_entry) (λ four. put_kept s (marks_at k) _ i (marks (or_l (eqb code mark_put_entry) _ four)))
      (either P (eqb code mark_taken_entry) (λ five. put_kept s (marks_at k) _ i (marks (or_r (eqb code mark_put_entry) _ five)))
      (either P (eqb code call_entry) (λ six. put_kept s (calls_at k) _ i (calls six))
      (either P (eqb code alert_on_entry)
      (λ seven. flag_kept (put_word s (alerts_at k) (word_at s (alerts_at k) + 1)) k 1 i flag ∙ put_kept s (alerts_at k) _ i (alerts seven))
      (either P (eqb code alert_off_entry) (λ _. flag_kept s k 0 i flag) refl))))))

  -- no entry but a call changes the calls, and none those of another strip; likewise the alert count, the level and the heading
  pub calls_kept : (j : ℕ) → eqb code call_entry && eqb j k ≡ false → word_at (enter code k x s) (calls_at j) ≡ word_at s (calls_at j)
  calls_kept j other =
      cell_kept (calls_at j) (omega arith) (omega arith) (omega arith) (λ six. omega (arith, eqb-false j k (and_rest _ _ six other))) (omega arith) (omega arith)

  pub alerts_kept : (j : ℕ) → eqb code alert_on_entry && eqb j k ≡ false → word_at (enter code k x s) (alerts_at j) ≡ word_at s (alerts_at j)
  alerts_kept j other =
      cell_kept (alerts_at j) (omega arith) (omega arith) (omega arith) (omega arith) (λ seven. omega (arith, eqb-false j k (and_rest _ _ seven other))) (omega arith)

  pub value_kept : (cell : Cell) (j : ℕ) → eqb code (writing_code cell) && eqb j k ≡ false → value_in cell j (enter code k x s) ≡ value_in cell j s
  value_kept Level j other =
      cell_kept (level_at j) (λ two. omega (arith, eqb-false j k (and_rest _ _ two other))) (omega arith) (omega arith) (omega arith) (omega arith) (omega arith)
  value_kept Heading j other =
      cell_kept (heading_at j) (omega arith) (λ three. omega (arith, eqb-false j k (and_rest _ _ three other))) (omega arith) (omega arith) (omega arith) (omega arith)

  -- and no entry but a mark's the marks
  pub marks_kept : (j : ℕ) → (eqb code mark_put_entry || eqb code mark_taken_entry) && eqb j k ≡ false → word_at (enter code k x s) (marks_at j) ≡ word_at s (marks_at j)
  marks_kept j other =
      cell_kept (marks_at j) (omega arith) (omega arith) (λ marks. omega (arith, eqb-false j k (and_rest _ _ marks other))) (omega arith) (omega arith) (omega arith)

module _ (k x : ℕ) (s : List ℕ) (inside : alerts_at k + 1 < length s) where
  -- "06 adds 1 to calls; 07 adds 1 to the alert count"
  pub call_counted : word_at s (calls_at k) + 1 < 65536 → word_at (enter call_entry k x s) (calls_at k) ≡ word_at s (calls_at k) + 1
  unfolding enter
  call_counted small = put_same s (calls_at k) (word_at s (calls_at k) + 1) (omega arith) small

  pub alert_counted : word_at s (alerts_at k) + 1 < 65536 → word_at (enter alert_on_entry k x s) (alerts_at k) ≡ word_at s (alerts_at k) + 1
  unfolding enter
  alert_counted small =
      flag_kept (put_word s (alerts_at k) (word_at s (alerts_at k) + 1)) k 1 (alerts_at k) (omega arith)
      ∙ put_same s (alerts_at k) (word_at s (alerts_at k) + 1) inside small

  -- "02 level", "03 heading": the operand, cut to 16 bits, and where it fits them
  pub value_written : (cell : Cell) → value_in cell k (enter (writing_code cell) k x s) ≡ cut x
  unfolding enter
  value_written Level = put_cut s (level_at k) x (omega arith)
  value_written Heading = put_cut s (heading_at k) x (omega arith)

  pub value_entered : (cell : Cell) → x < 65536 → value_in cell k (enter (writing_code cell) k x s) ≡ x
  value_entered cell small = value_written cell ∙ bytes_word x small

  -- "04 mark put, 05 mark taken"
  pub mark_put : word_at (enter mark_put_entry k x s) (marks_at k) ≡ cut (bit_or (word_at s (marks_at k)) (mark_bit x))
  unfolding enter
  mark_put = put_cut s (marks_at k) _ (omega arith)

  pub mark_taken : word_at (enter mark_taken_entry k x s) (marks_at k) ≡ cut (without (word_at s (marks_at k)) (mark_bit x))
  unfolding enter
  mark_taken = put_cut s (marks_at k) _ (omega arith)
