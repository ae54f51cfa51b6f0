-- What a student sees of a board is made of what he sees of the boards that it is made of.
-- Assumes nothing.
use Prim.Native.Nat.{ℕ, zero, suc, ◌+◌, ◌<◌}
use mathlib.Core.Path.{◌≡◌, refl, sym, ◌∙◌, ap, ap₂}
use mathlib.Core.Bool.{Bool, true, false, cond, ◌&&◌, ◌||◌}
use mathlib.Core.List.{List, ◌++◌}
use mathlib.Core.Logic.{inl, inr}
use native.Mathlib.Omega.{arith}
use borrow.Author.Tests.{eqb-true}
use lib.Bits.{bit_or, and_zero_r, or_zero_r}
use lib.Dec.{eqb}
use lib.ListN.{length}
use Rattle.laws.proofs.Logic.{decide, either, and_l, and_r, and_none, or_rest, cond_true, cond_false}
use Rattle.buffer.specs.Field.{word_at}
use Rattle.buffer.proofs.Fields.{cut}
use Rattle.board.specs.declared.Cell.{Cell}
use Rattle.board.specs.declared.Cell.TheVariants.{Level, Heading}
use Rattle.board.specs.Board.{strip_count, board_size, marks_at, alerts_at, value_in, mark_bit, without, merge_value, merge_marks, merge_board, enter, writing_code, mark_put_entry, mark_taken_entry}
use Rattle.board.specs.Pane.{seen_marks, student_strip, strips, student_pane}
use Rattle.board.proofs.Marks.{seen_merged, seen_put, seen_taken, seen_cut}
use Rattle.board.proofs.Cells.{value_cut, marks_cut, value_kept, marks_kept, value_written, mark_put, mark_taken}

-- the marks of strip k that a student sees
abbrev pub marks_seen : ℕ → List ℕ → ℕ
marks_seen k s = seen_marks (word_at s (marks_at k))

-- two boards are alike to a student
pub record Alike (s t : List ℕ) : Type 0 where
  pub value : (cell : Cell) (k : ℕ) → k < strip_count → value_in cell k s ≡ value_in cell k t
  pub marks : (k : ℕ) → k < strip_count → marks_seen k s ≡ marks_seen k t

pub alike_same : (s : List ℕ) → Alike s s
alike_same s = record { value = λ cell k l. refl; marks = λ k l. refl }

pub alike_back : {s t : List ℕ} → Alike s t → Alike t s
alike_back a = record { value = λ cell k l. sym (a.value cell k l); marks = λ k l. sym (a.marks k l) }

pub alike_through : {s t u : List ℕ} → Alike s t → Alike t u → Alike s u
alike_through a b = record { value = λ cell k l. a.value cell k l ∙ b.value cell k l; marks = λ k l. a.marks k l ∙ b.marks k l }

-- then he is shown the same
strips_same : (f g : ℕ → List ℕ) (n : ℕ) → ((k : ℕ) → k < n → f k ≡ g k) → strips f n ≡ strips g n
unfolding strips
strips_same f g zero h = refl
strips_same f g (suc n) h = ap₂ ◌++◌ (strips_same f g n (λ k l. h k (omega arith))) (h n (omega arith))

pub pane_alike : {s t : List ℕ} → Alike s t → student_pane s ≡ student_pane t
unfolding student_strip
pane_alike {s} {t} a =
    strips_same (student_strip s) (student_strip t) strip_count (λ k l. rw (a.value Level k l, a.value Heading k l, a.marks k l))

-- merges of boards that are alike are alike
marks_seen_lem : (l a b : List ℕ) (k : ℕ) → k < strip_count
    → marks_seen k (merge_board l a b).bytes ≡ merge_marks (marks_seen k l) (marks_seen k a) (marks_seen k b)
marks_seen_lem l a b k h = ap seen_marks (marks_cut l a b k h) ∙ seen_cut _ ∙ seen_merged (word_at l (marks_at k)) (word_at a (marks_at k)) (word_at b (marks_at k))

pub alike_merged : {l l' a a' b b' : List ℕ} → Alike l l' → Alike a a' → Alike b b' → Alike (merge_board l a b).bytes (merge_board l' a' b').bytes
alike_merged {l} {l'} {a} {a'} {b} {b'} p q r = record {
  value = λ cell k h.
      value_cut l a b k h cell
      ∙ (λ i. cut (merge_value (p.value cell k h i) (q.value cell k h i) (r.value cell k h i)).value)
      ∙ sym (value_cut l' a' b' k h cell);
  marks = λ k h.
      marks_seen_lem l a b k h ∙ (λ i. merge_marks (p.marks k h i) (q.marks k h i) (r.marks k h i)) ∙ sym (marks_seen_lem l' a' b' k h);
}

-- the marks of strip j that a student sees after an entry, by those that he saw before it
abbrev marks_after : ℕ → ℕ → ℕ → ℕ → ℕ → ℕ
marks_after code k x j seen =
    cond ((eqb code mark_put_entry || eqb code mark_taken_entry) && eqb j k)
    (cond (eqb code mark_put_entry) (bit_or seen (seen_marks (mark_bit x))) (without seen (seen_marks (mark_bit x)))) seen

module _ (code k x : ℕ) (s : List ℕ) (long : length s ≡ board_size) where
  marks_entered : (j : ℕ) → j < strip_count → marks_seen j (enter code k x s) ≡ marks_after code k x j (marks_seen j s)
  marks_entered j l =
      let isMark : Bool = eqb code mark_put_entry || eqb code mark_taken_entry in
      let bits : ℕ = seen_marks (mark_bit x) in
      let inside : j ≡ k → alerts_at k + 1 < length s = λ here. omega (arith, long) in
      elim (decide (isMark && eqb j k)) [
        | inr other ↦ ap seen_marks (marks_kept code k x s j other) ∙ sym (cond_false _ _ _ other)
        | inl mark ↦
            let here : j ≡ k = eqb-true j k (and_r isMark _ mark) in
            elim (decide (eqb code mark_put_entry)) [
              | inl four ↦
                  let is : code ≡ mark_put_entry = eqb-true code mark_put_entry four in
                  (λ i. marks_seen (here i) (enter (is i) k x s))
                  ∙ ap seen_marks (mark_put k x s (inside here)) ∙ seen_cut _ ∙ seen_put (word_at s (marks_at k)) (mark_bit x)
                  ∙ sym (cond_true _ _ _ mark ∙ cond_true _ _ _ four ∙ ap (λ (i : ℕ). bit_or (marks_seen i s) bits) here)
              | inr rest ↦
                  let is : code ≡ mark_taken_entry = eqb-true code mark_taken_entry (sym (or_rest (eqb code mark_put_entry) _ rest) ∙ and_l isMark _ mark) in
                  (λ i. marks_seen (here i) (enter (is i) k x s))
                  ∙ ap seen_marks (mark_taken k x s (inside here)) ∙ seen_cut _ ∙ seen_taken (word_at s (marks_at k)) (mark_bit x)
                  ∙ sym (cond_true _ _ _ mark ∙ cond_false _ _ _ rest ∙ ap (λ (i : ℕ). without (marks_seen i s) bits) here)
            ]
      ]

  -- a level or heading after an entry, by what it was before
  value_after : (cell : Cell) (j : ℕ) → j < strip_count
      → value_in cell j (enter code k x s) ≡ cond (eqb code (writing_code cell) && eqb j k) (cut x) (value_in cell j s)
  value_after cell j l =
      elim (decide (eqb code (writing_code cell) && eqb j k)) [
        | inr other ↦ value_kept code k x s cell j other ∙ sym (cond_false _ _ _ other)
        | inl writes ↦
            let is : code ≡ writing_code cell = eqb-true code (writing_code cell) (and_l _ _ writes) in
            let here : j ≡ k = eqb-true j k (and_r (eqb code (writing_code cell)) _ writes) in
            (λ i. value_in cell (here i) (enter (is i) k x s)) ∙ value_written k x s (omega (arith, long)) cell ∙ sym (cond_true _ _ _ writes)
      ]

-- the same entry on boards that are alike leaves them alike
pub alike_entered : (code k x : ℕ) {s t : List ℕ} → length s ≡ board_size → length t ≡ board_size → Alike s t → Alike (enter code k x s) (enter code k x t)
alike_entered code k x {s} {t} m n a = record {
  value = λ cell j l. value_after code k x s m cell j l ∙ ap (cond (eqb code (writing_code cell) && eqb j k) (cut x)) (a.value cell j l) ∙ sym (value_after code k x t n cell j l);
  marks = λ j l. marks_entered code k x s m j l ∙ ap (marks_after code k x j) (a.marks j l) ∙ sym (marks_entered code k x t n j l);
}

-- an entry that writes no level or heading, and of the marks none from 0 to 7, changes nothing that a student sees
pub alike_unseen : (code k x : ℕ) (s : List ℕ) → length s ≡ board_size → ((cell : Cell) → eqb code (writing_code cell) ≡ false)
    → (eqb code mark_put_entry || eqb code mark_taken_entry ≡ true → seen_marks (mark_bit x) ≡ 0) → Alike (enter code k x s) s
alike_unseen code k x s m other high = record {
  value = λ cell j l. value_kept code k x s cell j (and_none _ _ (other cell));
  marks = λ j l.
      marks_entered code k x s m j l
      ∙ either (λ seen. seen ≡ marks_seen j s) ((eqb code mark_put_entry || eqb code mark_taken_entry) && eqb j k)
      (λ mark. let none = high (and_l _ _ mark) in
      either (λ seen. seen ≡ marks_seen j s) (eqb code mark_put_entry) (λ _. rw none (or_zero_r _)) (rw (none, and_zero_r (marks_seen j s)) (omega arith)))
      refl;
}
