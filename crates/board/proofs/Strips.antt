-- Cells that are written with what was read: a strip that was written cell by cell is the merged strip, with its clashes, or the strip that a student
-- sees.
-- Assumes nothing.
use Prim.Native.Nat.{ℕ, ◌+◌}
use mathlib.Core.Path.{◌≡◌, refl, ap, ap₂, ◌∙◌}
use mathlib.Core.Bool.{Bool, true, false, ◌&&◌, ◌||◌, or-false}
use mathlib.Core.List.{List, [], ◌∷◌, ◌++◌}
use native.Mathlib.Omega.{arith}
use lib.Bits.{bit_and, and_zero_r, and_mask}
use lib.Dec.{ltb}
use lib.ListN.{length, set, drop_of_length-le}
use lib.Seq.{sets-eq}
use mir.Val.{bool_byte}
use Rattle.buffer.specs.Field.{word, word_at, put_word, zeros}
use Rattle.buffer.specs.Row.{bit}
use Rattle.board.specs.Board.{strip_size, level_at, heading_at, marks_at, calls_at, alerts_at, flag_at, flag_on, merge_value, merge_marks, merge_count, merge_flag, merge_strip}
use Rattle.board.specs.Pane.{seen_marks, student_strip}

-- the flag of a merge in one line
pub flag_rule : (m n : Bool) (l a b : ℕ) → (m && (n || ltb l a)) || (n && ltb l b) ≡ merge_flag m n l a b
unfolding merge_flag
flag_rule true true l a b = refl
flag_rule true false l a b = or-false (ltb l a)
flag_rule false true l a b = refl
flag_rule false false l a b = refl

pub bool_bit : (b : Bool) → bool_byte b ≡ bit b
bool_bit true = refl
bool_bit false = refl

-- the 12 bytes, whatever stood there before
cells_written : (s : List ℕ) (u v w x y z : ℕ) → length s ≡ strip_size
    → set (set (put_word (put_word (put_word (put_word (put_word s 0 u) 2 v) 4 w) 6 x) 8 y) 10 z) 11 0
    ≡ word u ++ word v ++ word w ++ word x ++ word y ++ (z ∷ 0 ∷ [])
cells_written s u v w x y z h =
    let cells : List ℕ = word u ++ word v ++ word w ++ word x ++ word y ++ (z ∷ 0 ∷ []) in
    sets-eq cells s 0 (omega arith) ∙ ap (λ (rest : List ℕ). cells ++ rest) (drop_of_length-le s {i = 12} (omega arith))

module _ (l a b : List ℕ) where
  -- a cell's rule, at the cell of the three strips
  abbrev merged : {A : Type 0} → (ℕ → ℕ → ℕ → A) → ℕ → A
  merged rule at = rule (word_at l at) (word_at a at) (word_at b at)

  -- a level or a heading was written, and its clash answered
  abbrev ValueWritten : ℕ → List ℕ → List ℕ → Bool → Type 0
  ValueWritten at s t clash = (t ≡ put_word s at (merged merge_value at).value) × (clash ≡ (merged merge_value at).clash)

  pub strip_built : (s : List ℕ) {s₁ s₂ s₃ s₄ s₅ : List ℕ} {x y : Bool} → length s ≡ strip_size
      → ValueWritten (level_at 0) s s₁ x
      → ValueWritten (heading_at 0) s₁ s₂ y
      → s₃ ≡ put_word s₂ (marks_at 0) (merged merge_marks (marks_at 0))
      → s₄ ≡ put_word s₃ (calls_at 0) (merged merge_count (calls_at 0))
      → s₅ ≡ set (set (put_word s₄ (alerts_at 0) (merged merge_count (alerts_at 0))) (flag_at 0) (bit (merge_flag (flag_on a 0) (flag_on b 0) (word_at l (alerts_at 0)) (word_at a (alerts_at 0)) (word_at b (alerts_at 0))))) (flag_at 0 + 1) 0
      → (s₅ ≡ (merge_strip l a b 0).bytes) × (bool_byte x + bool_byte y ≡ (merge_strip l a b 0).clashes)
  unfolding merge_strip
  strip_built s {x = x} {y = y} h e₁ e₂ e₃ e₄ e₅ = (
    rw (e₅, e₄, e₃, e₂.0, e₁.0) (cells_written s _ _ _ _ _ _ h),
    rw (bool_bit x, bool_bit y, e₁.1, e₂.1),
  )

-- a field of which all 16 bits are seen is written as it stands
all_seen : (w : ℕ) → word (bit_and w 0xFFFF) ≡ word w
all_seen w = rw (and_mask w 16) (ap₂ (λ (x y : ℕ). x ∷ y ∷ []) (omega arith) (omega arith))

module _ (t : List ℕ) where
  -- the bits of a field that are seen were written
  abbrev Shown : ℕ → ℕ → List ℕ → List ℕ → Type 0
  Shown at seen s s₁ = s₁ ≡ put_word s at (bit_and (word_at t at) seen)

  pub strip_shown : (s : List ℕ) {s₁ s₂ s₃ s₄ s₅ s₆ : List ℕ} → length s ≡ strip_size
      → Shown (level_at 0) 0xFFFF s s₁
      → Shown (heading_at 0) 0xFFFF s₁ s₂
      → Shown (marks_at 0) 0x00FF s₂ s₃
      → Shown (calls_at 0) 0 s₃ s₄
      → Shown (alerts_at 0) 0 s₄ s₅
      → Shown (flag_at 0) 0 s₅ s₆
      → s₆ ≡ student_strip t 0
  unfolding student_strip
  strip_shown s h e₁ e₂ e₃ e₄ e₅ e₆ =
      let level : ℕ = bit_and (word_at t (level_at 0)) 0xFFFF in
      let heading : ℕ = bit_and (word_at t (heading_at 0)) 0xFFFF in
      let marks : ℕ = seen_marks (word_at t (marks_at 0)) in
      rw (e₆, e₅, e₄, e₃, e₂, e₁, and_zero_r (word_at t (calls_at 0)), and_zero_r (word_at t (alerts_at 0)), and_zero_r (word_at t (flag_at 0)), and_mask (word_at t (marks_at 0)) 8)
      (cells_written s level heading marks 0 0 0 h
      ∙ ap₂ (λ (x y : List ℕ). x ++ y ++ word marks ++ zeros 6) (all_seen (word_at t (level_at 0))) (all_seen (word_at t (heading_at 0))))
