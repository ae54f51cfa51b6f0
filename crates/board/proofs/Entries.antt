-- An entry writes within its strip: a board after an entry is the board with its strip as the entry makes it.
-- Assumes nothing.
use Prim.Native.Nat.{ℕ, suc, ◌+◌, ◌-◌, ◌*◌, ◌/◌, ◌<◌, ◌≤◌}
use mathlib.Core.Path.{◌≡◌, refl, sym, ap, ◌∙◌}
use mathlib.Core.Bool.{Bool, true, false, cond}
use mathlib.Core.List.{List, [], ◌∷◌, ◌++◌}
use native.Mathlib.Nat.{zero-add, suc-add}
use native.Mathlib.Omega.{arith}
use borrow.Author.Tests.{ne_eqb}
use lib.Bits.{bit_or}
use lib.Dec.{eqb}
use lib.ListN.{length, set, take, drop, length-set}
use lib.Seq.{length-take-le, set-append_left}
use Rattle.laws.proofs.Lists.{three_parts}
use Rattle.buffer.specs.Field.{byte, word_at, put_word, with_part}
use Rattle.buffer.proofs.Fields.{word_at-left, word_at-right, part_length}
use Rattle.buffer.proofs.Patches.{put_lent, with_around}
use Rattle.buffer.proofs.Writes.{put_length}
use Rattle.board.specs.Board.{strip_size, level_at, heading_at, marks_at, calls_at, alerts_at, flag_at, mark_bit, without, enter, other_strips}
use Rattle.board.proofs.Boards.{strip}
use Rattle.board.proofs.Length.{enter_length}

-- a code that is no entry's changes nothing
pub enter_none : (code k x : ℕ) (s : List ℕ) → (code ≡ 2 → ⊥) → (code ≡ 3 → ⊥) → (code ≡ 4 → ⊥) → (code ≡ 5 → ⊥) → (code ≡ 6 → ⊥)
    → (code ≡ 7 → ⊥) → (code ≡ 8 → ⊥) → enter code k x s ≡ s
unfolding enter
enter_none code k x s b c d e f g h =
    simp (ne_eqb code 2 b, ne_eqb code 3 c, ne_eqb code 4 d, ne_eqb code 5 e, ne_eqb code 6 f, ne_eqb code 7 g, ne_eqb code 8 h)

-- a store behind a seam
set_right : (p q : List ℕ) (i x : ℕ) → set (p ++ q) (length p + i) x ≡ p ++ set q i x
set_right [] q i x = rw zero-add
set_right (y ∷ p) q i x = rw suc-add (ap (λ (t : List ℕ). y ∷ t) (set_right p q i x))

-- strips between what lies before them, the first j strips, and what lies behind them
module _ (p r : List ℕ) (j : ℕ) (before : length p ≡ strip_size * j) where
  abbrev placed : List ℕ → List ℕ
  placed q = p ++ (q ++ r)

  set_placed : (q : List ℕ) (o at x : ℕ) → at ≡ strip_size * j + o → o < length q → set (placed q) at x ≡ placed (set q o x)
  set_placed q o at x e h =
      let there : at ≡ length p + o = omega arith in
      rw (there, set_right p (q ++ r) o x, set-append_left q r o x h)

  word_placed : (q : List ℕ) (o at : ℕ) → at ≡ strip_size * j + o → o + 1 < length q → word_at (placed q) at ≡ word_at q o
  word_placed q o at e h =
      let there : at ≡ length p + o = omega arith in
      ap (word_at (placed q)) there ∙ word_at-right p (q ++ r) o ∙ word_at-left q r o h

  put_placed : (q : List ℕ) (o at x : ℕ) → at ≡ strip_size * j + o → o + 1 < length q → put_word (placed q) at x ≡ placed (put_word q o x)
  put_placed q o at x e h =
      ap (λ (t : List ℕ). set t (at + 1) (byte x)) (set_placed q o at (byte (x / 256)) e (omega arith))
      ∙ set_placed (set q o (byte (x / 256))) (o + 1) (at + 1) (byte x) (omega arith) (rw (length-set q o (byte (x / 256))) h)

  -- a field that is written with what is made of it
  cell_placed : (q : List ℕ) (f : ℕ → ℕ) (o at : ℕ) → at ≡ strip_size * j + o → o + 1 < length q
      → put_word (placed q) at (f (word_at (placed q) at)) ≡ placed (put_word q o (f (word_at q o)))
  cell_placed q f o at e h =
      ap (λ (w : ℕ). put_word (placed q) at (f w)) (word_placed q o at e h) ∙ put_placed q o at (f (word_at q o)) e h

  -- the same choice among the strips and in the whole
  choice_placed : (t : Bool) {x y : List ℕ} (u v : List ℕ) → x ≡ placed u → y ≡ placed v → cond t x y ≡ placed (cond t u v)
  choice_placed true u v a b = a
  choice_placed false u v a b = b

  -- an entry on one of the strips is an entry on the whole
  pub enter_placed : (q : List ℕ) (i code x : ℕ) → strip_size * i + strip_size ≤ length q → enter code (j + i) x (placed q) ≡ placed (enter code i x q)
  unfolding enter
  enter_placed q i code x h =
      let alerted = put_length q (alerts_at i) (word_at q (alerts_at i) + 1) in
      choice_placed (eqb code 0x02) _ _ (put_placed q (level_at i) (level_at (j + i)) x (omega arith) (omega arith))
      (choice_placed (eqb code 0x03) _ _ (put_placed q (heading_at i) (heading_at (j + i)) x (omega arith) (omega arith))
      (choice_placed (eqb code 0x04) _ _ (cell_placed q (λ w. bit_or w (mark_bit x)) (marks_at i) (marks_at (j + i)) (omega arith) (omega arith))
      (choice_placed (eqb code 0x05) _ _ (cell_placed q (λ w. without w (mark_bit x)) (marks_at i) (marks_at (j + i)) (omega arith) (omega arith))
      (choice_placed (eqb code 0x06) _ _ (cell_placed q (λ w. w + 1) (calls_at i) (calls_at (j + i)) (omega arith) (omega arith))
      (choice_placed (eqb code 0x07) _ _
      (ap (λ (t : List ℕ). set t (flag_at (j + i)) 1) (cell_placed q (λ w. w + 1) (alerts_at i) (alerts_at (j + i)) (omega arith) (omega arith))
      ∙ set_placed (put_word q (alerts_at i) (word_at q (alerts_at i) + 1)) (flag_at i) (flag_at (j + i)) 1 (omega arith) (omega (arith, alerted)))
      (choice_placed (eqb code 0x08) _ _ (set_placed q (flag_at i) (flag_at (j + i)) 0 (omega arith) (omega arith)) refl))))))

-- the board with its strip k as the entry makes it
entered : (code k x : ℕ) (s : List ℕ) → strip_size * k + strip_size ≤ length s
    → enter code k x s ≡ with_part s (strip_size * k) (enter code 0 x (strip s k))
unfolding with_part
entered code k x s h =
    let long : length (strip s k) ≡ strip_size = part_length s (strip_size * k) strip_size h in
    let same : strip_size * k + length (enter code 0 x (strip s k)) ≡ strip_size * k + strip_size = omega (arith, long, enter_length code 0 x (strip s k)) in
    let here : k + 0 ≡ k = omega arith in
    rw same
    (ap (enter code k x) (sym (three_parts s (strip_size * k) strip_size))
    ∙ rw here at
    (enter_placed (take (strip_size * k) s) (drop (strip_size * k + strip_size) s) k (length-take-le (strip_size * k) s (omega arith))
    (strip s k) 0 code x (omega (arith, long))))

-- the same, where the strip was lent and came back; and the other strips are as they were
pub entered_back : (code k x : ℕ) (s : List ℕ) {new : List ℕ} → strip_size * k + strip_size ≤ length s
    → new ≡ enter code 0 x (take (strip_size * k + strip_size - strip_size * k) (drop (strip_size * k) s))
    → let back : List ℕ = take (strip_size * k) s ++ (new ++ drop (strip_size * k + strip_size - strip_size * k) (drop (strip_size * k) s)) in
    (back ≡ enter code k x s) × (other_strips k back ≡ other_strips k s)
entered_back code k x s {new} h e =
    let at : ℕ = strip_size * k in
    let made : List ℕ = enter code 0 x (strip s k) in
    let long : length made ≡ strip_size = enter_length code 0 x (strip s k) ∙ part_length s at strip_size h in
    let count : at + strip_size - at ≡ strip_size = omega arith in
    let put = put_lent s new made at at strip_size refl (rw count at e) long in
    (put ∙ sym (entered code k x s h), ap (other_strips k) put ∙ with_around s made at (omega arith) (strip_size * suc k) (omega arith))
