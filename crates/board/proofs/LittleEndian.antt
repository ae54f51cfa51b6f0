-- The two bytes of a field turned round: levels, headings and marks are merged the same whichever byte is first.
-- Assumes nothing.
use Prim.Native.Nat.{ℕ, ◌+◌, ◌*◌, ◌/◌, ◌<◌}
use mathlib.Core.Path.{◌≡◌, refl, sym, ap, ap₂, ◌∙◌}
use mathlib.Core.Bool.{Bool, true, false, cond}
use mathlib.Core.List.{List}
use native.Mathlib.Decide.{ℕ_discrete}
use native.Mathlib.Omega.{arith}
use borrow.Author.Tests.{eq-eqb, ne_eqb}
use lib.Dec.{eqb}
use lib.ListN.{set}
use Rattle.buffer.specs.Field.{byte, word_at, put_word}
use Rattle.buffer.proofs.Fields.{bytes_word}
use Rattle.board.specs.Board.{merge_value, merge_marks}
use Rattle.board.specs.LittleEndian.{swapped}
use Rattle.board.proofs.Marks.{marks_small, marks_bytes}

swapped_high : (x : ℕ) → byte (swapped x / 256) ≡ byte x
swapped_high x = omega arith

swapped_low : (x : ℕ) → byte (swapped x) ≡ byte (x / 256)
swapped_low x = omega arith

-- two bytes, the low one written first
pub put_low_first : (s : List ℕ) (at x : ℕ) → set (set s at (byte x)) (at + 1) (byte (x / 256)) ≡ put_word s at (swapped x)
put_low_first s at x = ap₂ (λ (p q : ℕ). set (set s at p) (at + 1) q) (sym (swapped_high x)) (sym (swapped_low x))

put_swapped_twice : (s : List ℕ) (at x : ℕ) → put_word s at (swapped (swapped x)) ≡ put_word s at x
put_swapped_twice s at x =
    ap₂ (λ (p q : ℕ). set (set s at p) (at + 1) q) (swapped_high (swapped x) ∙ swapped_low x) (swapped_low (swapped x) ∙ swapped_high x)

swapped_back : (x y : ℕ) → x < 65536 → y < 65536 → swapped x ≡ swapped y → x ≡ y
swapped_back x y p q e =
    let high = sym (swapped_low x) ∙ ap byte e ∙ swapped_low y in
    let low = sym (swapped_high x) ∙ ap (λ (n : ℕ). byte (n / 256)) e ∙ swapped_high y in
    sym (bytes_word x p) ∙ ap₂ (λ (m n : ℕ). m * 256 + n) high low ∙ bytes_word y q

eqb_swapped : (x y : ℕ) → x < 65536 → y < 65536 → eqb (swapped x) (swapped y) ≡ eqb x y
eqb_swapped x y p q =
    elim (ℕ_discrete x y) [
      | yes e ↦ eq-eqb (swapped x) (swapped y) (ap swapped e) ∙ sym (eq-eqb x y e)
      | no ne ↦ ne_eqb (swapped x) (swapped y) (λ e. ne (swapped_back x y p q e)) ∙ sym (ne_eqb x y ne)
    ]

choice_swapped : (t : Bool) (x y : ℕ) → cond t (swapped x) (swapped y) ≡ swapped (cond t x y)
choice_swapped true x y = refl
choice_swapped false x y = refl

-- a merged level or heading
value_swapped : (l a b : ℕ) → l < 65536 → a < 65536 → (merge_value (swapped l) (swapped a) (swapped b)).value ≡ swapped (merge_value l a b).value
value_swapped l a b p q =
    ap (λ (t : Bool). cond t (swapped b) (swapped a)) (eqb_swapped a l q p) ∙ choice_swapped (eqb a l) b a

pub clash_swapped : (l a b : ℕ) → l < 65536 → a < 65536 → b < 65536 → (merge_value (swapped l) (swapped a) (swapped b)).clash ≡ (merge_value l a b).clash
clash_swapped l a b p q r = rw (eqb_swapped a l q p, eqb_swapped b l r p, eqb_swapped a b q r)

-- the marks of the high bytes and those of the low ones, in either order
marks_swapped : (l a b : ℕ) → l < 65536 → a < 65536 → b < 65536 → merge_marks (swapped l) (swapped a) (swapped b) ≡ swapped (merge_marks l a b)
marks_swapped l a b p q r =
    let l₁ = byte (l / 256) in
    let a₁ = byte (a / 256) in
    let b₁ = byte (b / 256) in
    let high = merge_marks l₁ a₁ b₁ in
    let low = merge_marks (byte l) (byte a) (byte b) in
    let whole : merge_marks l a b ≡ high * 256 + low =
    rw (bytes_word l p, bytes_word a q, bytes_word b r) at (marks_bytes l₁ a₁ b₁ (byte l) (byte a) (byte b) (omega arith) (omega arith) (omega arith)) in
    let small : high < 256 = marks_small 8 l₁ a₁ b₁ (omega arith) (omega arith) in
    let small' : low < 256 = marks_small 8 (byte l) (byte a) (byte b) (omega arith) (omega arith) in
    let swap : low * 256 + high ≡ swapped (high * 256 + low) = omega (arith, small, small') in
    marks_bytes (byte l) (byte a) (byte b) l₁ a₁ b₁ (omega arith) (omega arith) (omega arith) ∙ swap ∙ sym (ap swapped whole)

-- fields that were read low byte first, merged and written so
pub put_value : (s l a b : List ℕ) (at : ℕ) → word_at l at < 65536 → word_at a at < 65536
    → put_word s at (swapped (merge_value (swapped (word_at l at)) (swapped (word_at a at)) (swapped (word_at b at))).value)
    ≡ put_word s at (merge_value (word_at l at) (word_at a at) (word_at b at)).value
put_value s l a b at p q = rw (value_swapped (word_at l at) (word_at a at) (word_at b at) p q) (put_swapped_twice s at _)

pub put_marks : (s l a b : List ℕ) (at : ℕ) → word_at l at < 65536 → word_at a at < 65536 → word_at b at < 65536
    → put_word s at (swapped (merge_marks (swapped (word_at l at)) (swapped (word_at a at)) (swapped (word_at b at))))
    ≡ put_word s at (merge_marks (word_at l at) (word_at a at) (word_at b at))
put_marks s l a b at p q r = rw (marks_swapped (word_at l at) (word_at a at) (word_at b at) p q r) (put_swapped_twice s at _)
