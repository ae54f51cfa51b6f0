-- What 16-bit fields, runs of zeros and parts of a list of bytes read as, and that bytes which compare as the same are the same.
-- Assumes nothing.
use mathlib.Core.Path.{◌≡◌, refl, ap, ap₂, ◌∙◌}
use mathlib.Core.Bool.{true}
use mathlib.Core.List.{List, [], ◌∷◌, ◌++◌}
use Prim.Native.Nat.{ℕ, ◌+◌, ◌*◌, ◌/◌, ◌≤◌, ◌<◌}
use native.Mathlib.Omega.{arith}
use lib.Dec.{eqb}
use lib.ListN.{length, get_or, drop, length-drop, length-replicate, get_or-append}
use lib.Seq.{get_or-append-add, length-take-le}
use borrow.Author.Tests.{eqb-true, eq-eqb}
use Rattle.laws.proofs.Logic.{and_l, and_r, and_i, clash}
use Rattle.buffer.specs.Field.{byte, word_at, zeros, part, same}

-- what a number's two bytes read as; where it has 16 bits they give it back
abbrev pub cut : ℕ → ℕ
cut x = byte (x / 256) * 256 + byte x

pub bytes_word : (x : ℕ) → x < 65536 → cut x ≡ x
bytes_word x h = omega arith

-- a field before the seam, and one after it
pub word_at-left : (xs ys : List ℕ) (i : ℕ) → i + 1 < length xs → word_at (xs ++ ys) i ≡ word_at xs i
word_at-left xs ys i h = rw (get_or-append xs ys 0 i (omega arith), get_or-append xs ys 0 (i + 1) h)

pub word_at-right : (xs ys : List ℕ) (i : ℕ) → word_at (xs ++ ys) (length xs + i) ≡ word_at ys i
word_at-right xs ys i =
    ap₂ (λ (a b : ℕ). a * 256 + b)
    (get_or-append-add xs ys i 0)
    (ap (λ (k : ℕ). get_or (xs ++ ys) k 0) (omega arith) ∙ get_or-append-add xs ys (i + 1) 0)

pub zeros_length : (n : ℕ) → length (zeros n) ≡ n
zeros_length n = length-replicate n 0

pub part_length : (s : List ℕ) (at n : ℕ) → at + n ≤ length s → length (part s at n) ≡ n
part_length s at n h = length-take-le n (drop at s) (rw length-drop (omega arith))

pub same_true : (xs ys : List ℕ) → same xs ys ≡ true → xs ≡ ys
unfolding same
same_true [] [] h = refl
same_true [] (y ∷ ys) h = clash h refl
same_true (x ∷ xs) [] h = clash h refl
same_true (x ∷ xs) (y ∷ ys) h =
    ap₂ ◌∷◌ (eqb-true x y (and_l (eqb x y) (same xs ys) h)) (same_true xs ys (and_r (eqb x y) (same xs ys) h))

pub same_refl : (xs : List ℕ) → same xs xs ≡ true
unfolding same
same_refl [] = refl
same_refl (x ∷ xs) = and_i (eqb x x) (same xs xs) (eq-eqb x x refl) (same_refl xs)
