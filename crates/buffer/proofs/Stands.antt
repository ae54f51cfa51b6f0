-- A list of bytes stands at a place of another: every byte of it is found there. Where a list made of parts stands, each part stands.
-- Assumes nothing.
use mathlib.Core.Path.{◌≡◌, refl, ap, ap₂, ◌∙◌}
use mathlib.Core.List.{List, ◌∷◌, ◌++◌}
use Prim.Native.Nat.{ℕ, ◌+◌, ◌*◌, ◌/◌, ◌≤◌, ◌<◌}
use native.Mathlib.Nat.{zero-add}
use native.Mathlib.Omega.{arith}
use lib.ListN.{length, get_or, length-append, get_or-append}
use lib.Seq.{get_or-append-add}
use Rattle.buffer.specs.Field.{byte, word, word_at}
use Rattle.buffer.proofs.Fields.{bytes_word}

pub record Stands (s : List ℕ) (at : ℕ) (xs : List ℕ) : Type 0 where
  pub read : (i : ℕ) → i < length xs → get_or s (at + i) 0 ≡ get_or xs i 0

-- a list stands at the front of what it begins
pub stands_front : (xs ys : List ℕ) → Stands (xs ++ ys) 0 xs
stands_front xs ys =
    record { read = λ i h. ap (λ (k : ℕ). get_or (xs ++ ys) k 0) (zero-add i) ∙ get_or-append xs ys 0 i h }

pub stands_whole : (xs : List ℕ) → Stands xs 0 xs
stands_whole xs = record { read = λ i h. ap (λ (k : ℕ). get_or xs k 0) (zero-add i) }

pub stands_left : {s : List ℕ} {at : ℕ} (xs ys : List ℕ) → Stands s at (xs ++ ys) → Stands s at xs
stands_left xs ys h =
    record { read = λ i p. h.read i (rw length-append (omega arith)) ∙ get_or-append xs ys 0 i p }

pub stands_right : {s : List ℕ} {at to : ℕ} (xs ys : List ℕ) → Stands s at (xs ++ ys) → at + length xs ≡ to → Stands s to ys
stands_right {s} {at} xs ys h e =
    record {
      read = λ i p.
          ap (λ (k : ℕ). get_or s k 0) (omega arith)
          ∙ h.read (length xs + i) (rw length-append (omega arith))
          ∙ get_or-append-add xs ys i 0;
    }

-- what stands where no byte was changed stands still
pub stands_kept : {s t : List ℕ} {at : ℕ} {xs : List ℕ} → Stands s at xs
    → ((i : ℕ) → at ≤ i → i < at + length xs → get_or t i 0 ≡ get_or s i 0) → Stands t at xs
stands_kept {at = at} h kept = record { read = λ i l. kept (at + i) (omega arith) (omega arith) ∙ h.read i l }

-- the byte that stands first
pub stands_first : {s : List ℕ} {at x : ℕ} {xs : List ℕ} → Stands s at (x ∷ xs) → get_or s at 0 ≡ x
stands_first {s} h = ap (λ (k : ℕ). get_or s k 0) (omega arith) ∙ h.read 0 (omega arith)

-- a field whose two bytes stand in the list
pub stands_field : {s : List ℕ} {at : ℕ} {xs : List ℕ} → Stands s at xs → (i x : ℕ) → i + 1 < length xs
    → get_or xs i 0 ≡ byte (x / 256) → get_or xs (i + 1) 0 ≡ byte x → x < 65536 → word_at s (at + i) ≡ x
stands_field {s} {at} h i x l high low fits =
    ap₂ (λ (a b : ℕ). a * 256 + b)
    (h.read i (omega arith) ∙ high)
    (ap (λ (k : ℕ). get_or s k 0) (omega arith) ∙ h.read (i + 1) l ∙ low)
    ∙ bytes_word x fits

-- the field that stands at a place
pub stands_word : {s : List ℕ} {at : ℕ} (x : ℕ) → Stands s at (word x) → x < 65536 → word_at s at ≡ x
stands_word {s} {at} x h fits =
    ap (word_at s) (omega arith) ∙ stands_field h 0 x (omega arith) refl refl fits
