-- A 16-bit field that was written reads back, and other fields stay as they were.
-- Assumes nothing.
use Prim.Native.Nat.{ℕ, ◌+◌, ◌/◌, ◌<◌}
use mathlib.Core.Path.{◌≡◌, ◌∙◌}
use mathlib.Core.List.{List}
use native.Mathlib.Omega.{arith}
use lib.ListN.{length, get_or, set, length-set}
use lib.Seq.{get_or-set_same, get_or-set_other}
use Rattle.buffer.specs.Field.{byte, word_at, put_word}
use Rattle.buffer.proofs.Fields.{cut, bytes_word}

pub put_length : (s : List ℕ) (at x : ℕ) → length (put_word s at x) ≡ length s
put_length s at x = simp length-set

-- as many bits of it as a field has
pub put_cut : (s : List ℕ) (at x : ℕ) → at + 1 < length s → word_at (put_word s at x) at ≡ cut x
put_cut s at x inside =
    let hi = get_or-set_other (set s at (byte (x / 256))) (at + 1) at (byte x) 0 (omega arith) in
    let hi' = get_or-set_same s at (byte (x / 256)) 0 (omega arith) in
    let lo = get_or-set_same (set s at (byte (x / 256))) (at + 1) (byte x) 0 (omega (arith, length-set s at (byte (x / 256)))) in
    cc

pub put_same : (s : List ℕ) (at x : ℕ) → at + 1 < length s → x < 65536 → word_at (put_word s at x) at ≡ x
put_same s at x inside small = put_cut s at x inside ∙ bytes_word x small

pub put_other_lem : (s : List ℕ) (at x i : ℕ) → (i ≡ at → ⊥) → (i ≡ at + 1 → ⊥) → get_or (put_word s at x) i 0 ≡ get_or s i 0
put_other_lem s at x i p q = get_or-set_other (set s at (byte (x / 256))) (at + 1) i (byte x) 0 q ∙ get_or-set_other s at i (byte (x / 256)) 0 p

-- a field that lies wholly before or behind the one written
pub put_apart : (s : List ℕ) (at x i : ℕ) → (i ≡ at → ⊥) → (i ≡ at + 1 → ⊥) → (i + 1 ≡ at → ⊥) → word_at (put_word s at x) i ≡ word_at s i
put_apart s at x i p q r =
    let hi = put_other_lem s at x i p q in
    let lo = put_other_lem s at x (i + 1) r (omega arith) in
    cc
