-- Rows of bits: how long one is, what each of its bytes is, and that a member of the row of a test is a number that passes it.
-- Assumes nothing.
use mathlib.Core.Path.{◌≡◌, refl, ap, ◌∙◌}
use mathlib.Core.Bool.{Bool, true, false}
use mathlib.Core.List.{List}
use Prim.Native.Nat.{ℕ, zero, suc, ◌+◌, ◌*◌, ◌/◌, ◌%◌, ◌^◌, ◌≤◌, ◌<◌}
use native.Mathlib.Nat.{not-suc-le-zero, le_of_suc-le-suc, add-zero, one-mul}
use native.Mathlib.Omega.{arith}
use lib.Bits.{bit_or}
use lib.Dec.{eqb}
use lib.Pow.{shl_exact}
use lib.ListN.{length, get_or, length-set}
use Rattle.buffer.specs.Row.{bit, row_byte, row_from, row, member, with_member}

pub row_from-length : (f : ℕ → Bool) (v n : ℕ) → length (row_from f v n) ≡ n
unfolding row_from
row_from-length f v zero = refl
row_from-length f v (suc n) = ap suc (row_from-length f (v + 8) n)

pub row_from-byte : (f : ℕ → Bool) (v n k : ℕ) → k < n → get_or (row_from f v n) k 0 ≡ row_byte f (v + 8 * k)
unfolding row_from
row_from-byte f v zero k h = absurd (not-suc-le-zero h)
row_from-byte f v (suc n) zero h = ap (row_byte f) (omega arith)
row_from-byte f v (suc n) (suc k) h = row_from-byte f (v + 8) n k (le_of_suc-le-suc h) ∙ ap (row_byte f) (omega arith)

pub bit_le : (b : Bool) → bit b ≤ 1
bit_le true = omega arith
bit_le false = omega arith

pub bit_test : (b : Bool) → eqb (bit b) 1 ≡ b
bit_test true = refl
bit_test false = refl

-- the eight numbers below 8, one by one
pub eight : (P : ℕ → Type 0) → P 0 → P 1 → P 2 → P 3 → P 4 → P 5 → P 6 → P 7 → (j : ℕ) → j < 8 → P j
eight P a b c d e f g h zero l = a
eight P a b c d e f g h (suc zero) l = b
eight P a b c d e f g h (suc (suc zero)) l = c
eight P a b c d e f g h (suc (suc (suc zero))) l = d
eight P a b c d e f g h (suc (suc (suc (suc zero)))) l = e
eight P a b c d e f g h (suc (suc (suc (suc (suc zero))))) l = f
eight P a b c d e f g h (suc (suc (suc (suc (suc (suc zero)))))) l = g
eight P a b c d e f g h (suc (suc (suc (suc (suc (suc (suc zero))))))) l = h
eight P a b c d e f g h (suc (suc (suc (suc (suc (suc (suc (suc j)))))))) l = absurd (omega arith)

pub byte_bit : (f : ℕ → Bool) (v j : ℕ) → j < 8 → row_byte f v / 2 ^ j % 2 ≡ bit (f (v + j))
byte_bit f v =
    let a = bit_le (f v) in
    let b = bit_le (f (v + 1)) in
    let c = bit_le (f (v + 2)) in
    let d = bit_le (f (v + 3)) in
    let e = bit_le (f (v + 4)) in
    let g = bit_le (f (v + 5)) in
    let h = bit_le (f (v + 6)) in
    let i = bit_le (f (v + 7)) in
    eight (λ j. row_byte f v / 2 ^ j % 2 ≡ bit (f (v + j)))
    (rw add-zero (omega arith)) (omega arith) (omega arith) (omega arith) (omega arith) (omega arith) (omega arith) (omega arith)

-- a number below 8 times n is a member of the row of n bytes exactly when it passes the test
pub member_row : (f : ℕ → Bool) (n v : ℕ) → v < 8 * n → member (row f n) v ≡ f v
member_row f n v h =
    ap (λ (k : ℕ). eqb (k / 2 ^ (v % 8) % 2) 1) (row_from-byte f 0 n (v / 8) (omega arith))
    ∙ ap (λ (k : ℕ). eqb k 1) (byte_bit f (0 + 8 * (v / 8)) (v % 8) (omega arith))
    ∙ bit_test (f (0 + 8 * (v / 8) + v % 8))
    ∙ ap f (omega arith)

pub with_member-length : (s : List ℕ) (v : ℕ) → length (with_member s v) ≡ length s
with_member-length s v = length-set s (v / 8) (bit_or (get_or s (v / 8) 0) (2 ^ (v % 8)))

-- one bit that is not shifted out
pub one_shifted : (w k : ℕ) → k < w → (1 * 2 ^ k) % 2 ^ w ≡ 2 ^ k
one_shifted w k h = shl_exact {a = 1} 1 k w (omega arith) (omega arith) ∙ one-mul (2 ^ k)
