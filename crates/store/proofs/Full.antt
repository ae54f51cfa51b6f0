-- The row of all numbers below a bound, byte by byte: full bytes, then at most one that is full to a bit, then empty ones.
-- Assumes nothing.
use mathlib.Core.Path.{◌≡◌, refl, ap, ◌∙◌}
use Prim.Native.Nat.{ℕ, zero, suc, ◌+◌, ◌-◌, ◌*◌, ◌^◌, ◌≤◌, ◌<◌}
use native.Mathlib.Omega.{arith}
use lib.Dec.{ltb}
use lib.ListN.{length, get_or}
use borrow.Author.Tests.{ltb-true, lt-ltb}
use Rattle.laws.proofs.Logic.{bool_ext}
use Rattle.buffer.specs.Row.{row_byte, row}
use Rattle.buffer.proofs.Rows.{row_from-length, row_from-byte}
use Rattle.store.specs.Layout.{row_size}

below_shift : (n v i : ℕ) → ltb (v + i) n ≡ ltb i (n - v)
below_shift n v i =
    bool_ext (ltb (v + i) n) (ltb i (n - v))
    (λ h. let l = ltb-true (v + i) n h in lt-ltb i (n - v) (omega arith))
    (λ h. let l = ltb-true i (n - v) h in lt-ltb (v + i) n (omega arith))

-- the byte from v on has its lowest n - v bits set
low : (j : ℕ) → j < 8 → row_byte (λ i. ltb i j) 0 ≡ 2 ^ j - 1
low zero h = refl
low (suc zero) h = refl
low (suc (suc zero)) h = refl
low (suc (suc (suc zero))) h = refl
low (suc (suc (suc (suc zero)))) h = refl
low (suc (suc (suc (suc (suc zero))))) h = refl
low (suc (suc (suc (suc (suc (suc zero)))))) h = refl
low (suc (suc (suc (suc (suc (suc (suc zero))))))) h = refl
low (suc (suc (suc (suc (suc (suc (suc (suc j)))))))) h = absurd (omega arith)

pub full_some : (n v : ℕ) → n - v < 8 → row_byte (λ u. ltb u n) v ≡ 2 ^ (n - v) - 1
full_some n v h =
    let first : ltb v n ≡ ltb 0 (n - v) = ap (λ (u : ℕ). ltb u n) (omega arith) ∙ below_shift n v 0 in
    simp (first, below_shift n v) (low (n - v) h)

pub full_all : (n v : ℕ) → v + 8 ≤ n → row_byte (λ u. ltb u n) v ≡ 255
full_all n v h =
    simp (
      lt-ltb v n (omega arith),
      lt-ltb (v + 1) n (omega arith),
      lt-ltb (v + 2) n (omega arith),
      lt-ltb (v + 3) n (omega arith),
      lt-ltb (v + 4) n (omega arith),
      lt-ltb (v + 5) n (omega arith),
      lt-ltb (v + 6) n (omega arith),
      lt-ltb (v + 7) n (omega arith),
    )

pub full_none : (n v : ℕ) → n ≤ v → row_byte (λ u. ltb u n) v ≡ 0
full_none n v h = let e : n - v ≡ 0 = omega arith in full_some n v (omega arith) ∙ rw e

-- the row itself: how long it is, and its bytes
pub full_length : (n : ℕ) → length (row (λ u. ltb u n) row_size) ≡ row_size
full_length n = row_from-length (λ u. ltb u n) 0 row_size

pub full_at : (n k : ℕ) → k < row_size → get_or (row (λ u. ltb u n) row_size) k 0 ≡ row_byte (λ u. ltb u n) (8 * k)
full_at n k h = row_from-byte (λ u. ltb u n) 0 row_size k h ∙ ap (row_byte (λ u. ltb u n)) (omega arith)
