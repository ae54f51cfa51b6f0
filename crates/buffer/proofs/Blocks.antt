-- The places of blocks of any size, what a written block changes, and lists that are made of blocks.
-- Assumes nothing.
use mathlib.Core.Path.{◌≡◌, sym, ap, ◌∙◌}
use mathlib.Core.List.{List, ◌++◌, append_assoc}
use Prim.Native.Nat.{ℕ, zero, suc, ◌+◌, ◌*◌, ◌≤◌, ◌<◌}
use native.Mathlib.Nat.{not-suc-le-zero, mul-zero, mul-suc, mul-add, mul-le-mul_left, mul-le-mul}
use native.Mathlib.Decide.{ℕ_discrete, dec_lt}
use native.Mathlib.Omega.{arith}
use lib.ListN.{length, take, drop, length-append}
use lib.Seq.{take_at}
use Rattle.laws.proofs.Lists.{three_parts}
use Rattle.buffer.specs.Blocks.{block_at, block_in, with_block, joined}
use Rattle.buffer.proofs.Fields.{part_length}
use Rattle.buffer.proofs.Stands.{Stands, stands_left, stands_right, stands_front}
use Rattle.buffer.proofs.Parts.{stands_part}
use Rattle.buffer.proofs.Patches.{with_part_lem, with_here}

-- the places: the next block begins where this one ends, and blocks lie apart and inside what all of them take
pub block_first : (size : ℕ) → block_at size 0 ≡ 0
unfolding block_at
block_first size = mul-zero size

pub block_next : (size v : ℕ) → block_at size (suc v) ≡ block_at size v + size
unfolding block_at
block_next size v = mul-suc size v

pub block_most : (size u v : ℕ) → u ≤ v → block_at size u ≤ block_at size v
unfolding block_at
block_most size u v l = mul-le-mul_left size l

pub block_apart : (size u v : ℕ) → u < v → block_at size u + size ≤ block_at size v
block_apart size u v l = omega (arith, block_next size u, block_most size (suc u) v l)

-- so many and so many more
pub block_sum : (size n k : ℕ) → block_at size (n + k) ≡ block_at size n + block_at size k
unfolding block_at
block_sum size n k = mul-add size n k

-- no place is past what the largest size and the highest number give
pub block_bound : (size v a b : ℕ) → size ≤ a → v ≤ b → block_at size v ≤ a * b
unfolding block_at
block_bound size v a b l m = mul-le-mul l m

module _ (size : ℕ) (s : List ℕ) (v : ℕ) (fits : block_at size v + size ≤ length s) where
  pub block_long : length (block_in size s v) ≡ size
  block_long = part_length s (block_at size v) size fits

  -- what a written block changes: that block and no other
  module _ (new : List ℕ) (long : length new ≡ size) where
    pub written_here : block_in size (with_block size s v new) v ≡ new
    written_here = with_here s new (block_at size v) (omega arith) size long

    pub written_apart : (u : ℕ) → (u ≡ v → ⊥) → block_at size u + size ≤ length s → block_in size (with_block size s v new) u ≡ block_in size s u
    written_apart u ne inside =
        with_part_lem s new (block_at size v) (omega arith) (block_at size u) size inside
        (λ k l a b.
        elim (dec_lt u v) [
          | yes m ↦ omega (arith, block_apart size u v m)
          | no m ↦ omega (arith, block_apart size v u (omega arith))
        ])

-- lists made of blocks
module _ (size : ℕ) (each : ℕ → List ℕ) (long : (v : ℕ) → length (each v) ≡ size) where
  pub joined_length : (n : ℕ) → length (joined each n) ≡ block_at size n
  unfolding joined
  joined_length zero = sym (block_first size)
  joined_length (suc n) = rw (length-append, joined_length n, long n) (sym (block_next size n))

  -- each stands in its place
  joined_stands : {s : List ℕ} (n v : ℕ) → Stands s 0 (joined each n) → v < n → Stands s (block_at size v) (each v)
  unfolding joined
  joined_stands zero v h l = absurd (not-suc-le-zero l)
  joined_stands (suc n) v h l =
      elim (ℕ_discrete v n) [
        | yes e ↦ rw e (stands_right (joined each n) (each n) h (omega (arith, joined_length n)))
        | no ne ↦ joined_stands n v (stands_left (joined each n) (each n) h) (omega arith)
      ]

  pub joined_block : (rest : List ℕ) (n v : ℕ) → v < n → block_in size (joined each n ++ rest) v ≡ each v
  joined_block rest n v l =
      stands_part size (joined_stands n v (stands_front (joined each n) rest) l) (long v)
      (rw (length-append, joined_length n) (omega (arith, block_apart size v n l)))

  -- and a list with these blocks begins with them
  pub blocks_joined : (s : List ℕ) (n : ℕ) → block_at size n ≤ length s → ((v : ℕ) → v < n → block_in size s v ≡ each v)
      → s ≡ joined each n ++ drop (block_at size n) s
  unfolding joined
  blocks_joined s zero fits h = rw (block_first size)
  blocks_joined s (suc n) fits h =
      let at = block_at size n in
      let next = block_next size n in
      let front : take at s ≡ joined each n =
      ap (take at) (blocks_joined s n (omega arith) (λ v l. h v (omega arith))) ∙ take_at (joined each n) (drop at s) at (joined_length n) in
      sym (three_parts s at size)
      ∙ rw (front, h n (omega arith), next)
      (sym (append_assoc (joined each n) (each n) (drop (at + size) s)))
