-- Pieces written or counted one after the other: the invariants of the loops over versions and over consoles.
-- Assumes nothing.
use mathlib.Core.Path.{◌≡◌, sym, ap, ap₂, ◌∙◌}
use mathlib.Core.List.{List, [], ◌++◌}
use Prim.Native.Nat.{ℕ, zero, suc, ◌+◌, ◌*◌, ◌≤◌, ◌<◌}
use native.Mathlib.Decide.{ℕ_discrete}
use native.Mathlib.Numerals.{add-one}
use native.Mathlib.Omega.{arith}
use lib.ListN.{length, length-append}
use Rattle.std.specs.List.{range_with_len, sum_by}
use Rattle.std.proofs.lemmas.List.Sums.{sum_by_push}
use Rattle.graph.proofs.Ranges.{range_more}
use Rattle.tape.specs.Record.{longest_record}
use Rattle.buffer.proofs.Laid.{Put, Laid, laid_none, laid_more}

-- w k is the first k pieces, one behind the other
pub record Pieces (w piece : ℕ → List ℕ) : Type 0 where
  pub none : w 0 ≡ []
  pub more : (k : ℕ) → w (k + 1) ≡ w k ++ piece k

-- the first k of n pieces stand in t from a place on, and end at another; the rest of s has room for all
pub record Piled (w : ℕ → List ℕ) (s : List ℕ) (from n k at : ℕ) (t : List ℕ) : Type 0 where
  pub within : k ≤ n
  pub room : from + length (w n) ≤ length s
  pub laid : Laid s from (w k) t at

module _ {w piece : ℕ → List ℕ} (p : Pieces w piece) where
  more_length : (k : ℕ) → length (w (k + 1)) ≡ length (w k) + length (piece k)
  more_length k = ap length (p.more k) ∙ length-append (w k) (piece k)

  -- more pieces are no shorter
  pieces_rise : (k n : ℕ) → k ≤ n → length (w k) ≤ length (w n)
  pieces_rise k zero l = let e : k ≡ 0 = omega arith in rw e (omega arith)
  pieces_rise k (suc n) l =
      elim (ℕ_discrete k (suc n)) [
        | yes e ↦ rw e (omega arith)
        | no d ↦ omega (arith, pieces_rise k n (omega arith), rw add-one at (more_length n))
      ]

  pub piled_none : (s : List ℕ) (from n : ℕ) → from + length (w n) ≤ length s → Piled w s from n 0 from s
  piled_none s from n room = record { within = omega arith; room = room; laid = rw p.none (laid_none s from (omega arith)) }

  -- where the next piece goes it has room
  pub piled_fits : {s t : List ℕ} {from n k at : ℕ} → Piled w s from n k at t → k < n → at + length (piece k) ≤ length t
  piled_fits {s} {t} {from} {n} {k} {at} q l =
      let g = q.laid in omega (arith, g.put.0, pieces_rise (k + 1) n (omega arith), more_length k)

  pub piled_more : {s t t' : List ℕ} {from n k at to : ℕ} → Piled w s from n k at t → k < n → Put t at (piece k) t' to
      → Piled w s from n (k + 1) to t'
  piled_more {k = k} q l put =
      let fits = piled_fits q l in
      let g = q.laid in
      record { within = omega arith; room = q.room; laid = rw (p.more k) (laid_more (piece k) g (omega arith) put) }

  -- how long they are together, counted from a number on, and how long at most
  pub pieces_sum : (a : ℕ) (from : ℕ → List ℕ) → ((k : ℕ) → from (a + k) ≡ piece k) → (n : ℕ)
      → sum_by (λ k. length (from k)) (range_with_len a n) ≡ length (w n)
  pieces_sum a from same zero = rw p.none
  pieces_sum a from same (suc n) =
      ap (λ (x : List ℕ). sum_by (λ k. length (from k)) x) (range_more a n)
      ∙ sum_by_push (λ k. length (from k)) (range_with_len a n) (a + n)
      ∙ ap₂ (λ (x y : ℕ). x + y) (pieces_sum a from same n) (ap length (same n))
      ∙ sym (rw add-one at (more_length n))

  pub pieces_short : ((k : ℕ) → length (piece k) ≤ longest_record) → (n : ℕ) → length (w n) ≤ longest_record * n
  pieces_short short zero = rw p.none (omega arith)
  pieces_short short (suc n) = omega (arith, rw add-one at (more_length n), short n, pieces_short short n)

pub piled_all : {w : ℕ → List ℕ} {s t : List ℕ} {from n k at : ℕ} → Piled w s from n k at t → n ≤ k → Put s from (w n) t at
piled_all {n = n} {k = k} q l = let e : k ≡ n = omega (arith, q.within) in rw e at q.laid.put
