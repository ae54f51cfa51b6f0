-- The invariant of a loop that tests the numbers below a bound, from 0 on, and stops at the first that fails.
-- Assumes nothing.
use Prim.Native.Nat.{ℕ, ◌+◌, ◌≤◌, ◌<◌}
use mathlib.Core.Path.{◌≡◌, refl, sym, ◌∙◌}
use mathlib.Core.Bool.{Bool, true, false, not}
use native.Mathlib.Omega.{arith}
use borrow.Author.Tests.{not-true, not-false}
use Rattle.graph.specs.Below.{every_below}
use Rattle.graph.proofs.Below.{every_more, every_fails}

-- those below k passed, of all below n
pub record Passing (n : ℕ) (f : ℕ → Bool) (k : ℕ) : Type 0 where
  pub within : k ≤ n
  pub told : every_below k f ≡ true

pub passing_none : (n : ℕ) (f : ℕ → Bool) → Passing n f 0
unfolding every_below
passing_none n f = record { within = omega arith; told = refl }

module _ {n : ℕ} {f : ℕ → Bool} {k : ℕ} (o : Passing n f k) where
  pub passing_again : {b : Bool} → k < n → b ≡ f k → not b ≡ false → Passing n f (k + 1)
  passing_again {b} l e passes = record { within = omega arith; told = every_more k f o.told (sym e ∙ not-false b passes) }

  pub passing_all : n ≤ k → true ≡ every_below n f
  passing_all l = let w = o.within in let e : k ≡ n = omega arith in sym (rw e at o.told)

pub passing_fails : (n : ℕ) (f : ℕ → Bool) {k : ℕ} {b : Bool} → k < n → b ≡ f k → not b ≡ true → false ≡ every_below n f
passing_fails n f {k} {b} l e fails = sym (every_fails n f k l (sym e ∙ not-true b fails))
