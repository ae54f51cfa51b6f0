-- Tests over the numbers below a bound: of all, of some, how many pass, and the highest that does; and the first number
-- other than 0 that a function gives on them.
use Rattle.std.specs.Prelude.{ℕ, zero, suc, ◌+◌, Bool, true, false, cond, ◌&&◌, ◌||◌, eqb}
use Rattle.std.proofs.Math.Option.{Option, none, some}

unfoldable pub every_below : ℕ → (ℕ → Bool) → Bool
every_below zero f = true
every_below (suc n) f = every_below n f && f n

unfoldable pub some_below : ℕ → (ℕ → Bool) → Bool
some_below zero f = false
some_below (suc n) f = some_below n f || f n

unfoldable pub count_below : ℕ → (ℕ → Bool) → ℕ
count_below zero f = 0
count_below (suc n) f = count_below n f + cond (f n) 1 0

unfoldable pub highest_below : ℕ → (ℕ → Bool) → Option ℕ
highest_below zero f = none
highest_below (suc n) f = cond (f n) (some n) (highest_below n f)

-- of f 0, f 1, .. below the bound the first that is not 0; 0 where each is
unfoldable pub first_nonzero : ℕ → (ℕ → ℕ) → ℕ
first_nonzero zero f = 0
first_nonzero (suc n) f = cond (eqb (f 0) 0) (first_nonzero n (λ k. f (suc k))) (f 0)
