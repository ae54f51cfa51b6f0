-- What `any` and `all` answer over the numbers below a bound.
-- Assumes nothing.
use Prim.Native.Nat.{ℕ, zero, suc, ◌+◌}
use mathlib.Core.Path.{◌≡◌, refl, ◌∙◌, ap, ap₂}
use mathlib.Core.Bool.{Bool, ◌||◌, ◌&&◌, and-true, or-false}
use mathlib.Core.List.{List, [], ◌∷◌, ◌++◌}
use native.Mathlib.Nat.{zero-add}
use native.Mathlib.Omega.{arith}
use Rattle.std.proofs.lemmas.List.Folds.{list_any-append, list_all-append}
use Rattle.std.specs.List.{range_with_len, list_any, list_all}
use Rattle.graph.specs.Below.{some_below, every_below}

pub range_more : (a n : ℕ) → range_with_len a (suc n) ≡ range_with_len a n ++ (a + n) ∷ []
range_more a zero = grind arith
range_more a (suc n) = let e : a + 1 + n ≡ a + suc n = omega arith in ap (λ (x : List ℕ). a ∷ x) (rw e at (range_more (a + 1) n))

pub any_below : (test : ℕ → Bool) (n : ℕ) → list_any test (range_with_len 0 n) ≡ some_below n test
unfolding some_below
any_below test zero = refl
any_below test (suc n) =
    ap (λ (x : List ℕ). list_any test x) (range_more 0 n)
    ∙ list_any-append test (range_with_len 0 n) ((0 + n) ∷ [])
    ∙ ap₂ (λ (x y : Bool). x || y) (any_below test n) (or-false (test (0 + n)) ∙ ap test (zero-add n))

pub all_below : (test : ℕ → Bool) (n : ℕ) → list_all test (range_with_len 0 n) ≡ every_below n test
unfolding every_below
all_below test zero = refl
all_below test (suc n) =
    ap (λ (x : List ℕ). list_all test x) (range_more 0 n)
    ∙ list_all-append test (range_with_len 0 n) ((0 + n) ∷ [])
    ∙ ap₂ (λ (x y : Bool). x && y) (all_below test n) (and-true (test (0 + n)) ∙ ap test (zero-add n))
