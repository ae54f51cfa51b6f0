-- Two rows put together byte by byte: how long the result is, each of its bytes, and rows joined.
-- Assumes nothing.
use mathlib.Core.Path.{◌≡◌, refl, ap}
use mathlib.Core.List.{List, [], ◌∷◌, ◌++◌}
use Prim.Native.Nat.{ℕ, zero, suc, ◌<◌}
use native.Mathlib.Nat.{suc_inj, le_of_suc-le-suc, not-suc-le-zero}
use native.Mathlib.Omega.{arith}
use lib.ListN.{length, get_or}
use Rattle.buffer.specs.Row.{bytewise}

module _ (f : ℕ → ℕ → ℕ) where
  pub bytewise_length : (s t : List ℕ) → length s ≡ length t → length (bytewise f s t) ≡ length s
  unfolding bytewise
  bytewise_length [] t e = refl
  bytewise_length (x ∷ s) [] e = absurd (omega arith)
  bytewise_length (x ∷ s) (y ∷ t) e = ap suc (bytewise_length s t (suc_inj e))

  pub bytewise_at : (s t : List ℕ) (i : ℕ) → i < length s → i < length t
      → get_or (bytewise f s t) i 0 ≡ f (get_or s i 0) (get_or t i 0)
  unfolding bytewise
  bytewise_at [] t i h k = absurd (not-suc-le-zero h)
  bytewise_at (x ∷ s) [] i h k = absurd (not-suc-le-zero k)
  bytewise_at (x ∷ s) (y ∷ t) zero h k = refl
  bytewise_at (x ∷ s) (y ∷ t) (suc i) h k = bytewise_at s t i (le_of_suc-le-suc h) (le_of_suc-le-suc k)

  pub bytewise_append : (a b x y : List ℕ) → length a ≡ length b → bytewise f (a ++ x) (b ++ y) ≡ bytewise f a b ++ bytewise f x y
  unfolding bytewise
  bytewise_append [] [] x y e = refl
  bytewise_append [] (v ∷ b) x y e = absurd (omega arith)
  bytewise_append (u ∷ a) [] x y e = absurd (omega arith)
  bytewise_append (u ∷ a) (v ∷ b) x y e = ap (f u v ∷◌) (bytewise_append a b x y (suc_inj e))
