-- The test that two lists of bytes are the same: over lists put end to end and one byte further; and zero bytes as such a test.
-- Assumes nothing.
use mathlib.Core.Path.{◌≡◌, refl, sym, ap, ap₂, ◌∙◌}
use mathlib.Core.Bool.{Bool, ◌&&◌, and_assoc, and-true}
use mathlib.Core.List.{List, [], ◌∷◌, ◌++◌}
use Prim.Native.Nat.{ℕ, ◌+◌, ◌<◌}
use native.Mathlib.Nat.{suc_inj}
use native.Mathlib.Numerals.{add-one}
use native.Mathlib.Omega.{arith}
use lib.Dec.{eqb}
use lib.ListN.{length, get_or, take}
use lib.Seq.{take-suc, length-take-le}
use Rattle.buffer.specs.Field.{same, all_zero, zeros}

pub same_append : (a b : List ℕ) (x y : List ℕ) → length a ≡ length b → same (a ++ x) (b ++ y) ≡ same a b && same x y
unfolding same
same_append [] [] x y e = refl
same_append [] (k ∷ b) x y e = absurd (omega arith)
same_append (j ∷ a) [] x y e = absurd (omega arith)
same_append (j ∷ a) (k ∷ b) x y e =
    ap (λ (t : Bool). eqb j k && t) (same_append a b x y (suc_inj e)) ∙ sym (and_assoc (eqb j k) (same a b) (same x y))

module _ (s t : List ℕ) (i : ℕ) (left : i < length s) (right : i < length t) where
  firsts : length (take i s) ≡ length (take i t)
  firsts = length-take-le i s (omega arith) ∙ sym (length-take-le i t (omega arith))

  -- one byte further
  pub same_more : same (take (i + 1) s) (take (i + 1) t) ≡ same (take i s) (take i t) && eqb (get_or s i 0) (get_or t i 0)
  unfolding same
  same_more =
      rw add-one
      (ap₂ same (take-suc s i 0 left) (take-suc t i 0 right) ∙ same_append (take i s) (take i t) _ _ firsts ∙ simp and-true)

pub zero_same : (s : List ℕ) → all_zero s ≡ same s (zeros (length s))
unfolding same all_zero
zero_same [] = refl
zero_same (x ∷ s) = ap (λ (t : Bool). eqb x 0 && t) (zero_same s)
