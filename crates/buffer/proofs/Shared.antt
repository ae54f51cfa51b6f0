-- The members that two rows have in common are the bits of their bytes' `and`; and the highest bit of a byte.
-- Assumes nothing.
use mathlib.Core.Path.{◌≡◌, sym, ap, ◌∙◌}
use mathlib.Core.Bool.{◌&&◌}
use mathlib.Core.List.{List}
use Prim.Native.Nat.{ℕ, ◌+◌, ◌-◌, ◌/◌, ◌%◌, ◌^◌, min, ◌<◌}
use native.Mathlib.Nat.{div-eq_of_lt}
use native.Mathlib.Omega.{arith}
use lib.Dec.{eqb}
use lib.Bits.{bit_and, and_step, and_shr}
use lib.Pow.{shr-shr, pow-lt}
use lib.ListN.{get_or}
use Rattle.laws.proofs.Logic.{bool_ext, and_l, and_r, and_i}
use borrow.Author.Tests.{eqb-true, eq-eqb}
use Rattle.buffer.specs.Row.{member}

bit_both : (a b j : ℕ) → bit_and a b / 2 ^ j % 2 ≡ min (a / 2 ^ j % 2) (b / 2 ^ j % 2)
bit_both a b j = rw (and_shr a b j) (omega (arith, and_step (a / 2 ^ j) (b / 2 ^ j)))

one_both : (x y : ℕ) → x < 2 → y < 2 → eqb x 1 && eqb y 1 ≡ eqb (min x y) 1
one_both x y p q =
    bool_ext (eqb x 1 && eqb y 1) (eqb (min x y) 1)
    (λ h. let a = eqb-true x 1 (and_l (eqb x 1) (eqb y 1) h) in let b = eqb-true y 1 (and_r (eqb x 1) (eqb y 1) h) in eq-eqb (min x y) 1 (omega arith))
    (λ h. let e = eqb-true (min x y) 1 h in and_i (eqb x 1) (eqb y 1) (eq-eqb x 1 (omega arith)) (eq-eqb y 1 (omega arith)))

-- v is a member of both rows
pub member_both : (p q : List ℕ) (v : ℕ) → member p v && member q v ≡ eqb (bit_and (get_or p (v / 8) 0) (get_or q (v / 8) 0) / 2 ^ (v % 8) % 2) 1
member_both p q v =
    one_both (get_or p (v / 8) 0 / 2 ^ (v % 8) % 2) (get_or q (v / 8) 0 / 2 ^ (v % 8) % 2) (omega arith) (omega arith)
    ∙ ap (λ (x : ℕ). eqb x 1) (sym (bit_both (get_or p (v / 8) 0) (get_or q (v / 8) 0) (v % 8)))

-- a number that is 1 when its lowest r bits are cut off has no higher bit
pub no_higher : (x r j : ℕ) → x / 2 ^ r ≡ 1 → r < j → x / 2 ^ j ≡ 0
no_higher x r j e l =
    let there : r + (j - r) ≡ j = omega arith in
    let small : 1 < 2 ^ (j - r) = pow-lt {i = 0} {j = j - r} (omega arith) in
    ap (λ (i : ℕ). x / 2 ^ i) (sym there) ∙ sym (shr-shr x r (j - r)) ∙ ap (λ (y : ℕ). y / 2 ^ (j - r)) e ∙ div-eq_of_lt small
