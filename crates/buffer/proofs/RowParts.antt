-- The test that a row has no member from a number on, by parts: the byte that holds the number, and the bytes after it.
-- Assumes nothing.
use mathlib.Core.Path.{◌≡◌}
use mathlib.Core.Bool.{true, ◌&&◌}
use mathlib.Core.List.{List}
use Prim.Native.Nat.{ℕ, ◌+◌, ◌-◌, ◌/◌, ◌%◌, ◌^◌, ◌≤◌}
use native.Mathlib.Nat.{zero-div}
use native.Mathlib.Omega.{arith}
use lib.Dec.{eqb}
use lib.ListN.{length, get_or, take, drop, drop_of_length-le, get_or-eq_default}
use Rattle.laws.proofs.Lists.{rest_all}
use Rattle.buffer.specs.Field.{all_zero}
use Rattle.buffer.specs.Row.{none_from}

-- all from a place on, as a part that ends where the list ends
abbrev rest : List ℕ → ℕ → List ℕ
rest s n = take (length s - n) (drop n s)

-- no member from a number on: the byte that holds the number, and the bytes after it
pub none_parts : (s : List ℕ) (n : ℕ) → eqb (get_or s (n / 8) 0 / 2 ^ (n % 8)) 0 && all_zero (rest s (n / 8 + 1)) ≡ none_from s n
none_parts s n = rw (rest_all s (n / 8 + 1))

-- and none past the end
pub none_past : (s : List ℕ) (n : ℕ) → length s ≤ n / 8 → none_from s n ≡ true
unfolding all_zero
none_past s n h = rw (get_or-eq_default s 0 h, zero-div, drop_of_length-le s {i = n / 8 + 1} (omega arith))
