-- The numbers of pairs.
-- Assumes nothing.
use Prim.Native.Nat.{ℕ, ◌<◌}
use mathlib.Core.Path.{◌≡◌, refl}
use mathlib.Core.Bool.{true}
use native.Mathlib.Omega.{arith}
use Rattle.std.specs.Prelude.{Option, Some, None, is_some}
use Rattle.laws.proofs.Logic.{clash}
use Rattle.room.specs.Mergeable.{number_of}
use Rattle.room.proofs.Mergeable.{same_number, merge_number, forward_number, neither_number, merge_not}
use Rattle.step.specs.declared.verdict.Way.{Way}
use Rattle.step.specs.declared.verdict.Way.TheVariants.{Merge, FastForward}
use Rattle.step.specs.declared.verdict.Pair.{Pair}
use Rattle.step.specs.Verdict.{way_verdict, number_of_found}

-- that of a pair is not 0
above_zero : (way : Way) (receiver giver : ℕ) → 0 < number_of (way_verdict way receiver giver)
above_zero Merge receiver giver = omega arith
above_zero FastForward receiver giver = omega arith

pub found_not_zero : (found : Option Pair) → is_some found ≡ true → number_of_found found ≡ 0 → ⊥
found_not_zero None there none = clash there refl
found_not_zero (Some pair) there none = omega (arith, above_zero pair.way pair.receiver.0 pair.giver.0)

-- what a proof about one pair may take for granted
pub ruleset pair_numbers = (same_number, merge_number, forward_number, neither_number, merge_not)
