-- A group of refusals that is tested before others: where it refuses, its refusal is the first.
-- Assumes nothing.
use Prim.Native.Nat.{ℕ, ◌<◌}
use mathlib.Core.Path.{◌≡◌}
use mathlib.Core.Bool.{Bool, true}
use mathlib.Core.List.{List, ◌++◌}
use native.Mathlib.Omega.{arith}
use Rattle.refusal.specs.declared.Refusal.{Refusal}
use Rattle.refusal.specs.Answer.{number_of}
use Rattle.refusal.specs.Refusal.{first_refusal}
use Rattle.refusal.proofs.Refusals.{numbered, first_given}

-- no refusal's number is 0
above_zero : (refusal : Refusal) → 0 < number_of refusal
above_zero refusal = grind arith

pub refused_first : (tests later : List (ℕ × Bool)) → numbered tests ≡ true → (refusal : Refusal) → number_of refusal ≡ first_refusal tests
    → number_of refusal ≡ first_refusal (tests ++ later)
refused_first tests later told refusal given = first_given tests later told (number_of refusal) given (λ z. absurd (omega (arith, above_zero refusal)))
