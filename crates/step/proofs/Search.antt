-- The invariants of loops over the consoles.
-- Assumes nothing.
use Prim.Native.Nat.{ℕ, ◌+◌, ◌≤◌, ◌<◌}
use mathlib.Core.Path.{◌≡◌, refl, sym, ◌∙◌, ap}
use mathlib.Core.Bool.{Bool, true, false}
use native.Mathlib.Numerals.{add-one}
use native.Mathlib.Omega.{arith}
use native.Mathlib.Decide.{ℕ_discrete}
use Rattle.laws.proofs.Logic.{or_none}
use Rattle.graph.specs.Below.{some_below, first_nonzero}
use Rattle.graph.proofs.Below.{some_of, first_none, first_is}
use Rattle.command.specs.Code.{console_count}

-- For one that asks whether some console passes a test, and stops where it does: none before n did.
pub record Missed (f : ℕ → Bool) (n : ℕ) : Type 0 where
  pub within : n ≤ console_count
  pub told : some_below n f ≡ false

pub missed_none : (f : ℕ → Bool) → Missed f 0
unfolding some_below
missed_none f = record { within = omega arith; told = refl }

module _ {f : ℕ → Bool} {n : ℕ} (o : Missed f n) where
  pub missed_again : {b : Bool} → n < console_count → b ≡ f n → b ≡ false → Missed f (n + 1)
  unfolding some_below
  missed_again l e fails = record { within = omega arith; told = rw add-one (or_none _ _ o.told (sym e ∙ fails)) }

  pub missed_all : console_count ≤ n → false ≡ some_below console_count f
  missed_all l = let w = o.within in let e : n ≡ console_count = omega arith in sym (rw e at o.told)

pub missed_found : (f : ℕ → Bool) {n : ℕ} {b : Bool} → n < console_count → b ≡ f n → b ≡ true → true ≡ some_below console_count f
missed_found f {n} l e passes = sym (some_of console_count f n l (sym e ∙ passes))

-- For one that stops at the first number that is not 0: there was none before n.
pub record NoneSoFar (f : ℕ → ℕ) (n : ℕ) : Type 0 where
  pub within : n ≤ console_count
  pub none : (k : ℕ) → k < n → f k ≡ 0

pub none_at_first : (f : ℕ → ℕ) → NoneSoFar f 0
none_at_first f = record { within = omega arith; none = λ k l. absurd (omega arith) }

module _ {f : ℕ → ℕ} {n : ℕ} (o : NoneSoFar f n) where
  pub none_again : {x : ℕ} → n < console_count → x ≡ f n → x ≡ 0 → NoneSoFar f (n + 1)
  none_again l e z =
      record { within = omega arith; none = λ k m. elim (ℕ_discrete k n) [ yes same ↦ ap f same ∙ sym e ∙ z | no d ↦ o.none k (omega arith) ] }

  pub none_but_this : {x : ℕ} → n < console_count → x ≡ f n → (x ≡ 0 → ⊥) → x ≡ first_nonzero console_count f
  none_but_this l e given = e ∙ sym (first_is console_count f n l (λ z. given (e ∙ z)) o.none)

  pub none_at_last : console_count ≤ n → 0 ≡ first_nonzero console_count f
  none_at_last l = let w = o.within in sym (first_none console_count f (λ k m. o.none k (omega arith)))

-- what a proof about such a loop may take for granted
pub ruleset none_so_far = (none_at_first, none_again, none_but_this, none_at_last)
