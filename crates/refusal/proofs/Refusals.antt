-- Which refusal of a list is given; where none is, the case of none is there.
-- Assumes nothing.
use Prim.Native.Nat.{ℕ, zero, suc}
use mathlib.Core.Path.{◌≡◌, refl, sym, ◌∙◌}
use mathlib.Core.Logic.{◌≢◌}
use mathlib.Core.Bool.{Bool, true, false, not, ◌&&◌}
use mathlib.Core.List.{List, [], ◌∷◌, ◌++◌}
use native.Mathlib.Omega.{arith}
use lib.Dec.{eqb}
use borrow.Author.Tests.{eq-eqb, ne_eqb, eqb-false}
use Rattle.laws.proofs.Logic.{and_l, and_r, not_e, cond_true, cond_false}
use Rattle.refusal.specs.Refusal.{◌when◌, first_refusal, first_of}

-- a refusal whose case is there is given, and one whose case is not leaves the later ones
pub given_here : (number : ℕ) (case : Bool) (later : List (ℕ × Bool)) → case ≡ true → number ≡ first_refusal (number when case ∷ later)
unfolding first_refusal
given_here number case later h = rw h

pub given_later : (number : ℕ) (case : Bool) (later : List (ℕ × Bool)) (given : ℕ) → case ≡ false → given ≡ first_refusal later
    → given ≡ first_refusal (number when case ∷ later)
unfolding first_refusal
given_later number case later given h e = rw h e

-- where none is given, the first's case is not there, and none of the later ones is given
pub none_given : (number : ℕ) (case : Bool) (later : List (ℕ × Bool)) → number ≢ 0 → first_refusal (number when case ∷ later) ≡ 0
    → (case ≡ false) × (first_refusal later ≡ 0)
unfolding first_refusal
none_given number true later given h = absurd (given h)
none_given number false later given h = (refl, h)

-- The numbers of a list are refusals': none is 0. Of a list that is written out it holds by computation.
abbrev pub numbered : List (ℕ × Bool) → Bool
numbered [] = true
numbered (r ∷ later) = not (eqb r.0 0) && numbered later

-- where none of a whole list is given, each test is false
abbrev pub NoneApplies : List (ℕ × Bool) → Type 0
NoneApplies [] = Unit {0}
NoneApplies (r ∷ later) = (r.1 ≡ false) × NoneApplies later

pub none_applies : (tests : List (ℕ × Bool)) → numbered tests ≡ true → first_refusal tests ≡ 0 → NoneApplies tests
none_applies [] k h = tt
none_applies (r ∷ later) k h =
    let one = none_given r.0 r.1 later (eqb-false r.0 0 (not_e _ (and_l _ _ k))) h in
    (one.0, none_applies later (and_r (not (eqb r.0 0)) _ k) one.1)

-- A list has no test with this number, which is then not given. Of a list that is written out it holds by computation.
abbrev pub lacks : ℕ → List (ℕ × Bool) → Bool
lacks n [] = not (eqb 0 n)
lacks n (r ∷ later) = not (eqb r.0 n) && lacks n later

pub not_given : (n : ℕ) (tests : List (ℕ × Bool)) → lacks n tests ≡ true → first_refusal tests ≡ n → ⊥
unfolding first_refusal
not_given n [] l h = eqb-false 0 n (not_e _ l) h
not_given n ((number, true) ∷ later) l h = eqb-false number n (not_e _ (and_l _ _ l)) h
not_given n ((number, false) ∷ later) l h = not_given n later (and_r (not (eqb number n)) _ l) h

-- two groups of tests one after the other: the first refusal of the first group, or else of the second
pub first_append : (a b : List (ℕ × Bool)) → numbered a ≡ true → first_refusal (a ++ b) ≡ first_of (first_refusal a) (first_refusal b)
unfolding first_refusal
first_append [] b h = refl
first_append ((number, true) ∷ later) b h = rw (not_e (eqb number 0) (and_l (not (eqb number 0)) (numbered later) h))
first_append ((number, false) ∷ later) b h = first_append later b (and_r (not (eqb number 0)) (numbered later) h)

-- three tests one after the other
pub first_three : (x y z : ℕ × Bool) → numbered (x ∷ []) ≡ true → numbered (y ∷ []) ≡ true
    → first_of (first_refusal (x ∷ [])) (first_of (first_refusal (y ∷ [])) (first_refusal (z ∷ []))) ≡ first_refusal (x ∷ y ∷ z ∷ [])
first_three x y z h k = rw (← first_append (y ∷ []) (z ∷ []) k) (sym (first_append (x ∷ []) (y ∷ z ∷ []) h))

-- what the first group gives is given; where it gives none, the second group's is
module _ (a b : List (ℕ × Bool)) (h : numbered a ≡ true) (n : ℕ) (e : n ≡ first_refusal a) where
  pub first_given : n ≢ 0 → n ≡ first_refusal (a ++ b)
  first_given given = e ∙ sym (first_append a b h ∙ cond_false _ _ _ (ne_eqb (first_refusal a) 0 (rw e at given)))

  pub first_later : n ≡ 0 → first_refusal b ≡ first_refusal (a ++ b)
  first_later none = sym (first_append a b h ∙ cond_true _ _ _ (eq-eqb (first_refusal a) 0 (sym e ∙ none)))

-- where neither of two is given, none is
pub first_none : (a b : ℕ) → first_of a b ≡ 0 → (a ≡ 0) × (b ≡ 0)
first_none zero b h = (refl, h)
first_none (suc a) b h = absurd (omega (arith, rw (ne_eqb (suc a) 0 (omega arith)) at h))
