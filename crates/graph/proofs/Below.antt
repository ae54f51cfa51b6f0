-- Laws of the tests below a bound: what it says that all of them pass, that some do, which is the highest, and how many; and which of some
-- numbers is the first that is not 0.
-- Assumes nothing.
use Prim.Native.Nat.{ℕ, zero, suc, pred, ◌+◌, ◌≤◌, ◌<◌}
use mathlib.Core.Path.{◌≡◌, refl}
use mathlib.Core.Logic.{inl, inr}
use mathlib.Core.Bool.{Bool, true, false, cond, ◌&&◌, ◌||◌}
use mathlib.Core.Option.{some, get_or}
use native.Mathlib.Numerals.{add-one}
use native.Mathlib.Omega.{arith}
use native.Mathlib.Decide.{ℕ_discrete}
use borrow.Author.Tests.{ne_eqb}
use Rattle.laws.proofs.Logic.{clash, decide, refuted, and_l, and_r, and_i, and_rest, or_l, or_r, or_split}
use Rattle.graph.specs.Below.{every_below, some_below, count_below, highest_below, first_nonzero}

-- what holds below n and at n holds below n + 1
pub more : (P : ℕ → Type 0) (n : ℕ) → ((k : ℕ) → k < n → P k) → P n → (k : ℕ) → k < suc n → P k
more P n h p k l = elim (ℕ_discrete k n) [ yes e ↦ rw e p | no d ↦ h k (omega arith) ]

pub at : (n : ℕ) (f : ℕ → Bool) → every_below n f ≡ true → (k : ℕ) → k < n → f k ≡ true
unfolding every_below
at zero f h = λ k l. absurd (omega arith)
at (suc n) f h = more (λ k. f k ≡ true) n (at n f (and_l (every_below n f) (f n) h)) (and_r (every_below n f) (f n) h)

pub of : (n : ℕ) (f : ℕ → Bool) → ((k : ℕ) → k < n → f k ≡ true) → every_below n f ≡ true
unfolding every_below
of zero f h = refl
of (suc n) f h = and_i (every_below n f) (f n) (of n f (λ k l. h k (omega arith))) (h n (omega arith))

pub every_more : (n : ℕ) (f : ℕ → Bool) → every_below n f ≡ true → f n ≡ true → every_below (n + 1) f ≡ true
unfolding every_below
every_more n f h t = rw add-one (and_i (every_below n f) (f n) h t)

-- a test that agrees with another below the bound
pub every_ext : (n : ℕ) (f g : ℕ → Bool) → ((k : ℕ) → k < n → f k ≡ g k) → every_below n f ≡ every_below n g
unfolding every_below
every_ext zero f g h = refl
every_ext (suc n) f g h = rw (every_ext n f g (λ k l. h k (omega arith)), h n (omega arith))

-- where one does not pass, not all do, and where not all do, there is one that does not
pub every_fails : (n : ℕ) (f : ℕ → Bool) (k : ℕ) → k < n → f k ≡ false → every_below n f ≡ false
every_fails n f k l e = refuted (every_below n f) (λ h. clash (at n f h k l) e)

pub fails_at : (n : ℕ) (f : ℕ → Bool) → every_below n f ≡ false → (k : ℕ) × (k < n) × (f k ≡ false)
unfolding every_below
fails_at zero f h = clash refl h
fails_at (suc n) f h =
    elim (decide (every_below n f)) [
      | inl t ↦ (n, omega arith, and_rest (every_below n f) (f n) t h)
      | inr e ↦ let r = fails_at n f e in (r.0, omega arith, r.2)
    ]

pub some_at : (n : ℕ) (f : ℕ → Bool) → some_below n f ≡ true → (k : ℕ) × (k < n) × (f k ≡ true)
unfolding some_below
some_at zero f h = clash h refl
some_at (suc n) f h =
    elim (or_split (some_below n f) (f n) h) [
      | inl s ↦ let r = some_at n f s in (r.0, omega arith, r.2)
      | inr t ↦ (n, omega arith, t)
    ]

pub some_of : (n : ℕ) (f : ℕ → Bool) (k : ℕ) → k < n → f k ≡ true → some_below n f ≡ true
unfolding some_below
some_of zero f k l t = absurd (omega arith)
some_of (suc n) f k l t =
    elim (ℕ_discrete k n) [
      | yes e ↦ or_r (some_below n f) (f n) (cc)
      | no d ↦ or_l (some_below n f) (f n) (some_of n f k (omega arith) t)
    ]

-- the highest number below the bound that passes
pub highest_some : (n : ℕ) (f : ℕ → Bool) (m : ℕ) → highest_below n f ≡ some m → (m < n) × (f m ≡ true) × ((k : ℕ) → m < k → k < n → f k ≡ false)
unfolding highest_below
highest_some zero f m h = let z : ◌≡◌ {A = ℕ} 0 1 = cc in absurd (omega arith)
highest_some (suc n) f m h =
    elim (decide (f n)) [
      | inl t ↦ let e : n ≡ m = cc in (omega arith, (cc), λ k a b. absurd (omega arith))
      | inr t ↦ let r = highest_some n f m (cc) in (omega arith, r.1, λ k a l. more (λ j. m < j → f j ≡ false) n (λ j b c. r.2 j c b) (λ _. t) k l a)
    ]

pub highest_of : (n : ℕ) (f : ℕ → Bool) (m : ℕ) → m < n → f m ≡ true → ((k : ℕ) → m < k → k < n → f k ≡ false) → highest_below n f ≡ some m
unfolding highest_below
highest_of zero f m l t h = absurd (omega arith)
highest_of (suc n) f m l t h =
    elim (ℕ_discrete m n) [
      | yes e ↦ cc
      | no d ↦ cc (h n (omega arith) (omega arith), highest_of n f m (omega arith) t (λ k a b. h k a (omega arith)))
    ]

-- its number, or 0 where none passes, is below every bound but 0
pub highest_below_lem : (n : ℕ) (f : ℕ → Bool) → get_or (highest_below n f) 0 ≤ pred n
unfolding highest_below
highest_below_lem zero f = omega arith
highest_below_lem (suc n) f =
    elim (f n) as (λ b. get_or (cond b (some n) (highest_below n f)) 0 ≤ n) [
      | true ↦ omega arith
      | false ↦ omega (arith, highest_below_lem n f)
    ]

pub count_ext : (n : ℕ) (f g : ℕ → Bool) → ((k : ℕ) → k < n → f k ≡ g k) → count_below n f ≡ count_below n g
unfolding count_below
count_ext zero f g h = refl
count_ext (suc n) f g h = cc (count_ext n f g (λ k l. h k (omega arith)), h n (omega arith))

pub count_more : (n : ℕ) (f g : ℕ → Bool) (b : Bool) → ((k : ℕ) → k < n → f k ≡ g k) → f n ≡ b → count_below (suc n) f ≡ count_below n g + cond b 1 0
unfolding count_below
count_more n f g b h e = cc (count_ext n f g h)

-- what one number adds to a count
weight_mono : (a b : Bool) → (a ≡ true → b ≡ true) → cond {A = ℕ} a 1 0 ≤ cond b 1 0
weight_mono true true h = omega arith
weight_mono true false h = clash (h refl) refl
weight_mono false b h = omega arith

weight_both : (a b : Bool) → cond {A = ℕ} (a || b) 1 0 + cond (a && b) 1 0 ≡ cond a 1 0 + cond b 1 0
weight_both true b = omega arith
weight_both false b = omega arith

-- numbers that do not pass add nothing
pub count_past : (n m : ℕ) (f : ℕ → Bool) → n ≤ m → ((k : ℕ) → n ≤ k → f k ≡ false) → count_below m f ≡ count_below n f
unfolding count_below
count_past n zero f l h = let e : n ≡ 0 = omega arith in rw e
count_past n (suc m) f l h =
    elim (ℕ_discrete n (suc m)) [
      | yes e ↦ rw e
      | no d ↦ rw (h m (omega arith)) (omega (arith, count_past n m f (omega arith) h))
    ]

-- a higher bound counts no fewer
pub count_rises : (n m : ℕ) (f : ℕ → Bool) → n ≤ m → count_below n f ≤ count_below m f
unfolding count_below
count_rises n zero f l = let e : n ≡ 0 = omega arith in rw e (omega arith)
count_rises n (suc m) f l =
    elim (ℕ_discrete n (suc m)) [
      | yes e ↦ rw e (omega arith)
      | no d ↦ omega (arith, count_rises n m f (omega arith))
    ]

count_le : (n : ℕ) (f : ℕ → Bool) → count_below n f ≤ n
unfolding count_below
count_le zero f = omega arith
count_le (suc n) f = omega (arith, count_le n f, weight_mono (f n) true (λ _. refl))

pub count_lt : (n : ℕ) (f : ℕ → Bool) (k : ℕ) → k < n → f k ≡ false → count_below n f < n
unfolding count_below
count_lt zero f k l o = absurd (omega arith)
count_lt (suc n) f k l o = elim (ℕ_discrete k n) [
  | yes e ↦ let z : cond {A = ℕ} (f n) 1 0 ≡ 0 = cc in omega (arith, count_le n f)
  | no d ↦ omega (arith, count_lt n f k (omega arith) o, weight_mono (f n) true (λ _. refl))
]

pub inclusion_exclusion : (n : ℕ) (f g : ℕ → Bool) → count_below n (λ k. f k || g k) + count_below n (λ k. f k && g k) ≡ count_below n f + count_below n g
unfolding count_below
inclusion_exclusion zero f g = refl
inclusion_exclusion (suc n) f g = omega (arith, inclusion_exclusion n f g, weight_both (f n) (g n))

-- the first that is not 0: there is none exactly where each is 0
pub first_none : (n : ℕ) (f : ℕ → ℕ) → ((k : ℕ) → k < n → f k ≡ 0) → first_nonzero n f ≡ 0
unfolding first_nonzero
first_none zero f h = refl
first_none (suc n) f h = rw (h 0 (omega arith)) (first_none n (λ k. f (suc k)) (λ k l. h (suc k) (omega arith)))

none_later : (f : ℕ → ℕ) (n : ℕ) → f 0 ≡ 0 → ((k : ℕ) → k < n → f (suc k) ≡ 0) → (k : ℕ) → k < suc n → f k ≡ 0
none_later f n e h zero l = e
none_later f n e h (suc k) l = h k (omega arith)

pub none_first : (n : ℕ) (f : ℕ → ℕ) → first_nonzero n f ≡ 0 → (k : ℕ) → k < n → f k ≡ 0
unfolding first_nonzero
none_first zero f h = λ k l. absurd (omega arith)
none_first (suc n) f h =
    elim (ℕ_discrete (f 0) 0) [
      | yes e ↦ none_later f n e (none_first n (λ k. f (suc k)) (rw e at h))
      | no d ↦ absurd (d (rw (ne_eqb (f 0) 0 d) at h))
    ]

-- it is that of the lowest number at which it is not
pub first_is : (n : ℕ) (f : ℕ → ℕ) (k : ℕ) → k < n → (f k ≡ 0 → ⊥) → ((j : ℕ) → j < k → f j ≡ 0) → first_nonzero n f ≡ f k
unfolding first_nonzero
first_is zero f k l given before = absurd (omega arith)
first_is (suc n) f zero l given before = rw (ne_eqb (f 0) 0 given)
first_is (suc n) f (suc k) l given before =
    rw (before 0 (omega arith)) (first_is n (λ j. f (suc j)) k (omega arith) given (λ j m. before (suc j) (omega arith)))

pub first_found : (n : ℕ) (f : ℕ → ℕ) → (first_nonzero n f ≡ 0 → ⊥) → (k : ℕ) × (k < n) × (first_nonzero n f ≡ f k) × ((j : ℕ) → j < k → f j ≡ 0)
unfolding first_nonzero
first_found zero f given = absurd (given refl)
first_found (suc n) f given =
    elim (ℕ_discrete (f 0) 0) [
      | yes e ↦
          let r = first_found n (λ k. f (suc k)) (rw e at given) in
          (suc r.0, omega arith, rw e r.2, none_later f r.0 e r.3)
      | no d ↦ (0, omega arith, rw (ne_eqb (f 0) 0 d), λ j l. absurd (omega arith))
    ]
