-- Laws of tests that compute: what a conjunction, a disjunction, a negation and a choice say when they are true.
-- Assumes nothing.
use mathlib.Core.Path.{◌≡◌, refl, sym}
use mathlib.Core.Bool.{Bool, true, false, cond, not, ◌&&◌, ◌||◌}
use mathlib.Core.Logic.{◌⊎◌, inl, inr}

-- true is not false
pub clash {ℓ} : {A : Type ℓ} {b : Bool} → b ≡ true → b ≡ false → A
clash {b = true} t f = absurd (mathlib.Core.Bool.true≢false f)
clash {b = false} t f = absurd (mathlib.Core.Bool.false≢true t)

-- a test is true or false, and its equation is kept
pub decide : (b : Bool) → (b ≡ true) ⊎ (b ≡ false)
decide true = inl refl
decide false = inr refl

-- a choice has what each of its two sides has, the first where its test is true
pub either {ℓ} : {A : Type ℓ} (P : A → Type 0) (b : Bool) {x y : A} → (b ≡ true → P x) → P y → P (cond b x y)
either P true p q = p refl
either P false p q = q

-- what cannot be true is false
pub refuted : (b : Bool) → (b ≡ true → ⊥) → b ≡ false
refuted true h = absurd (h refl)
refuted false h = refl

pub and_l : (a b : Bool) → a && b ≡ true → a ≡ true
and_l true b h = refl
and_l false b h = h

pub and_r : (a b : Bool) → a && b ≡ true → b ≡ true
and_r true b h = h
and_r false b h = clash h refl

pub and_none : (a b : Bool) → a ≡ false → a && b ≡ false
and_none true b h = clash refl h
and_none false b h = refl

pub and_i : (a b : Bool) → a ≡ true → b ≡ true → a && b ≡ true
and_i true b p q = q
and_i false b p q = p

-- a conjunction that fails, and not by its first part, fails by its second
pub and_rest : (a b : Bool) → a ≡ true → a && b ≡ false → b ≡ false
and_rest true b p h = h
and_rest false b p h = clash p refl

pub and_both : (a b c : Bool) → a && (b && c) ≡ (a && b) && (a && c)
and_both true b c = refl
and_both false b c = refl

-- two tests of some, and the same two of one more
pub and_pairs : (a b c d : Bool) → (a && b) && (c && d) ≡ (c && a) && (d && b)
and_pairs true true true true = refl
and_pairs true true true false = refl
and_pairs true true false d = refl
and_pairs true false true true = refl
and_pairs true false true false = refl
and_pairs true false false d = refl
and_pairs false b true d = refl
and_pairs false b false d = refl

pub or_l : (a b : Bool) → a ≡ true → a || b ≡ true
or_l true b h = refl
or_l false b h = clash h refl

pub or_r : (a b : Bool) → b ≡ true → a || b ≡ true
or_r true b h = refl
or_r false b h = h

-- where its first part fails, a disjunction is its second
pub or_rest : (a b : Bool) → a ≡ false → a || b ≡ b
or_rest true b h = clash refl h
or_rest false b h = refl

pub or_split : (a b : Bool) → a || b ≡ true → (a ≡ true) ⊎ (b ≡ true)
or_split true b h = inl refl
or_split false b h = inr h

pub or_none : (a b : Bool) → a ≡ false → b ≡ false → a || b ≡ false
or_none true b p q = p
or_none false b p q = q

-- a disjunction that fails, fails in both parts
pub or_none_l : (a b : Bool) → a || b ≡ false → a ≡ false
or_none_l true b h = h
or_none_l false b h = refl

pub or_none_r : (a b : Bool) → a || b ≡ false → b ≡ false
or_none_r true b h = clash refl h
or_none_r false b h = h

pub not_i : (a : Bool) → a ≡ false → not a ≡ true
not_i true h = clash refl h
not_i false h = refl

pub not_e : (a : Bool) → not a ≡ true → a ≡ false
not_e true h = sym h
not_e false h = refl

-- two tests that are true together are equal
pub bool_ext : (a b : Bool) → (a ≡ true → b ≡ true) → (b ≡ true → a ≡ true) → a ≡ b
bool_ext true true f g = refl
bool_ext true false f g = sym (f refl)
bool_ext false true f g = g refl
bool_ext false false f g = refl

-- an implication as a test
pub implies_i : (a b : Bool) → (a ≡ true → b ≡ true) → not a || b ≡ true
implies_i true b f = f refl
implies_i false b f = refl

pub implies_e : (a b : Bool) → not a || b ≡ true → a ≡ true → b ≡ true
implies_e true b h t = h
implies_e false b h t = clash t refl

-- the same with two assumptions
pub implies_i2 : (a b c : Bool) → (a ≡ true → b ≡ true → c ≡ true) → not a || not b || c ≡ true
implies_i2 true true c f = f refl refl
implies_i2 true false c f = refl
implies_i2 false b c f = refl

pub implies_e2 : (a b c : Bool) → not a || not b || c ≡ true → a ≡ true → b ≡ true → c ≡ true
implies_e2 true true c h s t = h
implies_e2 true false c h s t = clash t refl
implies_e2 false b c h s t = clash s refl

module _ {ℓ} {A : Type ℓ} where
  pub cond_true : (b : Bool) (x y : A) → b ≡ true → cond b x y ≡ x
  cond_true true x y h = refl
  cond_true false x y h = clash h refl

  pub cond_false : (b : Bool) (x y : A) → b ≡ false → cond b x y ≡ y
  cond_false true x y h = clash refl h
  cond_false false x y h = refl

  pub cond_same : (b : Bool) (x : A) → cond b x x ≡ x
  cond_same true x = refl
  cond_same false x = refl
