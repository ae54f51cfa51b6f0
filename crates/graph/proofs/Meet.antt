-- The meet of two versions: what the test and the search for it find is their single lowest common ancestor, and a new version changes
-- no meet of older ones. The number of a meet is a version's, and of a version with itself it is that version.
-- Assumes nothing.
use Prim.Native.Nat.{ℕ, ◌<◌}
use mathlib.Core.Path.{◌≡◌, refl, sym, ◌∙◌, ap}
use mathlib.Core.Bool.{Bool, true, not, ◌||◌}
use mathlib.Core.List.{◌∷◌}
use mathlib.Core.Option.{Option, none, some, get_or}
use native.Mathlib.Omega.{arith}
use Rattle.laws.proofs.Logic.{refuted, and_l, and_r, and_i, implies_i, implies_e}
use Rattle.graph.specs.Below.{every_below}
use Rattle.graph.specs.declared.Node.{Node}
use Rattle.graph.specs.Graph.{Graph, version_count, ancestor, common_ancestor, is_meet, meet, meet_number}
use Rattle.graph.proofs.Below.{at, of, highest_some, highest_of, highest_below_lem}
use Rattle.graph.proofs.Ancestor.{ancestor_old, ancestor_named, ancestor_le, ancestor_below, ancestor_self}

-- "the ancestor of both heads of which every other common ancestor is an ancestor"
pub record Meet (g : Graph) (u v m : ℕ) : Type 0 where
  pub first : ancestor g m u ≡ true
  pub second : ancestor g m v ≡ true
  pub lowest : (w : ℕ) → ancestor g w u ≡ true → ancestor g w v ≡ true → ancestor g w m ≡ true

-- the test of a meet
is_meet-is : (g : Graph) (u v m : ℕ) → is_meet g u v m ≡ true → Meet g u v m
unfolding is_meet
is_meet-is g u v m h =
    let rest : ℕ → Bool = λ w. not (common_ancestor g u v w) || ancestor g w m in
    let both = and_l (common_ancestor g u v m) (every_below (version_count g) rest) h in
    let every = at (version_count g) rest (and_r (common_ancestor g u v m) (every_below (version_count g) rest) h) in
    record {
      first = and_l (ancestor g m u) (ancestor g m v) both;
      second = and_r (ancestor g m u) (ancestor g m v) both;
      lowest = λ w a b. implies_e (common_ancestor g u v w) (ancestor g w m) (every w (ancestor_below g w u a)) (and_i (ancestor g w u) (ancestor g w v) a b);
    }

is_meet-of : (g : Graph) (u v m : ℕ) → Meet g u v m → is_meet g u v m ≡ true
unfolding is_meet
is_meet-of g u v m h =
    let rest : ℕ → Bool = λ w. not (common_ancestor g u v w) || ancestor g w m in
    let both = and_i (ancestor g m u) (ancestor g m v) h.first h.second in
    let behind : (w : ℕ) → common_ancestor g u v w ≡ true → ancestor g w m ≡ true = λ w c. h.lowest w (and_l (ancestor g w u) (ancestor g w v) c) (and_r (ancestor g w u) (ancestor g w v) c) in
    and_i (common_ancestor g u v m) (every_below (version_count g) rest) both (of (version_count g) rest (λ w l. implies_i (common_ancestor g u v w) (ancestor g w m) (behind w)))

-- the search for it
pub meet_is : (g : Graph) (u v m : ℕ) → meet g u v ≡ some m → Meet g u v m
unfolding meet
meet_is g u v m h = is_meet-is g u v m (highest_some (version_count g) (is_meet g u v) m h).1

pub meet_found : {g : Graph} {u v m : ℕ} → Meet g u v m → meet g u v ≡ some m
unfolding meet
meet_found {g} {u} {v} {m} h =
    let none : (k : ℕ) → m < k → is_meet g u v k ≡ true → ⊥ = λ k l t. let r = is_meet-is g u v k t in omega (arith, ancestor_le g k m (h.lowest k r.first r.second)) in
    highest_of (version_count g) (is_meet g u v) m (ancestor_below g m u h.first) (is_meet-of g u v m h) (λ k l _. refuted (is_meet g u v k) (none k l))

-- the number of a meet
pub meet_number_lem : {g : Graph} {u v m : ℕ} → Meet g u v m → meet_number g u v ≡ m
meet_number_lem h = ap (λ (o : Option ℕ). get_or o 0) (meet_found h)

-- it is a version's
pub meet_number-below : (g : Graph) (u v : ℕ) → meet_number g u v < version_count g
unfolding meet
meet_number-below g u v = omega (arith, highest_below_lem (version_count g) (is_meet g u v))

pub meet_none : (g : Graph) (u v : ℕ) → meet g u v ≡ none → (m : ℕ) → Meet g u v m → ⊥
meet_none g u v e m h = let z : ◌≡◌ {A = ℕ} 0 1 = cc (meet_found h) in omega arith

meet_unique : {g : Graph} {u v m k : ℕ} → Meet g u v m → Meet g u v k → m ≡ k
meet_unique a b = cc (meet_found a, meet_found b)

pub meet_sym : {g : Graph} {u v m : ℕ} → Meet g u v m → Meet g v u m
meet_sym h = record { first = h.second; second = h.first; lowest = λ w a b. h.lowest w b a }

-- a version and one behind it
pub meet_behind : (g : Graph) (u v : ℕ) → ancestor g u v ≡ true → Meet g u v u
meet_behind g u v h = record { first = ancestor_self g u (ancestor_below g u v h); second = h; lowest = λ w a b. a }

pub meet_self : (g : Graph) (v : ℕ) → v < version_count g → Meet g v v v
meet_self g v l = meet_behind g v v (ancestor_self g v l)

-- "of a console with itself: its head"
pub meet_number-self : (g : Graph) (v : ℕ) → v < version_count g → meet_number g v v ≡ v
meet_number-self g v l = meet_number_lem (meet_self g v l)

-- a meet is a matter of the ancestors of the three versions alone
Meet-rows : {g k : Graph} {u v m : ℕ} → ((w : ℕ) → ancestor k w u ≡ ancestor g w u) → ((w : ℕ) → ancestor k w v ≡ ancestor g w v) →
    ((w : ℕ) → ancestor k w m ≡ ancestor g w m) → Meet g u v m → Meet k u v m
Meet-rows {m = m} p q r h = record {
  first = p m ∙ h.first;
  second = q m ∙ h.second;
  lowest = λ w a b. r w ∙ h.lowest w (sym (p w) ∙ a) (sym (q w) ∙ b);
}

-- so a new version changes no meet of older ones
pub Meet-new : {g : Graph} {u v m : ℕ} (n : Node) → Meet g u v m → Meet (n ∷ g) u v m
Meet-new {g} {u} {v} {m} n h =
    let old : (x : ℕ) → x < version_count g → (w : ℕ) → ancestor (n ∷ g) w x ≡ ancestor g w x = λ x l w. ancestor_old n g w x l in
    Meet-rows (old u (ancestor_named g m u h.first)) (old v (ancestor_named g m v h.second)) (old m (ancestor_below g m u h.first)) h

Meet-old : {g : Graph} {u v m : ℕ} (n : Node) → u < version_count g → v < version_count g → Meet (n ∷ g) u v m → Meet g u v m
Meet-old {g} {u} {v} {m} n a b h =
    let old : (x : ℕ) → x < version_count g → (w : ℕ) → ancestor g w x ≡ ancestor (n ∷ g) w x = λ x l w. sym (ancestor_old n g w x l) in
    Meet-rows (old u a) (old v b) (old m (omega (arith, ancestor_le (n ∷ g) m u h.first))) h

pub meet_old : (n : Node) (g : Graph) (u v : ℕ) → u < version_count g → v < version_count g → meet (n ∷ g) u v ≡ meet g u v
meet_old n g u v a b = go (meet g u v) (meet (n ∷ g) u v) refl refl
  where
    go : (o p : Option ℕ) → meet g u v ≡ o → meet (n ∷ g) u v ≡ p → p ≡ o
    go none none d e = refl
    go none (some m) d e = absurd (meet_none g u v d m (Meet-old n a b (meet_is (n ∷ g) u v m e)))
    go (some m) none d e = absurd (meet_none (n ∷ g) u v e m (Meet-new n (meet_is g u v m d)))
    go (some m) (some k) d e = ap some (meet_unique (meet_is (n ∷ g) u v k e) (Meet-new n (meet_is g u v m d)))
