-- Laws of ancestors: a new version changes none of the older ones, and to be an ancestor is an order that keeps the order of the numbers.
-- Assumes nothing.
use Prim.Native.Nat.{ℕ, ◌≤◌, ◌<◌}
use mathlib.Core.Path.{◌≡◌, refl, sym, ◌∙◌, ap}
use mathlib.Core.Logic.{inl, inr}
use mathlib.Core.Bool.{Bool, true, ◌||◌}
use mathlib.Core.List.{[], ◌∷◌}
use mathlib.Core.Option.{Option, none, some}
use native.Mathlib.Omega.{arith}
use native.Mathlib.Decide.{ℕ_discrete}
use lib.Dec.{eqb}
use borrow.Author.Tests.{eqb-true, eq-eqb, ne_eqb}
use Rattle.laws.proofs.Logic.{clash, and_l, and_r, or_l, or_r, or_split, cond_true, cond_false}
use Rattle.graph.specs.declared.Node.{Node}
use Rattle.graph.specs.Graph.{Graph, version_count, some_parent, ancestor, parents_lower, node_of, is_entry_node, is_entry, every_version}
use Rattle.graph.proofs.Parent.{Parent, parent_to, parent_from, parent_lower}

-- a test of every version holds at the newest, and of those before it
pub every_new : (f : Graph → Node → Bool) (n : Node) (g : Graph) → every_version f (n ∷ g) ≡ true → f g n ≡ true
unfolding every_version
every_new f n g h = and_l (f g n) (every_version f g) h

pub every_old : (f : Graph → Node → Bool) (n : Node) (g : Graph) → every_version f (n ∷ g) ≡ true → every_version f g ≡ true
unfolding every_version
every_old f n g h = and_r (f g n) (every_version f g) h

-- the newest version, and those before it
pub ancestor_new : (n : Node) (g : Graph) (u : ℕ) → ancestor (n ∷ g) u (version_count g) ≡ (eqb u (version_count g) || some_parent (ancestor g u) n)
unfolding ancestor
ancestor_new n g u = cond_true (eqb (version_count g) (version_count g)) _ _ (eq-eqb (version_count g) (version_count g) refl)

ancestor_other : (n : Node) (g : Graph) (u v : ℕ) → (v ≡ version_count g → ⊥) → ancestor (n ∷ g) u v ≡ ancestor g u v
unfolding ancestor
ancestor_other n g u v d = cond_false (eqb v (version_count g)) _ _ (ne_eqb v (version_count g) d)

pub ancestor_old : (n : Node) (g : Graph) (u v : ℕ) → v < version_count g → ancestor (n ∷ g) u v ≡ ancestor g u v
ancestor_old n g u v l = ancestor_other n g u v (omega arith)

pub node_of-new : (n : Node) (g : Graph) → node_of (n ∷ g) (version_count g) ≡ some n
unfolding node_of
node_of-new n g = cond_true (eqb (version_count g) (version_count g)) _ _ (eq-eqb (version_count g) (version_count g) refl)

node_of-other : (n : Node) (g : Graph) (v : ℕ) → (v ≡ version_count g → ⊥) → node_of (n ∷ g) v ≡ node_of g v
unfolding node_of
node_of-other n g v d = cond_false (eqb v (version_count g)) _ _ (ne_eqb v (version_count g) d)

pub node_of-old : (n : Node) (g : Graph) (v : ℕ) → v < version_count g → node_of (n ∷ g) v ≡ node_of g v
node_of-old n g v l = node_of-other n g v (omega arith)

pub is_entry-new : (n : Node) (g : Graph) → is_entry (n ∷ g) (version_count g) ≡ is_entry_node (some n)
is_entry-new n g = ap is_entry_node (node_of-new n g)

pub is_entry-old : (n : Node) (g : Graph) (v : ℕ) → v < version_count g → is_entry (n ∷ g) v ≡ is_entry g v
is_entry-old n g v l = ap is_entry_node (node_of-old n g v l)

-- in the graph of version 0 alone
pub ancestor_first : (u v : ℕ) → ancestor [] u v ≡ true → (u ≡ 0) × (v ≡ 0)
unfolding ancestor
ancestor_first u v h = (eqb-true u 0 (and_r (eqb v 0) (eqb u 0) h), eqb-true v 0 (and_l (eqb v 0) (eqb u 0) h))

only_self : (u v : ℕ) → u ≡ 0 → v ≡ 0 → ancestor [] u v ≡ true
unfolding ancestor
only_self u v e d = cc

-- what has an ancestor is a version
pub ancestor_named : (g : Graph) (u v : ℕ) → ancestor g u v ≡ true → v < version_count g
ancestor_named [] u v h = omega (arith, ancestor_first u v h)
ancestor_named (n ∷ g) u v h =
    elim (ℕ_discrete v (version_count g)) [
      | yes e ↦ omega arith
      | no d ↦ omega (arith, ancestor_named g u v (cc (ancestor_other n g u v d)))
    ]

-- the three ways to be an ancestor once the version n is there: both are the new version; the second is, and the first is an
-- ancestor of a parent of it; it was so before
pub data Ways (n : Node) (g : Graph) (u v : ℕ) : Type 0 where
  same : u ≡ version_count g → v ≡ version_count g → Ways n g u v
  above : {p : ℕ} → Parent n p → ancestor g u p ≡ true → v ≡ version_count g → Ways n g u v
  before : ancestor g u v ≡ true → v < version_count g → Ways n g u v

pub ways : (n : Node) (g : Graph) (u v : ℕ) → ancestor (n ∷ g) u v ≡ true → Ways n g u v
ways n g u v h =
    elim (ℕ_discrete v (version_count g)) [
      | yes e ↦
          elim (or_split (eqb u (version_count g)) (some_parent (ancestor g u) n) (cc (ancestor_new n g u))) [
            | inl t ↦ same (eqb-true u (version_count g) t) e
            | inr t ↦ let r = parent_to (ancestor g u) n t in above r.1 r.2 e
          ]
      | no d ↦ let t : ancestor g u v ≡ true = cc (ancestor_other n g u v d) in before t (ancestor_named g u v t)
    ]

-- the first two of these ways back
pub ancestor_same : (n : Node) (g : Graph) → ancestor (n ∷ g) (version_count g) (version_count g) ≡ true
ancestor_same n g = rw ancestor_new (or_l (eqb (version_count g) (version_count g)) (some_parent (ancestor g (version_count g)) n) (eq-eqb (version_count g) (version_count g) refl))

pub ancestor_above : {n : Node} {p : ℕ} (g : Graph) (u : ℕ) → Parent n p → ancestor g u p ≡ true → ancestor (n ∷ g) u (version_count g) ≡ true
ancestor_above {n} g u r t = rw ancestor_new (or_r (eqb u (version_count g)) (some_parent (ancestor g u) n) (parent_from (ancestor g u) r t))

pub ancestor_le : (g : Graph) (u v : ℕ) → ancestor g u v ≡ true → u ≤ v
ancestor_le [] u v h = omega (arith, ancestor_first u v h)
ancestor_le (n ∷ g) u v h =
    elim (ways n g u v h) [
      | same a b ↦ omega arith
      | above {p} r t b ↦ omega (arith, ancestor_le g u p t, ancestor_named g u p t)
      | before t l ↦ ancestor_le g u v t
    ]

-- and so is the ancestor
pub ancestor_below : (g : Graph) (u v : ℕ) → ancestor g u v ≡ true → u < version_count g
ancestor_below g u v h = omega (arith, ancestor_le g u v h, ancestor_named g u v h)

pub ancestor_self : (g : Graph) (v : ℕ) → v < version_count g → ancestor g v v ≡ true
ancestor_self [] v l = only_self v v (omega arith) (omega arith)
ancestor_self (n ∷ g) v l =
    elim (ℕ_discrete v (version_count g)) [
      | yes e ↦ rw e (ancestor_same n g)
      | no d ↦ cc (ancestor_other n g v v d, ancestor_self g v (omega arith))
    ]

pub ancestor_trans : (g : Graph) (u v w : ℕ) → ancestor g u v ≡ true → ancestor g v w ≡ true → ancestor g u w ≡ true
ancestor_trans [] u v w h k = only_self u w (ancestor_first u v h).0 (ancestor_first v w k).1
ancestor_trans (n ∷ g) u v w h k =
    let older : (p : ℕ) → ancestor g v p ≡ true → ancestor g u p ≡ true = λ p t. ancestor_trans g u v p (cc (ancestor_old n g u v (ancestor_below g v p t))) t in
    elim (ways n g v w k) [
      | same a b ↦ rw (b ∙ sym a) h
      | above {p} r t b ↦ rw b (ancestor_above g u r (older p t))
      | before t l ↦ cc (ancestor_old n g u w l, older w t)
    ]

-- what has a node is a version, and not version 0
pub node_of-named : (g : Graph) (v : ℕ) (n : Node) → node_of g v ≡ some n → (0 < v) × (v < version_count g)
unfolding node_of
node_of-named [] v n h = let z : ◌≡◌ {A = ℕ} 0 1 = cc in absurd (omega arith)
node_of-named (m ∷ g) v n h =
    elim (ℕ_discrete v (version_count g)) [
      | yes e ↦ omega arith
      | no d ↦ omega (arith, node_of-named g v n (cc (node_of-other m g v d)))
    ]

-- a test of every version holds at each, given the versions before it
every_at : (f : Graph → Node → Bool) (g : Graph) (v : ℕ) (n : Node) → every_version f g ≡ true → node_of g v ≡ some n
    → (h : Graph) × (version_count h ≡ v) × (f h n ≡ true)
every_at f [] v n w e = absurd (omega (arith, node_of-named [] v n e))
every_at f (m ∷ g) v n w e =
    elim (ℕ_discrete v (version_count g)) [
      | yes d ↦ let is : m ≡ n = cc (node_of-new m g) in (g, sym d, rw is at (every_new f m g w))
      | no d ↦ every_at f g v n (every_old f m g w) (cc (node_of-other m g v d))
    ]

-- so each parent is a lower number, and a version
pub parent_below : (g : Graph) (n : Node) (p v : ℕ) → every_version parents_lower g ≡ true → node_of g v ≡ some n → Parent n p → p < v
parent_below g n p v w e r = let before = every_at parents_lower g v n w e in omega (arith, parent_lower before.0 before.2 r)

pub parent_named : (g : Graph) (n : Node) (p v : ℕ) → every_version parents_lower g ≡ true → node_of g v ≡ some n → Parent n p → p < version_count g
parent_named g n p v w e r = omega (arith, parent_below g n p v w e r, node_of-named g v n e)

-- a parent is an ancestor
pub parent_ancestor : (g : Graph) (n : Node) (p v : ℕ) → every_version parents_lower g ≡ true → node_of g v ≡ some n → Parent n p → ancestor g p v ≡ true
parent_ancestor [] n p v w e r = absurd (omega (arith, node_of-named [] v n e))
parent_ancestor (m ∷ g) n p v w e r =
    elim (ℕ_discrete v (version_count g)) [
      | yes d ↦
          let is : m ≡ n = cc (node_of-new m g) in
          let l : p < version_count g = parent_lower g (rw is at (every_new parents_lower m g w)) r in
          rw (d, is) (ancestor_above g p r (ancestor_self g p l))
      | no d ↦
          let l : v < version_count g = omega (arith, node_of-named (m ∷ g) v n e) in
          cc (ancestor_old m g p v l, parent_ancestor g n p v (every_old parents_lower m g w) (cc (node_of-old m g v l)) r)
    ]

pub is_entry-named : (g : Graph) (v : ℕ) → is_entry g v ≡ true → (0 < v) × (v < version_count g)
is_entry-named g v h = go (node_of g v) refl
  where
    go : (o : Option Node) → node_of g v ≡ o → (0 < v) × (v < version_count g)
    go none e = clash h (ap is_entry_node e)
    go (some n) e = node_of-named g v n e
