-- The test for an ancestor is the reflexive and transitive closure of the parent relation.
-- Assumes nothing.
use Prim.Native.Nat.{ℕ, ◌<◌}
use mathlib.Core.Path.{◌≡◌, ◌∙◌}
use mathlib.Core.Bool.{true}
use mathlib.Core.List.{[], ◌∷◌}
use mathlib.Core.Option.{some}
use native.Mathlib.Omega.{arith}
use Rattle.graph.specs.declared.Node.{Node}
use Rattle.graph.specs.Graph.{Graph, version_count, ancestor, node_of, every_version, parents_lower}
pub use Rattle.graph.proofs.Parent.{Parent, sole, receiver, giver}
use Rattle.graph.proofs.Ancestor.{node_of-new, node_of-old, node_of-named, ancestor_first, same, above, before, ways, ancestor_self, ancestor_trans, parent_ancestor}

-- v descends from u: it is u, or a parent of it descends from u
pub data Descends (g : Graph) : ℕ → ℕ → Type 0 where
  itself : {v : ℕ} → v < version_count g → Descends g v v
  onward : {u p v : ℕ} {n : Node} → Descends g u p → node_of g v ≡ some n → Parent n p → Descends g u v

pub closure_to : (g : Graph) {u v : ℕ} → every_version parents_lower g ≡ true → Descends g u v → ancestor g u v ≡ true
closure_to g w (itself {v} l) = ancestor_self g v l
closure_to g w (onward {u} {p} {v} {n} d e r) = ancestor_trans g u p v (closure_to g w d) (parent_ancestor g n p v w e r)

-- a new version keeps what descends from what
descends_old : {g : Graph} {u v : ℕ} (n : Node) → Descends g u v → Descends (n ∷ g) u v
descends_old n (itself {v} l) = itself {v = v} (omega arith)
descends_old {g} n (onward {v = v} {n = m} d e r) = onward (descends_old n d) (node_of-old n g v (node_of-named g v m e).1 ∙ e) r

pub closure_from : (g : Graph) (u v : ℕ) → ancestor g u v ≡ true → Descends g u v
closure_from [] u v h = let r = ancestor_first u v h in rw (r.0, r.1) (itself {v = 0} (omega arith))
closure_from (n ∷ g) u v h = elim (ways n g u v h) [
  | same a b ↦ rw (a, b) (itself {v = version_count g} (omega arith))
  | above {p} r t b ↦ rw b (onward (descends_old n (closure_from g u p t)) (node_of-new n g) r)
  | before t l ↦ descends_old n (closure_from g u v t)
]
