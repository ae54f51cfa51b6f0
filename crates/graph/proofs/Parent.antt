-- The parents of a version as a relation, and the test of some parent in terms of it.
-- Assumes nothing.
use Prim.Native.Nat.{ℕ, ◌<◌}
use mathlib.Core.Path.{◌≡◌}
use mathlib.Core.Logic.{inl, inr}
use mathlib.Core.Bool.{Bool, true}
use lib.Dec.{ltb}
use borrow.Author.Tests.{ltb-true}
use Rattle.laws.proofs.Logic.{and_l, and_r, or_l, or_r, or_split}
use Rattle.graph.specs.declared.Version.{Version}
use Rattle.graph.specs.declared.Strip.{Strip}
use Rattle.graph.specs.declared.Node.{Node}
use Rattle.graph.specs.declared.Node.TheVariants.{Entry, Merge}
use Rattle.graph.specs.Graph.{Graph, version_count, some_parent, parents_lower}

pub data Parent : Node → ℕ → Type 0 where
  sole : {p : Version} {code : ℕ} {strip : Strip} {operand : ℕ} → Parent (Entry p code strip operand) p.0
  receiver : {p q : Version} → Parent (Merge p q) p.0
  giver : {p q : Version} → Parent (Merge p q) q.0

pub parent_to : (f : ℕ → Bool) (n : Node) → some_parent f n ≡ true → (p : ℕ) × Parent n p × (f p ≡ true)
parent_to f (Entry p code strip operand) t = (p.0, sole, t)
parent_to f (Merge p q) t = elim (or_split (f p.0) (f q.0) t) [ inl s ↦ (p.0, receiver, s) | inr s ↦ (q.0, giver, s) ]

pub parent_from : (f : ℕ → Bool) {n : Node} {p : ℕ} → Parent n p → f p ≡ true → some_parent f n ≡ true
parent_from f sole t = t
parent_from f (receiver {p} {q}) t = or_l (f p.0) (f q.0) t
parent_from f (giver {p} {q}) t = or_r (f p.0) (f q.0) t

pub parent_lower : (g : Graph) {n : Node} {p : ℕ} → parents_lower g n ≡ true → Parent n p → p < version_count g
parent_lower g w (sole {p}) = ltb-true p.0 (version_count g) w
parent_lower g w (receiver {p} {q}) =
    ltb-true p.0 (version_count g) (and_l (ltb p.0 (version_count g)) (ltb q.0 (version_count g)) w)
parent_lower g w (giver {p} {q}) =
    ltb-true q.0 (version_count g) (and_r (ltb p.0 (version_count g)) (ltb q.0 (version_count g)) w)
