-- The meets of a new version with an older one: at an entry the parent's, at a merge the later of the parents', and there is one exactly
-- when one of the parents' meets is behind the other.
-- Assumes nothing.
use Prim.Native.Nat.{ℕ, ◌<◌}
use mathlib.Core.Path.{◌≡◌, sym, ◌∙◌}
use mathlib.Core.Bool.{true}
use mathlib.Core.List.{◌∷◌}
use mathlib.Core.Logic.{◌⊎◌, inl, inr}
use native.Mathlib.Omega.{arith}
use Rattle.graph.specs.declared.Node.{Node}
use Rattle.graph.specs.Graph.{Graph, entry, merge, version_count, ancestor}
use Rattle.graph.proofs.Parent.{Parent, sole, receiver, giver}
use Rattle.graph.proofs.Ancestor.{same, above, before, ways, ancestor_old, ancestor_above, ancestor_le, ancestor_trans}
use Rattle.graph.proofs.Meet.{Meet}

-- a common ancestor of the new version and an older one is one of a parent and that one
pub by_parent : (n : Node) (g : Graph) (h w : ℕ) → h < version_count g → ancestor (n ∷ g) w (version_count g) ≡ true → ancestor (n ∷ g) w h ≡ true
    → (p : ℕ) × Parent n p × (ancestor g w p ≡ true) × (ancestor g w h ≡ true)
by_parent n g h w l a b =
    let old : ancestor g w h ≡ true = sym (ancestor_old n g w h l) ∙ b in
    elim (ways n g w (version_count g) a) [
      | same e f ↦ absurd (omega (arith, ancestor_le g w h old))
      | above {p = p} r t f ↦ (p, r, t, old)
      | before t f ↦ absurd (omega arith)
    ]

-- the meet of one parent, where the others' are behind it
new_meet : (n : Node) (g : Graph) (p h m : ℕ) → Parent n p → h < version_count g → Meet g p h m
    → ((q w : ℕ) → Parent n q → ancestor g w q ≡ true → ancestor g w h ≡ true → ancestor g w m ≡ true) → Meet (n ∷ g) (version_count g) h m
new_meet n g p h m r l b all =
    let old : ancestor g m h ≡ true = b.second in
    record {
      first = ancestor_above g m r b.first;
      second = ancestor_old n g m h l ∙ old;
      lowest = λ w x y.
          let t = by_parent n g h w l x y in
          ancestor_old n g w m (omega (arith, ancestor_le g m h old)) ∙ all t.0 w t.1 t.2 t.3;
    }

pub entry_meet : {g : Graph} {p h m : ℕ} (code strip operand : ℕ) → h < version_count g → Meet g p h m
    → Meet (entry p code strip operand ∷ g) (version_count g) h m
entry_meet {g} {p} {h} {m} code strip operand l b = new_meet (entry p code strip operand) g p h m sole l b only
  where
    only : (q w : ℕ) → Parent (entry p code strip operand) q → ancestor g w q ≡ true → ancestor g w h ≡ true → ancestor g w m ≡ true
    only q w sole x y = b.lowest w x y

-- a merge of p and q, whose meets with h are k and m
module _ {g : Graph} {p q h k m : ℕ} (l : h < version_count g) (b : Meet g p h k) (c : Meet g q h m) where
  both : (z : ℕ) → ancestor g k z ≡ true → ancestor g m z ≡ true → (o w : ℕ) → Parent (merge p q) o → ancestor g w o ≡ true → ancestor g w h ≡ true → ancestor g w z ≡ true
  both z kz mz o w receiver x y = ancestor_trans g w k z (b.lowest w x y) kz
  both z kz mz o w giver x y = ancestor_trans g w m z (c.lowest w x y) mz

  pub merge_meet_receiver : ancestor g m k ≡ true → Meet (merge p q ∷ g) (version_count g) h k
  merge_meet_receiver a = new_meet (merge p q) g p h k receiver l b (both k (b.lowest k b.first b.second) a)

  pub merge_meet_giver : ancestor g k m ≡ true → Meet (merge p q ∷ g) (version_count g) h m
  merge_meet_giver a = new_meet (merge p q) g q h m giver l c (both m a (c.lowest m c.first c.second))

  -- where the new version has a meet with h, one of the two is behind the other
  pub merge_meet_ordered : {z : ℕ} → Meet (merge p q ∷ g) (version_count g) h z → (ancestor g k m ≡ true) ⊎ (ancestor g m k ≡ true)
  merge_meet_ordered {z} d =
      let n : Node = merge p q in
      let t = by_parent n g h z l d.first d.second in
      let old : (x : ℕ) → ancestor (n ∷ g) x z ≡ true → ancestor g x z ≡ true =
      λ x e. sym (ancestor_old n g x z (omega (arith, ancestor_le g z h t.3))) ∙ e in
      let kz : ancestor g k z ≡ true =
      old k (d.lowest k (ancestor_above g k receiver b.first) (ancestor_old n g k h l ∙ b.second)) in
      let mz : ancestor g m z ≡ true =
      old m (d.lowest m (ancestor_above g m giver c.first) (ancestor_old n g m h l ∙ c.second)) in
      ordered t.0 t.1 t.2 t.3 kz mz
    where
      ordered : (o : ℕ) → Parent (merge p q) o → ancestor g z o ≡ true → ancestor g z h ≡ true → ancestor g k z ≡ true → ancestor g m z ≡ true
          → (ancestor g k m ≡ true) ⊎ (ancestor g m k ≡ true)
      ordered o receiver x y kz mz = inr (ancestor_trans g m z k mz (b.lowest z x y))
      ordered o giver x y kz mz = inl (ancestor_trans g k z m kz (c.lowest z x y))
