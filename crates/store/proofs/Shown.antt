-- What a store shows of a version: its node, its row, its board and whether it is an entry. A new version changes nothing of what is shown of
-- the older ones.
-- Assumes nothing.
use mathlib.Core.Path.{◌≡◌, refl, ◌∙◌, ap}
use mathlib.Core.Bool.{Bool, true, false, ◌||◌}
use mathlib.Core.List.{List, ◌∷◌}
use mathlib.Core.Option.{Option, none, some}
use Prim.Native.Nat.{ℕ, ◌≤◌, ◌<◌}
use native.Mathlib.Omega.{arith}
use lib.Dec.{eqb}
use Rattle.laws.proofs.Logic.{refuted}
use Rattle.buffer.specs.Row.{row}
use Rattle.buffer.proofs.Sets.{row_ext}
use Rattle.graph.specs.declared.Node.{Node}
use Rattle.graph.specs.declared.Node.TheVariants.{Entry, Merge}
use Rattle.graph.specs.Graph.{Graph, version_count, some_parent, ancestor, node_of, is_entry_node, is_entry, base_of, every_version, parents_lower}
use Rattle.graph.proofs.Ancestor.{ancestor_new, ancestor_old, node_of-new, node_of-old, parent_named, is_entry-new, is_entry-old, is_entry-named}
use Rattle.graph.proofs.Parent.{Parent, parent_lower, receiver, giver}
use Rattle.graph.proofs.Meet.{meet_old}
use Rattle.room.specs.Boards.{board_made, board_of}
use Rattle.room.proofs.Counters.{board_new, board_old}
use Rattle.store.specs.Layout.{row_size, node_bytes}
use Rattle.store.proofs.Lineage.{lineage}

pub record Shown : Type 0 where
  pub node : List ℕ
  pub line : List ℕ
  pub board : List ℕ
  pub listed : Bool

abbrev pub shown : Graph → ℕ → Shown
shown g v = record { node = node_bytes g (node_of g v); line = lineage g v; board = board_of g v; listed = is_entry g v }

-- of a version that is made on top of a graph
abbrev pub made : Graph → Node → Shown
made g n =
    record {
      node = node_bytes g (some n);
      line = row (λ u. eqb u (version_count g) || some_parent (ancestor g u) n) row_size;
      board = board_made (board_of g) (base_of g) n;
      listed = is_entry_node (some n);
    }

-- parents that are versions have the base that they had
node_kept : (n m : Node) (g : Graph) → ((p : ℕ) → Parent m p → p < version_count g) → node_bytes (n ∷ g) (some m) ≡ node_bytes g (some m)
unfolding node_bytes
node_kept n (Entry p code strip operand) g h = refl
node_kept n (Merge p q) g h = rw (meet_old n g p.0 q.0 (h p.0 receiver) (h q.0 giver))

node_old : (n : Node) (g : Graph) (v : ℕ) → every_version parents_lower g ≡ true → v < version_count g
    → node_bytes (n ∷ g) (node_of (n ∷ g) v) ≡ node_bytes g (node_of g v)
unfolding node_bytes
node_old n g v h l = ap (node_bytes (n ∷ g)) (node_of-old n g v l) ∙ go (node_of g v) refl
  where
    go : (o : Option Node) → node_of g v ≡ o → node_bytes (n ∷ g) o ≡ node_bytes g o
    go none e = refl
    go (some m) e = node_kept n m g (λ p r. parent_named g m p v h e r)

pub shown_old : (n : Node) (g : Graph) (v : ℕ) → every_version parents_lower g ≡ true → v < version_count g → shown (n ∷ g) v ≡ shown g v
shown_old n g v h l = λ i. record {
  node = node_old n g v h l i;
  line = row_ext (λ u. ancestor (n ∷ g) u v) (λ u. ancestor g u v) row_size (λ u. ancestor_old n g u v l) i;
  board = board_old n g v l i;
  listed = is_entry-old n g v l i;
}

pub shown_new : (n : Node) (g : Graph) → parents_lower g n ≡ true → shown (n ∷ g) (version_count g) ≡ made g n
shown_new n g h = λ i. record {
  node = (ap (node_bytes (n ∷ g)) (node_of-new n g) ∙ node_kept n n g (λ p r. parent_lower g h r)) i;
  line = row_ext (λ u. ancestor (n ∷ g) u (version_count g)) (λ u. eqb u (version_count g) || some_parent (ancestor g u) n) row_size (ancestor_new n g) i;
  board = board_new n g i;
  listed = is_entry-new n g i;
}

-- no number from the number of versions on is an entry
pub no_entry : (g : Graph) (v : ℕ) → version_count g ≤ v → is_entry g v ≡ false
no_entry g v l = refuted (is_entry g v) (λ t. omega (arith, is_entry-named g v t))
