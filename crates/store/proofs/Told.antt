-- Bytes that show a graph: of each version what the graph has of it. One version more is shown, or the newest is left out; and a version is
-- the meet of two exactly when the row that stands there is the intersection of theirs.
-- Assumes nothing.
use mathlib.Core.Path.{◌≡◌, sym, ◌∙◌, ap₂}
use mathlib.Core.Bool.{true}
use mathlib.Core.List.{List, ◌∷◌}
use Prim.Native.Nat.{ℕ, ◌≤◌, ◌<◌}
use native.Mathlib.Decide.{ℕ_discrete}
use native.Mathlib.Omega.{arith}
use Rattle.laws.proofs.Logic.{and_i}
use Rattle.buffer.specs.Row.{member, intersection}
use Rattle.buffer.proofs.Stands.{Stands}
use Rattle.graph.specs.declared.Node.{Node}
use Rattle.graph.specs.Graph.{Graph, version_count, every_version, parents_lower, merge_has_base}
use Rattle.graph.proofs.Ancestor.{every_new, every_old, ancestor_below}
use Rattle.graph.proofs.Meet.{Meet}
use Rattle.room.specs.Sound.{max_capacity, entry_in_range}
use Rattle.store.specs.Layout.{block_at}
use Rattle.store.specs.Check.{row_part, board_part, entries_part}
use Rattle.store.proofs.Lineage.{meet_lineage, lineage_meet}
use Rattle.store.proofs.Shown.{Shown, shown, made, shown_old, shown_new}

-- the bytes show this of version v
pub record Told (s : List ℕ) (v : ℕ) (w : Shown) : Type 0 where
  pub node : Stands s (block_at v) w.node
  pub line : row_part s v ≡ w.line
  pub board : board_part s v ≡ w.board
  pub listed : member (entries_part s) v ≡ w.listed

-- the bytes show a graph that is well_formed and in range
pub record Held (s : List ℕ) (g : Graph) : Type 0 where
  pub lower : every_version parents_lower g ≡ true
  pub based : every_version merge_has_base g ≡ true
  pub ranged : every_version entry_in_range g ≡ true
  pub told : (v : ℕ) → v < version_count g → Told s v (shown g v)

-- they show one version more on top of it
pub record Next (s : List ℕ) (g : Graph) (n : Node) : Type 0 where
  pub lower : parents_lower g n ≡ true
  pub based : merge_has_base g n ≡ true
  pub ranged : entry_in_range g n ≡ true
  pub told : Told s (version_count g) (made g n)

pub held_next : {s : List ℕ} {g : Graph} {n : Node} → Held s g → Next s g n → Held s (n ∷ g)
unfolding every_version
held_next {s} {g} {n} h k =
    record {
      lower = and_i (parents_lower g n) (every_version parents_lower g) k.lower h.lower;
      based = and_i (merge_has_base g n) (every_version merge_has_base g) k.based h.based;
      ranged = and_i (entry_in_range g n) (every_version entry_in_range g) k.ranged h.ranged;
      told = λ v l.
          elim (ℕ_discrete v (version_count g)) [
            | yes e ↦ rw (e, shown_new n g k.lower) k.told
            | no d ↦ rw (shown_old n g v h.lower (omega arith)) (h.told v (omega arith))
          ];
    }

pub held_before : {s : List ℕ} {g : Graph} {n : Node} → Held s (n ∷ g) → Held s g
held_before {s} {g} {n} h =
    let lower = every_old parents_lower n g h.lower in
    record {
      lower = lower;
      based = every_old merge_has_base n g h.based;
      ranged = every_old entry_in_range n g h.ranged;
      told = λ v l. rw (shown_old n g v lower l) at (h.told v (omega arith));
    }

pub held_newest : {s : List ℕ} {g : Graph} {n : Node} → Held s (n ∷ g) → Next s g n
held_newest {s} {g} {n} h =
    let lower = every_new parents_lower n g h.lower in
    record {
      lower = lower;
      based = every_new merge_has_base n g h.based;
      ranged = every_new entry_in_range n g h.ranged;
      told = rw (shown_new n g lower) at (h.told (version_count g) (omega arith));
    }

-- a version is the meet of two exactly when the row that stands there is the intersection of theirs
module _ {s : List ℕ} {g : Graph} (h : Held s g) (p q l : ℕ) (pn : p < version_count g) (qn : q < version_count g) where
  pub meet_rows : Meet g p q l → row_part s l ≡ intersection (row_part s p) (row_part s q)
  meet_rows m =
      (h.told l (ancestor_below g l p m.first)).line
      ∙ meet_lineage m
      ∙ sym (ap₂ intersection (h.told p pn).line (h.told q qn).line)

  pub rows_meet_lem : version_count g ≤ max_capacity → l < version_count g → row_part s l ≡ intersection (row_part s p) (row_part s q) → Meet g p q l
  rows_meet_lem small ln e =
      lineage_meet g p q l small ln (sym (h.told l ln).line ∙ e ∙ ap₂ intersection (h.told p pn).line (h.told q qn).line)
