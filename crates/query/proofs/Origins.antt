-- One step of the walk to the origin of a cell, by what stands in the block of the version that it is at.
-- Assumes nothing.
use mathlib.Core.Path.{◌≡◌, sym, ◌∙◌, ap}
use mathlib.Core.Bool.{true, false}
use mathlib.Core.List.{List}
use mathlib.Core.Option.{some}
use Prim.Native.Nat.{ℕ, ◌≤◌, ◌<◌}
use native.Mathlib.Omega.{arith}
use Rattle.laws.proofs.Logic.{cond_true, cond_false}
use Rattle.buffer.specs.Field.{word_at}
use Rattle.board.specs.declared.Cell.{Cell}
use Rattle.graph.specs.declared.Node.{Node}
use Rattle.graph.specs.declared.Node.TheVariants.{Entry}
use Rattle.graph.specs.declared.Version.{Version}
use Rattle.graph.specs.declared.Strip.{Strip}
use Rattle.graph.specs.Graph.{merge, version_count, node_of, base_of}
use Rattle.graph.proofs.Ancestor.{node_of-named, parent_named}
use Rattle.graph.proofs.Meet.{meet_number-below}
use Rattle.graph.proofs.Parent.{receiver, giver}
use Rattle.room.specs.Origin.{writes_cell, leads_to, origin_of}
use Rattle.room.proofs.Origins.{leads_lower, origin_first, origin_step}
use Rattle.store.specs.Layout.{node_base_at, node_in, room_in, holds_store}
use Rattle.store.proofs.NodeBytes.{merge_base_read}
use Rattle.store.proofs.Whole.{whole_sound, whole_small, whole_held}
use Rattle.query.proofs.Answers.{node_answer, versions_inside}

module _ (s : List ℕ) (t : holds_store s ≡ true) where
  -- by the node
  module _ (v : ℕ) (n : Node) (e : n ≡ node_in s v) (later : 0 < v) (l : v < version_count (room_in s).versions) where
    pub node_there : node_of (room_in s).versions v ≡ some n
    node_there = node_answer s t v later l ∙ ap some (sym e)

    pub walk_falls : (cell : Cell) (k : ℕ) → leads_to cell k (room_in s).versions n < v
    walk_falls cell k = leads_lower cell k (room_in s).versions v n (whole_sound s t).lower node_there

    pub walk_ends : (cell : Cell) (k : ℕ) → writes_cell cell k n ≡ true → origin_of cell k (room_in s).versions v ≡ v
    walk_ends cell k writes = origin_step cell k (room_in s).versions v n (whole_sound s t).lower node_there ∙ cond_true _ _ _ writes

    pub walk_goes : (cell : Cell) (k : ℕ) → writes_cell cell k n ≡ false
        → origin_of cell k (room_in s).versions v ≡ origin_of cell k (room_in s).versions (leads_to cell k (room_in s).versions n)
    walk_goes cell k writes = origin_step cell k (room_in s).versions v n (whole_sound s t).lower node_there ∙ cond_false _ _ _ writes

    -- where it is an entry that does not write the cell, the walk goes on with its parent
    pub walk_past : (parent : Version) (code : ℕ) (strip : Strip) (operand : ℕ) → n ≡ Entry parent code strip operand
        → (cell : Cell) (k : ℕ) → writes_cell cell k n ≡ false
        → (origin_of cell k (room_in s).versions parent.0 ≡ origin_of cell k (room_in s).versions v) × (parent.0 ≤ v)
    walk_past parent code strip operand entry cell k passes =
        (sym (rw entry at (walk_goes cell k passes)), omega (arith, rw entry at (walk_falls cell k)))

  -- at a merge: it, its parents and its base are versions, and the base stands in its node
  module _ (v p q : ℕ) (e : node_of (room_in s).versions v ≡ some (merge p q)) where
    pub merge_named : v < version_count (room_in s).versions
    merge_named = (node_of-named (room_in s).versions v (merge p q) e).1

    pub receiver_named : p < version_count (room_in s).versions
    receiver_named = parent_named (room_in s).versions (merge p q) p v (whole_sound s t).lower e receiver

    pub giver_named : q < version_count (room_in s).versions
    giver_named = parent_named (room_in s).versions (merge p q) q v (whole_sound s t).lower e giver

    pub base_answer : word_at s (node_base_at v) ≡ base_of (room_in s).versions p q
    base_answer = merge_base_read s v (room_in s).versions p q (rw e at ((whole_held s t).told v merge_named).node) (whole_small s t)

    pub base_named : word_at s (node_base_at v) < version_count (room_in s).versions
    base_named = rw base_answer (meet_number-below (room_in s).versions p q)

-- what a proof about a version that is a merge, and one about a step of the walk, may take for granted
pub ruleset merges = (merge_named, receiver_named, giver_named, base_answer, base_named)

pub ruleset walk = (whole_small, versions_inside, node_there, walk_falls, walk_ends, walk_goes, origin_first)
