-- The node that is read off a block: its bytes stand there exactly when those that it does not use are zero and, of a merge, the base that
-- stands there is its base.
-- Assumes nothing.
use mathlib.Core.Path.{◌≡◌, refl}
use mathlib.Core.Bool.{true}
use mathlib.Core.List.{List, [], ◌∷◌, ◌++◌}
use mathlib.Core.Option.{some}
use Prim.Native.Nat.{ℕ, ◌+◌, ◌-◌, ◌≤◌}
use native.Mathlib.Omega.{arith}
use lib.ListN.{get_or}
use Rattle.buffer.specs.Field.{byte, word, word_at, zeros, part, all_zero}
use Rattle.buffer.proofs.Stands.{Stands, stands_left, stands_right, stands_field}
use Rattle.buffer.proofs.Parts.{Bytes, stands_one, stands_join, word_stands, zero_stands, stands_zero}
use Rattle.graph.specs.declared.Node.{Node}
use Rattle.graph.specs.Graph.{Graph, entry, merge, version_count, base_of}
use Rattle.graph.proofs.Meet.{meet_number-below}
use Rattle.room.specs.Sound.{max_capacity}
use Rattle.store.specs.Layout.{node_size, block_at, node_code_at, node_strip_at, node_operand_at, node_parent_at, node_giver_at, node_base_at, node_bytes, merge_node_code}

module _ (s : List ℕ) (v : ℕ) where
  -- the fields of the node
  abbrev pub node_code_in : ℕ
  node_code_in = get_or s (node_code_at v) 0

  abbrev pub node_strip_in : ℕ
  node_strip_in = get_or s (node_strip_at v) 0

  abbrev pub node_operand_in : ℕ
  node_operand_in = word_at s (node_operand_at v)

  abbrev pub node_parent_in : ℕ
  node_parent_in = word_at s (node_parent_at v)

  abbrev pub node_giver_in : ℕ
  node_giver_in = word_at s (node_giver_at v)

  abbrev pub node_base_in : ℕ
  node_base_in = word_at s (node_base_at v)

  -- the node, where it is an entry, and where it is a merge
  abbrev pub entry_in : Node
  entry_in = entry node_parent_in node_code_in node_strip_in node_operand_in

  abbrev pub merge_in : Node
  merge_in = merge node_parent_in node_giver_in

  module _ (g : Graph) where
    pub zero_entry : Bytes s → all_zero (part s (node_giver_at v) (node_size - 6)) ≡ true → Stands s (block_at v) (node_bytes g (some entry_in))
    unfolding node_bytes
    zero_entry b h =
        let c = b (node_code_at v) in
        let k = b (node_strip_at v) in
        stands_join (byte node_code_in ∷ []) (byte node_strip_in ∷ word node_operand_in ++ word node_parent_in ++ zeros (node_size - 6)) (stands_one (omega arith))
        (stands_join (byte node_strip_in ∷ []) (word node_operand_in ++ word node_parent_in ++ zeros (node_size - 6)) (stands_one (omega arith))
        (stands_join (word node_operand_in) (word node_parent_in ++ zeros (node_size - 6)) (word_stands (node_operand_at v) b)
        (stands_join (word node_parent_in) (zeros (node_size - 6)) (word_stands (node_parent_at v) b) (zero_stands (node_giver_at v) (node_size - 6) h)
        (omega arith)) (omega arith)) (omega arith)) refl

    pub entry_zero : Stands s (block_at v) (node_bytes g (some entry_in)) → all_zero (part s (node_giver_at v) (node_size - 6)) ≡ true
    unfolding node_bytes
    entry_zero h =
        stands_zero (node_giver_at v) (node_size - 6) (stands_right (byte node_code_in ∷ byte node_strip_in ∷ word node_operand_in ++ word node_parent_in) (zeros (node_size - 6)) h refl)

    pub zero_merge : Bytes s → node_code_in ≡ merge_node_code → node_base_in ≡ base_of g node_parent_in node_giver_in → all_zero (part s (node_strip_at v) 3) ≡ true
        → all_zero (part s (node_base_at v + 2) (node_size - 10)) ≡ true → Stands s (block_at v) (node_bytes g (some merge_in))
    unfolding node_bytes
    zero_merge b nine base h k =
        rw (← base)
        (stands_join (merge_node_code ∷ []) (zeros 3 ++ word node_parent_in ++ word node_giver_in ++ word node_base_in ++ zeros (node_size - 10)) (stands_one nine)
        (stands_join (zeros 3) (word node_parent_in ++ word node_giver_in ++ word node_base_in ++ zeros (node_size - 10)) (zero_stands (node_strip_at v) 3 h)
        (stands_join (word node_parent_in) (word node_giver_in ++ word node_base_in ++ zeros (node_size - 10)) (word_stands (node_parent_at v) b)
        (stands_join (word node_giver_in) (word node_base_in ++ zeros (node_size - 10)) (word_stands (node_giver_at v) b)
        (stands_join (word node_base_in) (zeros (node_size - 10)) (word_stands (node_base_at v) b) (zero_stands (node_base_at v + 2) (node_size - 10) k)
        (omega arith)) (omega arith)) (omega arith)) (omega arith)) refl)

    -- the base of a merge stands in its node
    pub merge_base_read : (p q : ℕ) → Stands s (block_at v) (node_bytes g (some (merge p q))) → version_count g ≤ max_capacity → node_base_in ≡ base_of g p q
    unfolding node_bytes
    merge_base_read p q h small = stands_field h 8 (base_of g p q) (omega arith) refl refl (omega (arith, meet_number-below g p q))

    module _ (h : Stands s (block_at v) (node_bytes g (some merge_in))) where
      abbrev fields : List ℕ
      fields = word node_parent_in ++ word node_giver_in ++ word (base_of g node_parent_in node_giver_in)

      pub merge_zero : all_zero (part s (node_strip_at v) 3) ≡ true
      unfolding node_bytes
      merge_zero =
          stands_zero (node_strip_at v) 3
          (stands_left (zeros 3) (fields ++ zeros (node_size - 10)) (stands_right (merge_node_code ∷ []) (zeros 3 ++ (fields ++ zeros (node_size - 10))) h refl))

      pub merge_rest : all_zero (part s (node_base_at v + 2) (node_size - 10)) ≡ true
      unfolding node_bytes
      merge_rest = stands_zero (node_base_at v + 2) (node_size - 10) (stands_right (merge_node_code ∷ zeros 3 ++ fields) (zeros (node_size - 10)) h (omega arith))
