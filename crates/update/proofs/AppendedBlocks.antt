-- A version appended where the blocks of a graph stand: the block that is written is the new version's, the older blocks and the row of the
-- entries stay right, and no other byte changes.
-- Assumes nothing.
use Prim.Native.Nat.{ℕ, suc, ◌+◌, ◌≤◌, ◌<◌}
use mathlib.Core.Path.{◌≡◌, refl, sym, ap, ◌∙◌}
use mathlib.Core.Bool.{Bool, true, false, cond, ◌||◌}
use mathlib.Core.List.{List, ◌∷◌, ◌++◌}
use mathlib.Core.Option.{some}
use native.Mathlib.Decide.{ℕ_discrete}
use native.Mathlib.Omega.{arith}
use lib.Dec.{eqb}
use lib.ListN.{length, get_or}
use borrow.Author.Tests.{lt-ltb, eqb-true}
use Rattle.laws.proofs.Logic.{and_i}
use Rattle.buffer.specs.Field.{with_part}
use Rattle.buffer.specs.Row.{row, with_member}
use Rattle.buffer.proofs.Fields.{part_length}
use Rattle.buffer.proofs.Patches.{with_length, with_outside, with_stands}
use Rattle.buffer.proofs.Parts.{stands_part}
use Rattle.buffer.proofs.Rows.{row_from-length}
use Rattle.buffer.proofs.Sets.{row_ext, row_with}
use Rattle.buffer.proofs.Stands.{Stands, stands_kept}
use Rattle.board.specs.Board.{board_size}
use Rattle.graph.specs.declared.Node.{Node}
use Rattle.graph.specs.Graph.{Graph, entry, merge, version_count, ancestor, node_of, is_entry_node, is_entry, base_of, every_version, parents_lower}
use Rattle.graph.proofs.Meet.{meet_number-below}
use Rattle.room.specs.Sound.{max_capacity}
use Rattle.room.specs.Boards.{merge_of, board_made, board_of}
use Rattle.room.proofs.Lengths.{board_of-length}
use Rattle.store.specs.Layout.{header_size, row_size, entries_at, block_at, node_bytes, block, block_size}
use Rattle.store.specs.Check.{row_part, board_part, merge_of_boards, entries_part}
use Rattle.store.proofs.Blocks.{block_length, block_row, block_board}
use Rattle.store.proofs.Lineage.{lineage, entry_lineage, merge_lineage}
use Rattle.store.proofs.Shown.{Shown, made, shown_old, shown_new, no_entry}
use Rattle.update.specs.Append.{entry_block, merge_block, with_entry, with_merge}
use Rattle.update.proofs.Appended.{member_keeps, entry_block-length, merge_block-length}

-- the blocks of a graph and the row of its entries stand in the bytes
pub record Standing (s : List ℕ) (g : Graph) : Type 0 where
  pub versions : (v : ℕ) → v < version_count g → Stands s (block_at v) (block g v)
  pub entries : Stands s entries_at (row (is_entry g) row_size)

-- bytes in which the blocks of g stand became bytes in which one version more stands, and nothing else changed
pub record Grew (s t : List ℕ) (g : Graph) (m : Node) : Type 0 where
  pub long : length t ≡ length s
  pub standing : Standing t (m ∷ g)
  pub kept : (k : ℕ) → (block_at (version_count g) ≤ k → k < block_at (suc (version_count g)) → ⊥)
      → (entries_at ≤ k → k < entries_at + row_size → ⊥) → get_or t k 0 ≡ get_or s k 0

-- a block is what is shown of its version
abbrev laid : Shown → List ℕ
laid w = w.node ++ w.line ++ w.board

block_new : (m : Node) (g : Graph) → parents_lower g m ≡ true → block (m ∷ g) (version_count g) ≡ laid (made g m)
unfolding block
block_new m g h = ap laid (shown_new m g h)

block_old : (m : Node) (g : Graph) (v : ℕ) → every_version parents_lower g ≡ true → v < version_count g → block (m ∷ g) v ≡ block g v
unfolding block
block_old m g v h l = ap laid (shown_old m g v h l)

-- the entries with one version more
entry_listed : (g : Graph) (p code strip operand u : ℕ)
    → (eqb u (version_count g) || is_entry g u) ≡ is_entry (entry p code strip operand ∷ g) u
unfolding node_of
entry_listed g p code strip operand u = go (eqb u (version_count g))
  where
    go : (b : Bool) → (b || is_entry g u) ≡ is_entry_node (cond b (some (entry p code strip operand)) (node_of g u))
    go true = refl
    go false = refl

merge_unlisted : (g : Graph) (p q u : ℕ) → is_entry g u ≡ is_entry (merge p q ∷ g) u
unfolding node_of
merge_unlisted g p q u = go (eqb u (version_count g)) refl
  where
    go : (b : Bool) → eqb u (version_count g) ≡ b → is_entry g u ≡ is_entry_node (cond b (some (merge p q)) (node_of g u))
    go true e = no_entry g u (omega (arith, eqb-true u (version_count g) e))
    go false e = refl

module _ (s : List ℕ) (g : Graph) (h : Standing s g) (lower : every_version parents_lower g ≡ true) (small : version_count g < max_capacity)
    (fits : block_at (suc (version_count g)) ≤ length s) where
  abbrev n : ℕ
  n = version_count g

  row_shown : (v : ℕ) → v < version_count g → row_part s v ≡ lineage g v
  row_shown v l = stands_part row_size (block_row g v (h.versions v l)) (row_from-length (λ u. ancestor g u v) 0 row_size) (omega arith)

  board_shown_lem : (v : ℕ) → v < version_count g → board_part s v ≡ board_of g v
  board_shown_lem v l = stands_part board_size (block_board g v (h.versions v l)) (board_of-length g v) (omega arith)

  entries_shown : entries_part s ≡ row (is_entry g) row_size
  entries_shown = stands_part row_size h.entries (row_from-length (is_entry g) 0 row_size) (omega arith)

  -- the blocks of a version that was written and of those before it
  all_stand : (t : List ℕ) (m : Node) → ((k : ℕ) → header_size ≤ k → k < block_at n → get_or t k 0 ≡ get_or s k 0)
      → Stands t (block_at n) (block (m ∷ g) n) → (v : ℕ) → v < version_count (m ∷ g) → Stands t (block_at v) (block (m ∷ g) v)
  all_stand t m kept new v l =
      elim (ℕ_discrete v n) [
        | yes e ↦ rw e new
        | no d ↦
            let size = block_length g v in
            rw (block_old m g v lower (omega arith))
            (stands_kept (h.versions v (omega arith)) (λ i a b. kept i (omega arith) (omega arith)))
      ]

  -- an entry
  module _ (p code strip operand : ℕ) (parent : p < version_count g) where
    entry_block_lem : entry_block s (version_count g) p code strip operand ≡ block (entry p code strip operand ∷ g) (version_count g)
    unfolding entry_block node_bytes board_made
    entry_block_lem =
        rw (row_shown p parent, board_shown_lem p parent, entry_lineage g p n small)
        (sym (block_new (entry p code strip operand) g (lt-ltb p n parent)))

    abbrev between : List ℕ
    between = with_part s (block_at n) (entry_block s n p code strip operand)

    abbrev listed : List ℕ
    listed = with_member (entries_part s) n

    between_long : length between ≡ length s
    between_long =
        let size = entry_block-length s n fits p code strip operand parent in
        with_length s (entry_block s n p code strip operand) (block_at n) (omega arith)

    listed_long : length listed ≡ row_size
    listed_long = member_keeps row_size n (entries_part s) (part_length s entries_at row_size (omega arith))

    listed_is : listed ≡ row (is_entry (entry p code strip operand ∷ g)) row_size
    listed_is =
        ap (λ (x : List ℕ). with_member x n) entries_shown ∙ row_with (is_entry g) row_size n small
        ∙ row_ext (λ u. eqb u n || is_entry g u) (is_entry (entry p code strip operand ∷ g)) row_size (entry_listed g p code strip operand)

    pub entry_grew : Grew s (with_entry s (version_count g) p code strip operand) g (entry p code strip operand)
    unfolding with_entry
    entry_grew =
        let size = entry_block-length s n fits p code strip operand parent in
        let long = between_long in
        let wide = listed_long in
        let apart : (k : ℕ) → (entries_at ≤ k → k < entries_at + row_size → ⊥) → get_or (with_part between entries_at listed) k 0 ≡ get_or between k 0 =
        λ k b. with_outside between listed entries_at (omega arith) k (λ x y. b x (omega arith)) in
        let kept : (k : ℕ) → (block_at n ≤ k → k < block_at (suc n) → ⊥) → (entries_at ≤ k → k < entries_at + row_size → ⊥)
        → get_or (with_part between entries_at listed) k 0 ≡ get_or s k 0 =
        λ k a b. apart k b ∙ with_outside s (entry_block s n p code strip operand) (block_at n) (omega arith) k (λ x y. a x (omega arith)) in
        record {
          long = with_length between listed entries_at (omega arith) ∙ long;
          standing = record {
            versions = all_stand (with_part between entries_at listed) (entry p code strip operand) (λ k a b. kept k (omega arith) (omega arith))
                (rw (← entry_block_lem)
                (stands_kept (with_stands s (entry_block s n p code strip operand) (block_at n) (omega arith)) (λ i a b. apart i (omega arith))));
            entries = rw (← listed_is) (with_stands between listed entries_at (omega arith));
          };
          kept = kept;
        }

  -- a merge
  module _ (p q l : ℕ) (first : p < version_count g) (second : q < version_count g) (base : l ≡ base_of g p q) where
    third : l < version_count g
    third = rw base (meet_number-below g p q)

    merge_block_lem : merge_block s (version_count g) p q l ≡ block (merge p q ∷ g) (version_count g)
    unfolding merge_block node_bytes board_made
    merge_block_lem =
        rw (row_shown p first, row_shown q second, board_shown_lem l third, board_shown_lem p first, board_shown_lem q second, merge_lineage g p q n small, base)
        (sym (block_new (merge p q) g (and_i _ _ (lt-ltb p n first) (lt-ltb q n second))))

    pub merge_clashes : (merge_of_boards s p q l).clashes ≡ (merge_of (board_of g) (base_of g) p q).clashes
    merge_clashes = rw (board_shown_lem l third, board_shown_lem p first, board_shown_lem q second, base)

    pub merge_grew : Grew s (with_merge s (version_count g) p q l) g (merge p q)
    unfolding with_merge
    merge_grew =
        let new : List ℕ = merge_block s n p q l in
        let size : length new ≡ block_size = merge_block-length s n fits p q l first second third in
        let kept : (k : ℕ) → (block_at n ≤ k → k < block_at (suc n) → ⊥) → get_or (with_part s (block_at n) new) k 0 ≡ get_or s k 0 =
        λ k a. with_outside s new (block_at n) (omega arith) k (λ x y. a x (omega arith)) in
        let same = row_ext (is_entry g) (is_entry (merge p q ∷ g)) row_size (merge_unlisted g p q) in
        let wide = row_from-length (is_entry g) 0 row_size in
        record {
          long = with_length s new (block_at n) (omega arith);
          standing = record {
            versions = all_stand (with_part s (block_at n) new) (merge p q) (λ k a b. kept k (omega arith))
                (rw (← merge_block_lem) (with_stands s new (block_at n) (omega arith)));
            entries = rw (← same) (stands_kept h.entries (λ i a b. kept i (omega arith)));
          };
          kept = λ k a _. kept k a;
        }
