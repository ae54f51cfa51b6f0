-- The test of the versions, one after the other, says that the graph read off the bytes is well_formed and in range, and that the bytes
-- show of each version what this graph has of it.
-- Assumes nothing.
use mathlib.Core.Path.{◌≡◌, refl, sym, ◌∙◌, ap, subst}
use mathlib.Core.Bool.{Bool, true, false, cond, not, ◌&&◌}
use mathlib.Core.List.{List, []}
use Prim.Native.Nat.{ℕ, zero, suc, ◌≤◌, ◌<◌}
use mathlib.Core.Option.{some}
use native.Mathlib.Omega.{arith}
use native.Mathlib.Decide.{ℕ_discrete}
use lib.Dec.{eqb, ltb}
use lib.ListN.{length}
use borrow.Author.Tests.{eqb-true, ne_eqb, ltb-true, lt-ltb}
use Rattle.laws.proofs.Logic.{and_l, and_r, and_i, not_e, not_i}
use Rattle.buffer.specs.Field.{zeros, part, same, all_zero}
use Rattle.buffer.specs.Row.{member, with_member, union, intersection}
use Rattle.buffer.proofs.Fields.{same_true}
use Rattle.buffer.proofs.Parts.{Bytes, same_of, zero_stands, stands_zero, zero_part_lem, part_zero}
use Rattle.board.specs.Board.{board_size, enter}
use Rattle.graph.specs.Graph.{Graph, version_count, node_of, every_version}
use Rattle.graph.proofs.Parent.{parent_lower, receiver, giver}
use Rattle.graph.proofs.Ancestor.{ancestor_below, node_of-new, node_of-old}
use Rattle.graph.proofs.Meet.{Meet, meet_found, meet_number_lem}
use Rattle.graph.proofs.Growth.{merge_base}
use Rattle.room.specs.Sound.{max_capacity}
use Rattle.room.specs.Boards.{board_made, board_of}
use Rattle.store.specs.Layout.{node_size, row_size, block_at, board_at, node_bytes, node_in, versions_in, merge_node_code}
use Rattle.store.specs.Rules.{node_in_range}
use Rattle.store.specs.Check.{row_part, board_part, merge_of_boards, entries_part, root_right, entry_parts, merge_parts, node_parts, version_right, versions_right}
use Rattle.store.proofs.Lineage.{root_lineage, entry_lineage, merge_lineage}
use Rattle.store.proofs.Shown.{shown, made}
use Rattle.store.proofs.Told.{Told, Held, Next, held_next, held_before, held_newest, meet_rows, rows_meet_lem}
use Rattle.store.proofs.NodeBytes.{node_code_in, node_strip_in, node_operand_in, node_parent_in, node_giver_in, node_base_in, entry_in, merge_in, zero_entry, entry_zero, zero_merge, merge_zero, merge_rest, merge_base_read}

-- the version that stands in the block after the graph's
module _ (s : List ℕ) (g : Graph) (small : version_count g < max_capacity) (h : Held s g) where
  abbrev v : ℕ
  v = version_count g

  abbrev p : ℕ
  p = node_parent_in s v

  abbrev q : ℕ
  q = node_giver_in s v

  abbrev l : ℕ
  l = node_base_in s v

  -- its board, where it is an entry
  abbrev entered : List ℕ → List ℕ
  entered = enter (node_code_in s v) (node_strip_in s v) (node_operand_in s v)

  -- the tests of it, where it is an entry and where it is a merge
  abbrev entry_test : Bool
  entry_test = node_in_range v (entry_in s v) && node_parts s v (entry_in s v)

  abbrev merge_test : Bool
  merge_test = node_in_range v (merge_in s v) && node_parts s v (merge_in s v)

  entry_line_lem : p < v → with_member (row_part s p) v ≡ (made g (entry_in s v)).line
  entry_line_lem a = rw (h.told p a).line (entry_lineage g p v small)

  entry_board_lem : p < v → entered (board_part s p) ≡ (made g (entry_in s v)).board
  unfolding board_made
  entry_board_lem a = ap entered (h.told p a).board

  merge_line_lem : p < v → q < v → with_member (union (row_part s p) (row_part s q)) v ≡ (made g (merge_in s v)).line
  merge_line_lem a b = rw ((h.told p a).line, (h.told q b).line) (merge_lineage g p q v small)

  merge_board_lem : p < v → q < v → Meet g p q l → (merge_of_boards s p q l).bytes ≡ (made g (merge_in s v)).board
  unfolding board_made
  merge_board_lem a b m =
      rw ((h.told l (ancestor_below g l p m.first)).board, (h.told p a).board, (h.told q b).board, meet_number_lem m)

  entry_next : Bytes s → entry_test ≡ true → Next s g (entry_in s v)
  unfolding entry_parts
  entry_next b t =
      let a = ltb-true p v (search (and_l, and_r) depth 12) in
      record {
        lower = lt-ltb p v a;
        based = refl;
        ranged = search (and_l, and_r) depth 12;
        told = record {
          node = zero_entry s v g b (search (and_l, and_r) depth 12);
          line = same_true (row_part s v) (with_member (row_part s p) v) (search (and_l, and_r) depth 12) ∙ entry_line_lem a;
          board = same_true (board_part s v) (entered (board_part s p)) (search (and_l, and_r) depth 12) ∙ entry_board_lem a;
          listed = search (and_l, and_r) depth 12;
        };
      }

  next_entry : Next s g (entry_in s v) → entry_test ≡ true
  unfolding entry_parts
  next_entry k =
      let a = ltb-true p v k.lower in
      and_i _ _ (and_i _ _ k.ranged k.lower)
      (and_i _ _ (and_i _ _ (and_i _ _
      (entry_zero s v g k.told.node)
      (same_of _ _ (k.told.line ∙ sym (entry_line_lem a))))
      (same_of _ _ (k.told.board ∙ sym (entry_board_lem a))))
      k.told.listed)

  merge_next : Bytes s → node_code_in s v ≡ merge_node_code → merge_test ≡ true → Next s g (merge_in s v)
  unfolding merge_parts
  merge_next b nine t =
      let first = ltb-true p v (search (and_l, and_r) depth 12) in
      let second = ltb-true q v (search (and_l, and_r) depth 12) in
      let third = ltb-true l v (search (and_l, and_r) depth 12) in
      let m : Meet g p q l =
      rows_meet_lem h p q l first second (omega arith) third
      (same_true (row_part s l) (intersection (row_part s p) (row_part s q)) (search (and_l, and_r) depth 12)) in
      record {
        lower = and_i (ltb p v) (ltb q v) (lt-ltb p v first) (lt-ltb q v second);
        based = rw (meet_found m) (and_i (not (eqb l p)) (not (eqb l q)) (search (and_l, and_r) depth 12) (search (and_l, and_r) depth 12));
        ranged = refl;
        told = record {
          node = zero_merge s v g b nine (sym (meet_number_lem m)) (search (and_l, and_r) depth 12) (search (and_l, and_r) depth 12);
          line = same_true (row_part s v) (with_member (union (row_part s p) (row_part s q)) v) (search (and_l, and_r) depth 12) ∙ merge_line_lem first second;
          board = same_true (board_part s v) (merge_of_boards s p q l).bytes (search (and_l, and_r) depth 12) ∙ merge_board_lem first second m;
          listed = not_e (member (entries_part s) v) (search (and_l, and_r) depth 12);
        };
      }

  next_merge : Next s g (merge_in s v) → merge_test ≡ true
  unfolding merge_parts
  next_merge k =
      let first = parent_lower g k.lower receiver in
      let second = parent_lower g k.lower giver in
      let grown = held_next h k in
      let base = merge_base (record { lower = grown.lower; based = grown.based }) in
      let e : l ≡ base.0 = merge_base_read s v g p q k.told.node (omega arith) ∙ meet_number_lem base.1 in
      let m : Meet g p q l = rw e base.1 in
      and_i _ _ k.lower
      (and_i _ _ (lt-ltb l v (ancestor_below g l p m.first))
      (and_i _ _ (and_i _ _ (and_i _ _ (and_i _ _
      (merge_zero s v g k.told.node)
      (merge_rest s v g k.told.node))
      (and_i _ _ (and_i _ _ (and_i _ _
      (not_i _ (ne_eqb l p (λ d. base.2 (sym e ∙ d))))
      (not_i _ (ne_eqb l q (λ d. base.3 (sym e ∙ d)))))
      (same_of _ _ (meet_rows h p q l first second m)))
      (same_of _ _ (k.told.line ∙ sym (merge_line_lem first second)))))
      (same_of _ _ (k.told.board ∙ sym (merge_board_lem first second m))))
      (not_i _ k.told.listed)))

  version_next : Bytes s → version_right s v ≡ true → Next s g (node_in s v)
  unfolding version_right node_in
  version_next b t = go (eqb (node_code_in s v) merge_node_code) refl t
    where
      go : (n : Bool) → eqb (node_code_in s v) merge_node_code ≡ n → node_in_range v (cond n (merge_in s v) (entry_in s v)) && node_parts s v (cond n (merge_in s v) (entry_in s v)) ≡ true
          → Next s g (cond n (merge_in s v) (entry_in s v))
      go true e k = merge_next b (eqb-true (node_code_in s v) merge_node_code e) k
      go false e k = entry_next b k

  next_version_lem : Next s g (node_in s v) → version_right s v ≡ true
  unfolding version_right node_in
  next_version_lem = go (eqb (node_code_in s v) merge_node_code)
    where
      go : (n : Bool) → Next s g (cond n (merge_in s v) (entry_in s v))
          → node_in_range v (cond n (merge_in s v) (entry_in s v)) && node_parts s v (cond n (merge_in s v) (entry_in s v)) ≡ true
      go true k = next_merge k
      go false k = next_entry k

-- version 0 alone
module _ (s : List ℕ) where
  root_held : block_at 1 ≤ length s → root_right s ≡ true → Held s []
  unfolding root_right every_version node_bytes node_of board_of
  root_held long t =
      let node = all_zero (part s (block_at 0) node_size) in
      let line = same (row_part s 0) (with_member (zeros row_size) 0) in
      let board = all_zero (board_part s 0) in
      let three = and_l (node && line && board) _ t in
      let two = and_l (node && line) board three in
      record {
        lower = refl;
        based = refl;
        ranged = refl;
        told = λ v l.
            let first : 0 ≡ v = omega arith in
            subst (λ (k : ℕ). Told s k (shown [] k)) first
            (record {
              node = zero_stands (block_at 0) node_size (and_l node line two);
              line = same_true (row_part s 0) (with_member (zeros row_size) 0) (and_r node line two) ∙ root_lineage;
              board = zero_part_lem s (board_at 0) board_size long (and_r (node && line) board three);
              listed = not_e (member (entries_part s) 0) (and_r (node && line && board) _ t);
            });
      }

  held_root : Held s [] → root_right s ≡ true
  unfolding root_right node_bytes node_of board_of
  held_root h =
      let k = h.told 0 (omega arith) in
      and_i _ _ (and_i _ _ (and_i _ _
      (stands_zero (block_at 0) node_size k.node)
      (same_of _ _ (k.line ∙ sym root_lineage)))
      (part_zero s (board_at 0) board_size k.board))
      (not_i _ k.listed)

pub versions_length_lem : (s : List ℕ) (n : ℕ) → length (versions_in s n) ≡ n
unfolding versions_in
versions_length_lem s zero = refl
versions_length_lem s (suc n) = ap suc (versions_length_lem s n)

pub versions_node : (s : List ℕ) (n v : ℕ) → 0 < v → v ≤ n → node_of (versions_in s n) v ≡ some (node_in s v)
unfolding versions_in
versions_node s zero v p l = absurd (omega arith)
versions_node s (suc n) v p l =
    elim (ℕ_discrete v (suc n)) [
      | yes e ↦ rw e (rw (versions_length_lem s n) at (node_of-new (node_in s (suc n)) (versions_in s n)))
      | no d ↦ node_of-old (node_in s (suc n)) (versions_in s n) v (omega (arith, versions_length_lem s n)) ∙ versions_node s n v p (omega arith)
    ]

pub versions_held : (s : List ℕ) (n : ℕ) → Bytes s → block_at 1 ≤ length s → n < max_capacity → versions_right s n ≡ true → Held s (versions_in s n)
unfolding versions_right versions_in
versions_held s zero b long l t = root_held s long t
versions_held s (suc n) b long l t =
    let h = versions_held s n b long (omega arith) (and_l (versions_right s n) (version_right s (suc n)) t) in
    let e = versions_length_lem s n in
    let k = version_next s (versions_in s n) (omega arith) h b (rw e (and_r (versions_right s n) (version_right s (suc n)) t)) in
    held_next h (rw e at k)

pub held_versions : (s : List ℕ) (n : ℕ) → n < max_capacity → Held s (versions_in s n) → versions_right s n ≡ true
unfolding versions_right versions_in
held_versions s zero l h = held_root s h
held_versions s (suc n) l h =
    let e = versions_length_lem s n in
    let k = next_version_lem s (versions_in s n) (omega arith) (held_before h) (rw e (held_newest h)) in
    and_i (versions_right s n) (version_right s (suc n)) (held_versions s n (omega arith) (held_before h)) (rw e at k)
