-- The walk from a version to the origin of a cell, and what it finds: the entry that wrote the value shown, which the console has heard.
-- Assumes nothing.
use Prim.Native.Nat.{ℕ, ◌<◌}
use mathlib.Core.Path.{◌≡◌, refl, sym, ◌∙◌, ap}
use mathlib.Core.Bool.{true, false, cond}
use mathlib.Core.List.{[], ◌∷◌}
use mathlib.Core.Logic.{inl, inr}
use mathlib.Core.Option.{some}
use native.Mathlib.Omega.{arith}
use native.Mathlib.Decide.{ℕ_discrete}
use borrow.Author.Tests.{eqb-true, eq-eqb, ne_eqb}
use lib.Dec.{eqb}
use Rattle.laws.proofs.Logic.{clash, decide, either, and_l, and_r, and_i, cond_true, cond_false}
use Rattle.board.specs.declared.Cell.{Cell}
use Rattle.board.specs.Board.{strip_count, enter, value_in, writing_code}
use Rattle.board.proofs.Cells.{value_empty, value_merged, value_kept, value_entered, side_taken}
use Rattle.graph.specs.declared.Node.{Node}
use Rattle.graph.specs.declared.Node.TheVariants.{Entry, Merge}
use Rattle.graph.specs.Graph.{Graph, entry, version_count, ancestor, node_of, is_entry_node, base_of, every_version, parents_lower}
use Rattle.graph.proofs.Parent.{Parent, sole, receiver, giver, parent_lower}
use Rattle.graph.proofs.Ancestor.{every_new, every_old, ancestor_old, node_of-new, node_of-old, node_of-named, ancestor_same, ancestor_above, parent_below}
use Rattle.graph.proofs.Meet.{meet_old, meet_number-below}
use Rattle.command.proofs.Limits.{entry_below}
use Rattle.room.specs.Room.{Room, present, head, hears}
use Rattle.room.specs.Sound.{entry_in_range, sound_room}
use Rattle.room.specs.Boards.{board_made, board_of}
use Rattle.room.specs.Origin.{writes_cell, value_of, leads_to_giver, leads_to, origin_of, origin, value_shown}
use Rattle.room.proofs.Lengths.{board_of-length}
use Rattle.room.proofs.Sound.{Sound, present_head, sound_facts}
use Rattle.room.proofs.Counters.{board_new, board_old}

module _ (cell : Cell) (k : ℕ) where
  origin_new : (n : Node) (g : Graph) → origin_of cell k (n ∷ g) (version_count g) ≡ cond (writes_cell cell k n) (version_count g) (origin_of cell k g (leads_to cell k g n))
  unfolding origin_of
  origin_new n g = cond_true _ _ _ (eq-eqb (version_count g) (version_count g) refl)

  origin_old : (n : Node) (g : Graph) (v : ℕ) → v < version_count g → origin_of cell k (n ∷ g) v ≡ origin_of cell k g v
  unfolding origin_of
  origin_old n g v l = cond_false _ _ _ (ne_eqb v (version_count g) (omega arith))

  -- the origin is a version, and that of version 0 is version 0
  pub origin_below : (g : Graph) (v : ℕ) → origin_of cell k g v < version_count g
  unfolding origin_of
  origin_below [] v = omega arith
  origin_below (n ∷ g) v =
      let P : ℕ → Type 0 = λ o. o < version_count (n ∷ g) in
      either P (eqb v (version_count g))
      (λ e. either P (writes_cell cell k n) (λ _. omega (arith, eqb-true v (version_count g) e)) (omega (arith, origin_below g (leads_to cell k g n))))
      (omega (arith, origin_below g v))

  pub origin_first : (g : Graph) → origin_of cell k g 0 ≡ 0
  unfolding origin_of
  origin_first [] = refl
  origin_first (n ∷ g) = origin_old n g 0 (omega arith) ∙ origin_first g

  -- the walk leads to a parent
  leads_parent : (g : Graph) (n : Node) → Parent n (leads_to cell k g n)
  leads_parent g (Entry p code strip operand) = sole
  leads_parent g (Merge p q) = either (Parent (Merge p q)) (leads_to_giver cell k g p.0 q.0) (λ _. giver) receiver

  pub leads_lower : (g : Graph) (v : ℕ) (n : Node) → every_version parents_lower g ≡ true → node_of g v ≡ some n → leads_to cell k g n < v
  leads_lower g v n lower e = parent_below g n (leads_to cell k g n) v lower e (leads_parent g n)

  -- and a new version changes nothing of where older ones lead
  leads_old : (m n : Node) (g : Graph) → ((p : ℕ) → Parent n p → p < version_count g) → leads_to cell k (m ∷ g) n ≡ leads_to cell k g n
  leads_old m (Entry p code strip operand) g h = refl
  leads_old m (Merge p q) g h =
      let pl = h p.0 receiver in
      let ql = h q.0 giver in
      rw (meet_old m g p.0 q.0 pl ql, board_old m g (base_of g p.0 q.0) (meet_number-below g p.0 q.0), board_old m g p.0 pl, board_old m g q.0 ql)

  -- one step of the walk, in the whole graph
  pub origin_step : (g : Graph) (v : ℕ) (n : Node) → every_version parents_lower g ≡ true → node_of g v ≡ some n
      → origin_of cell k g v ≡ cond (writes_cell cell k n) v (origin_of cell k g (leads_to cell k g n))
  origin_step [] v n lower e = absurd (omega (arith, node_of-named [] v n e))
  origin_step (m ∷ g) v n lower e =
      let low : (p : ℕ) → Parent n p → p < v = λ p r. parent_below (m ∷ g) n p v lower e r in
      let named = node_of-named (m ∷ g) v n e in
      let leads = leads_old m n g (λ p r. omega (arith, low p r)) in
      let old = origin_old m g (leads_to cell k g n) (omega (arith, low (leads_to cell k g n) (leads_parent g n))) in
      elim (ℕ_discrete v (version_count g)) [
        | yes d ↦ let is : m ≡ n = cc (node_of-new m g) in cc (origin_new m g)
        | no d ↦
            let l : v < version_count g = omega arith in
            let before = origin_step g v n (every_old parents_lower m g lower) (cc (node_of-old m g v l)) in
            cc (origin_old m g v l)
      ]

  -- what the walk from v finds where v shows x: o is 0 and x is 0, or o is an entry behind v that wrote x
  record Found (g : Graph) (v o x : ℕ) : Type 0 where
    small : x < 65536
    none : o ≡ 0 → x ≡ 0
    behind : 0 < o → ancestor g o v ≡ true
    wrote : 0 < o → (p : ℕ) × (node_of g o ≡ some (entry p (writing_code cell) k x))

  -- it is found from a later version too, if that has the ancestors of v
  found_on : (n : Node) (g : Graph) (v w o x : ℕ) → o < version_count g → (ancestor g o v ≡ true → ancestor (n ∷ g) o w ≡ true) → Found g v o x → Found (n ∷ g) w o x
  found_on n g v w o x l up f = record {
    small = f.small;
    none = f.none;
    behind = λ m. up (f.behind m);
    wrote = λ m. let e = f.wrote m in (e.0, node_of-old n g o l ∙ e.1);
  }

  -- a version that writes the cell, by its numbers
  writes_entry : (n : Node) → writes_cell cell k n ≡ true → (p : ℕ) × (x : ℕ) × (n ≡ entry p (writing_code cell) k x)
  writes_entry (Entry p code strip x) t =
      let c = eqb-true code (writing_code cell) (and_l _ _ t) in
      let j = eqb-true k strip.0 (and_r (eqb code (writing_code cell)) _ t) in
      (p.0, x, λ i. entry p.0 (c i) (sym j i) x)
  writes_entry (Merge p q) t = clash t refl

  module _ (inside : k < strip_count) where
    -- version 0 shows 0
    found_first : (v : ℕ) → Found [] v (origin_of cell k [] v) (value_of cell k [] v)
    unfolding origin_of board_of
    found_first v =
        let empty = value_empty cell k inside in
        record { small = omega arith; none = λ _. empty; behind = λ l. absurd (omega arith); wrote = λ l. absurd (omega arith) }

    -- an entry that writes the cell shows its operand
    found_written : (g : Graph) (p x : ℕ) → entry_in_range g (entry p (writing_code cell) k x) ≡ true
        → Found (entry p (writing_code cell) k x ∷ g) (version_count g) (version_count g) (value_in cell k (enter (writing_code cell) k x (board_of g p)))
    found_written g p x ranged =
        let n : Node = entry p (writing_code cell) k x in
        let small : x < 65536 = omega (arith, entry_below (writing_code cell) k x ranged) in
        rw (value_entered k x (board_of g p) (omega (arith, board_of-length g p)) cell small)
        record { small = small; none = λ e. absurd (omega arith); behind = λ _. ancestor_same n g; wrote = λ _. (p, node_of-new n g) }

    -- any other version shows what the version it leads to shows
    leads_value : (g : Graph) (n : Node) → ((p : ℕ) → Parent n p → value_of cell k g p < 65536) → writes_cell cell k n ≡ false
        → value_in cell k (board_made (board_of g) (base_of g) n) ≡ value_of cell k g (leads_to cell k g n)
    unfolding board_made
    leads_value g (Entry p code strip x) small other = value_kept code strip.0 x (board_of g p.0) cell k other
    leads_value g (Merge p q) small other =
        let base = value_of cell k g (base_of g p.0 q.0) in
        value_merged _ _ _ k inside cell (either (λ x. x < 65536) (eqb (value_of cell k g p.0) base) (λ _. small q.0 giver) (small p.0 receiver))
        ∙ side_taken (value_of cell k g) base p.0 q.0

    found_new : (n : Node) (g : Graph) → parents_lower g n ≡ true → entry_in_range g n ≡ true
        → ((v : ℕ) → v < version_count g → Found g v (origin_of cell k g v) (value_of cell k g v))
        → Found (n ∷ g) (version_count g) (origin_of cell k (n ∷ g) (version_count g)) (value_of cell k (n ∷ g) (version_count g))
    unfolding board_made
    found_new n g lower ranged older =
        let to = leads_to cell k g n in
        let shown = leads_value g n (λ p r. (older p (parent_lower g lower r)).small) in
        rw (origin_new n g, board_new n g)
        (elim (decide (writes_cell cell k n)) [
          | inl t ↦ let e = writes_entry n t in rw (t, e.2) (found_written g e.0 e.1 (rw e.2 at ranged))
          | inr f ↦
              rw (f, shown f)
              (found_on n g to (version_count g) _ _ (origin_below g to) (ancestor_above g _ (leads_parent g n)) (older to (parent_lower g lower (leads_parent g n))))
        ])

    found : (g : Graph) (v : ℕ) → every_version parents_lower g ≡ true → every_version entry_in_range g ≡ true → v < version_count g
        → Found g v (origin_of cell k g v) (value_of cell k g v)
    found [] v lower ranged l = found_first v
    found (n ∷ g) v lower ranged l =
        let older : (u : ℕ) → u < version_count g → Found g u (origin_of cell k g u) (value_of cell k g u) = λ u m. found g u (every_old parents_lower n g lower) (every_old entry_in_range n g ranged) m in
        elim (ℕ_discrete v (version_count g)) [
          | yes e ↦ rw e (found_new n g (every_new parents_lower n g lower) (every_new entry_in_range n g ranged) older)
          | no d ↦
              let m : v < version_count g = omega arith in
              rw (origin_old n g v m, board_old n g v m)
              (found_on n g v v _ _ (origin_below g v) (λ a. ancestor_old n g _ v m ∙ a) (older v m))
        ]

-- on the board of a present console
module _ (r : Room) (c k : ℕ) (cell : Cell) where
  origin_found : Sound r → present r c ≡ true → k < strip_count → Found cell k r.versions (head r c) (origin r c k cell) (value_shown r c k cell)
  unfolding origin
  origin_found s p inside = found cell k inside r.versions (head r c) s.lower s.ranged (s.named c (head r c) (present_head r c p))

  -- "Version 0 means that no such entry was met, and then the value is 0."
  pub origin_none : sound_room r ≡ true → present r c ≡ true → k < strip_count → origin r c k cell ≡ 0 → value_shown r c k cell ≡ 0
  origin_none s p inside = (origin_found (sound_facts r s) p inside).none

  -- "Otherwise the found entry must be one that the console has heard"
  pub origin_heard : sound_room r ≡ true → present r c ≡ true → k < strip_count → 0 < origin r c k cell → hears r c (origin r c k cell) ≡ true
  origin_heard s p inside l =
      let f = origin_found (sound_facts r s) p inside in
      and_i _ _ (ap is_entry_node (f.wrote l).1) (f.behind l)

  -- "and must have written the value shown."
  pub origin_wrote : sound_room r ≡ true → present r c ≡ true → k < strip_count → 0 < origin r c k cell
      → (p : ℕ) × (node_of r.versions (origin r c k cell) ≡ some (entry p (writing_code cell) k (value_shown r c k cell)))
  origin_wrote s p inside = (origin_found (sound_facts r s) p inside).wrote
