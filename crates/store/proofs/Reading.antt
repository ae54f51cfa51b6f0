-- Reading versions and heads off bytes at whose front the encoding of a sound room stands gives the room's own.
-- Assumes nothing.
use mathlib.Core.Path.{◌≡◌, refl, sym, ap, ap₂, ◌∙◌}
use mathlib.Core.Bool.{Bool, true, false, ◌&&◌}
use mathlib.Core.List.{List, [], ◌∷◌}
use mathlib.Core.Option.{Option, none, some}
use Prim.Native.Nat.{ℕ, zero, suc, ◌+◌, ◌≤◌, ◌<◌}
use native.Mathlib.Nat.{not-suc-le-zero, le_of_suc-le-suc, zero-add}
use native.Mathlib.Omega.{arith}
use lib.Dec.{eqb}
use lib.ListN.{length, get_or}
use lib.Seq.{ext_get_or}
use borrow.Author.Tests.{leb-true, ltb-true, ne_eqb}
use Rattle.laws.proofs.Logic.{and_l, and_r}
use Rattle.buffer.specs.Field.{word_at}
use Rattle.buffer.proofs.Stands.{Stands, stands_first, stands_field, stands_word}
use Rattle.graph.specs.declared.Node.{Node}
use Rattle.graph.specs.declared.Node.TheVariants.{Entry, Merge}
use Rattle.graph.specs.Graph.{is_some, Graph, version_count, node_of, every_version, parents_lower}
use Rattle.graph.proofs.Parent.{parent_lower, receiver, giver}
use Rattle.graph.proofs.Ancestor.{node_of-new, node_of-old}
use Rattle.graph.proofs.Meet.{meet_number-below, meet_number-self}
use Rattle.command.specs.Code.{console_count}
use Rattle.room.specs.Room.{Room, head_of, present, head, common}
use Rattle.room.specs.Sound.{entry_in_range, max_capacity}
use Rattle.room.proofs.Sound.{Sound, settings_fit, versions_small}
use Rattle.store.specs.Layout.{field_where, block_at, common_at, head_at, count_at, common_field, node_bytes, encode, node_in, versions_in, head_from, heads_in, settings_in, merge_node_code}
use Rattle.store.proofs.Blocks.{stands_common, stands_node, stands_settings, stands_count}
use Rattle.command.proofs.Limits.{operand_below}
use Rattle.store.proofs.SettingsBytes.{settings_back}

-- a version in range reads back from its node; the graph g that its base is taken from does not matter
node_read : (s : List ℕ) (v : ℕ) (g before : Graph) (n : Node)
    → Stands s (block_at v) (node_bytes g (some n))
    → length before < max_capacity → parents_lower before n ≡ true → entry_in_range before n ≡ true
    → node_in s v ≡ n
unfolding node_bytes node_in
node_read s v g before (Entry p code strip operand) h l i j =
    let a = leb-true 2 code (search (and_l, and_r)) in
    let b = leb-true code 8 (search (and_l, and_r)) in
    let c = ltb-true strip.0 32 (search (and_l, and_r)) in
    let d = operand_below code operand (search (and_l, and_r)) in
    let e = ltb-true p.0 (version_count before) i in
    let first : get_or s (block_at v) 0 ≡ code = stands_first h ∙ omega arith in
    let second : get_or s (block_at v + 1) 0 ≡ strip.0 = h.read 1 (omega arith) ∙ omega arith in
    let third = stands_field h 2 operand (omega arith) refl refl (omega arith) in
    let fourth = stands_field h 4 p.0 (omega arith) refl refl (omega arith) in
    let other : eqb code merge_node_code ≡ false = ne_eqb code merge_node_code (omega arith) in
    rw (first, other, fourth, second, third)
node_read s v g before (Merge p q) h l i j =
    let a = parent_lower before i receiver in
    let b = parent_lower before i giver in
    let first : get_or s (block_at v) 0 ≡ merge_node_code = stands_first h in
    let third = stands_field h 4 p.0 (omega arith) refl refl (omega arith) in
    let fourth = stands_field h 6 q.0 (omega arith) refl refl (omega arith) in
    rw (first, third, fourth)

-- the versions of h read back where their nodes stand, whatever graph g the bases are taken from
nodes_read : (s : List ℕ) (g h : Graph)
    → ((v : ℕ) → v ≤ length h → Stands s (block_at v) (node_bytes g (node_of h v)))
    → length h < max_capacity → every_version parents_lower h ≡ true → every_version entry_in_range h ≡ true
    → versions_in s (length h) ≡ h
unfolding versions_in every_version
nodes_read s g [] at l p e = refl
nodes_read s g (n ∷ h) at l p e =
    ap₂ ◌∷◌
    (node_read s (version_count h) g h n (rw node_of-new at (at (version_count h) (omega arith))) (omega arith) (search and_l) (search and_l))
    (nodes_read s g h (λ v k. rw (node_of-old n h v (omega arith)) at (at v (omega arith))) (omega arith) (search and_r) (search and_r))

-- the heads that are read, one by one
pub heads_in-length : (s : List ℕ) (c n : ℕ) → length (heads_in s c n) ≡ n
unfolding heads_in
heads_in-length s c zero = refl
heads_in-length s c (suc n) = ap suc (heads_in-length s (suc c) n)

pub heads_in-one : (s : List ℕ) (c n k : ℕ) → k < n → get_or (heads_in s c n) k none ≡ head_from (word_at s (head_at (c + k)))
unfolding heads_in
heads_in-one s c zero k l = absurd (not-suc-le-zero l)
heads_in-one s c (suc n) zero l = ap (λ (i : ℕ). head_from (word_at s (head_at i))) (omega arith)
heads_in-one s c (suc n) (suc k) l =
    heads_in-one s (suc c) n k (le_of_suc-le-suc l) ∙ ap (λ (i : ℕ). head_from (word_at s (head_at i))) (omega arith)

-- no field of the table is above the number of versions
pub field_below : (t : Bool) (r : Room) (c d : ℕ) → field_where t r c d ≤ version_count r.versions
unfolding common
field_below true r c d = meet_number-below r.versions (head r c) (head r d)
field_below false r c d = omega arith

-- on the diagonal stands the head
field_self : (r : Room) (c : ℕ) (o : Option ℕ) → head_of r c ≡ o → ((v : ℕ) → head_of r c ≡ some v → v < version_count r.versions)
    → head_from (field_where (is_some o && is_some o) r c c) ≡ o
unfolding common
field_self r c none e n = refl
field_self r c (some v) e n = ap some (rw e (meet_number-self r.versions v (n v e)))

module _ (s : List ℕ) (r : Room) (h : Stands s 0 (encode r)) (k : Sound r) where
  pub settings_read : settings_in s ≡ r.settings
  settings_read = settings_back r.settings (stands_settings r h) (settings_fit r.settings k.settings)

  pub count_read : word_at s count_at ≡ version_count r.versions
  count_read = stands_word (version_count r.versions) (stands_count r h) (omega (arith, versions_small r k))

  pub versions_read : versions_in s (length r.versions) ≡ r.versions
  versions_read =
      nodes_read s r.versions r.versions (λ v l. stands_node r h v (omega arith)) (omega (arith, versions_small r k)) k.lower k.ranged

  -- the field of any two consoles
  pub common_read : (c d : ℕ) → c < console_count → d < console_count → word_at s (common_at c d) ≡ common_field r c d
  common_read c d i j = stands_word (common_field r c d) (stands_common r h c d i j)
      (omega (arith, versions_small r k, field_below (present r c && present r d) r c d))

  head_read : (c : ℕ) → c < console_count → head_from (word_at s (head_at c)) ≡ head_of r c
  head_read c i = ap head_from (common_read c c i i) ∙ field_self r c (head_of r c) refl (k.named c)

  pub heads_read : heads_in s 0 console_count ≡ r.heads
  heads_read =
      ext_get_or none (heads_in s 0 console_count) r.heads
      (heads_in-length s 0 console_count ∙ sym k.sixteen)
      (λ c l. let m : c < console_count = rw heads_in-length at l in heads_in-one s 0 console_count c m ∙ rw zero-add (head_read c m))
