-- A store in which a version was appended and counted, and whose console moved to it, is the encoding of the room that grew by it.
-- Assumes nothing.
use Prim.Native.Nat.{ℕ, suc, ◌+◌, ◌*◌, ◌≤◌, ◌<◌}
use mathlib.Core.Path.{◌≡◌, refl, ap₂, ◌∙◌}
use mathlib.Core.Bool.{true, false, ◌&&◌}
use mathlib.Core.List.{List, ◌∷◌}
use native.Mathlib.Decide.{ℕ_discrete}
use native.Mathlib.Numerals.{add-one}
use native.Mathlib.Omega.{arith}
use lib.ListN.{length, get_or}
use borrow.Author.Tests.{lt-ltb}
use Rattle.laws.proofs.Logic.{and_i}
use Rattle.buffer.specs.Field.{word, put_word, overwrite}
use Rattle.buffer.proofs.Rows.{row_from-length}
use Rattle.buffer.proofs.Parts.{put_stands}
use Rattle.buffer.proofs.Stands.{Stands, stands_kept}
use Rattle.buffer.proofs.Writes.{put_length, put_other_lem}
use Rattle.board.specs.Board.{strip_count}
use Rattle.graph.specs.declared.Node.{Node}
use Rattle.graph.specs.Graph.{Graph, entry, merge, version_count, is_entry, base_of}
use Rattle.command.specs.declared.Command.TheVariants.{Merge}
use Rattle.command.specs.Code.{console_count, is_entry_code, is_strip, is_operand}
use Rattle.room.specs.Room.{Room, present, head, common}
use Rattle.room.specs.Sound.{max_capacity}
use Rattle.room.specs.Step.{behind, some_third_splits, grown, clash_count}
use Rattle.room.proofs.Accepted.{Through}
use Rattle.room.proofs.Sound.{Sound, capacity_range, facts_sound}
use Rattle.room.proofs.Steps.{head_named, entry_grown, merge_grown}
use Rattle.store.specs.Layout.{header_size, row_size, count_at, entries_at, commons_at, commons_end, common_at, block_at, common_field, encode, room_in, holds_store}
use Rattle.store.specs.Check.{merge_of_boards, common_in}
use Rattle.store.proofs.Joined.{Placed, placed}
use Rattle.store.proofs.Moved.{common_field-sym, grown_self, grown_other, entry_row, entry_column, merge_row, merge_column}
use Rattle.store.proofs.Changed.{changed_store}
use Rattle.store.proofs.Reading.{common_read}
use Rattle.store.proofs.Whole.{whole_sound, whole_front, whole_long, whole_header}
use Rattle.update.specs.Append.{with_entry, with_merge}
use Rattle.update.specs.Commons.{put_others, joined_field, put_head}
use Rattle.update.proofs.AppendedBlocks.{Standing, Grew, entry_grew, merge_clashes, merge_grew}
use Rattle.update.proofs.CommonsTable.{table_length, table_outside, table_stands}

pub entry_in_range_lem : (code strip operand : ℕ) → is_entry_code code ≡ true → strip < strip_count → is_operand code operand ≡ true
    → is_entry_code code && is_strip strip && is_operand code operand ≡ true
entry_in_range_lem code strip operand a b c = and_i _ _ (and_i _ _ a (lt-ltb strip strip_count b)) c

-- the base of a merge of two consoles is their common version
common_base : (r : Room) (c d : ℕ) → common r c d ≡ base_of r.versions (head r c) (head r d)
unfolding common
common_base r c d = refl

-- a store that holds fewer versions than it may
module _ (s : List ℕ) (t : holds_store s ≡ true) (free : version_count (room_in s).versions < (room_in s).settings.capacity) where
  abbrev r : Room
  r = room_in s

  abbrev g : Graph
  g = r.versions

  abbrev n : ℕ
  n = version_count g

  pub free_small : version_count (room_in s).versions < max_capacity
  free_small = omega (arith, capacity_range r.settings (whole_sound s t).settings)

  pub free_fits : block_at (suc (version_count (room_in s).versions)) ≤ length s
  free_fits = omega (arith, whole_long s t)

  parts : Placed s r
  parts = placed r (whole_front s t)

  free_standing : Standing s g
  free_standing = record { versions = parts.versions; entries = parts.entries }

  -- a version was appended, and counted
  module _ (a : List ℕ) (m : Node) (grew : Grew s a g m) where
    abbrev counted : List ℕ
    counted = put_word a count_at (suc n)

    -- no byte of the count, of the row of entries, or of the new block
    abbrev Old : ℕ → Type 0
    Old k =
        (count_at ≤ k → k < count_at + 2 → ⊥) × (entries_at ≤ k → k < commons_at → ⊥) × (block_at n ≤ k → k < block_at (suc n) → ⊥)

    counted_long : length counted ≡ length s
    counted_long = put_length a count_at (suc n) ∙ grew.long

    count_kept : (k : ℕ) → (count_at ≤ k → k < count_at + 2 → ⊥) → get_or counted k 0 ≡ get_or a k 0
    count_kept k o = put_other_lem a count_at (suc n) k (λ e. o (omega arith) (omega arith)) (λ e. o (omega arith) (omega arith))

    counted_kept : (k : ℕ) → Old k → get_or counted k 0 ≡ get_or s k 0
    counted_kept k o = count_kept k o.0 ∙ grew.kept k o.2 (λ x y. o.1 x (omega arith))

    counted_commons : (j k : ℕ) → j < console_count → k < console_count → Stands counted (common_at j k) (word (common_field r j k))
    counted_commons j k jl kl = stands_kept (parts.commons j k jl kl) (λ i x y. counted_kept i (omega arith))

    counted_read : (j k : ℕ) → j < console_count → k < console_count → common_in counted j k ≡ common_field r j k
    counted_read j k jl kl =
        ap₂ (λ (x y : ℕ). x * 256 + y) (counted_kept (common_at j k) (omega arith)) (counted_kept (common_at j k + 1) (omega arith))
        ∙ common_read s r (whole_front s t) (whole_sound s t) j k jl kl

    -- and the console moved to it: only the table changed
    grown_store : (u : List ℕ) (c : ℕ) → Sound (grown r c m) → length u ≡ length counted
        → ((k : ℕ) → (commons_at ≤ k → k < commons_end → ⊥) → get_or u k 0 ≡ get_or counted k 0)
        → ((j k : ℕ) → j < console_count → k < console_count → Stands u (common_at j k) (word (common_field (grown r c m) j k)))
        → u ≡ overwrite (encode (grown r c m)) s
    grown_store u c sound long table commons =
        let stays : (k : ℕ) → (count_at ≤ k → k < count_at + 2 → ⊥) → (commons_at ≤ k → k < commons_end → ⊥) → get_or u k 0 ≡ get_or a k 0 =
        λ k o b. table k b ∙ count_kept k o in
        let header = free_fits in
        let whole = grew.long in
        let wide = row_from-length (is_entry (m ∷ g)) 0 row_size in
        changed_store parts
        (record {
          settings = refl;
          more = omega arith;
          fits = free;
          kept = λ k o. table k (λ x y. o.1 (omega arith) y) ∙ counted_kept k (o.0, λ x y. o.1 x (omega arith), o.2);
          count = stands_kept (put_stands a count_at (suc n) (omega arith)) (λ i x y. table i (omega arith));
          entries = stands_kept grew.standing.entries (λ i x y. stays i (omega arith) (omega arith));
          commons = commons;
          versions = λ v l. stands_kept (grew.standing.versions v l) (λ i x y. stays i (omega arith) (omega arith));
        })
        s (facts_sound (grown r c m) sound) (whole_long s t) (long ∙ counted_long) (λ k l. refl)

  -- a present console
  module _ (c : ℕ) (cl : c < console_count) (p : present (room_in s) c ≡ true) where
    -- an entry on it: the common versions of the console with the others stay
    module _ (code strip operand : ℕ) (range : is_entry_code code && is_strip strip && is_operand code operand ≡ true) where
      abbrev e : Node
      e = entry (head r c) code strip operand

      abbrev written : List ℕ
      written = with_entry s n (head r c) code strip operand

      written_grew : Grew s written g e
      written_grew =
          entry_grew s g free_standing (whole_sound s t).lower free_small free_fits (head r c) code strip operand (head_named r (whole_sound s t) c p)

      abbrev now_counted : List ℕ
      now_counted = put_word written count_at (suc n)

      abbrev after : List ℕ
      after = put_head now_counted c (suc n)

      field_kept : (j k : ℕ) → j < console_count → k < console_count → (common_at j k ≡ common_at c c → ⊥) → common_field (grown r c e) j k ≡ common_field r j k
          → Stands after (common_at j k) (word (common_field (grown r c e) j k))
      field_kept j k jl kl apart same =
          rw same
          (stands_kept (counted_commons written e written_grew j k jl kl)
          (λ i x y. put_other_lem now_counted (common_at c c) (suc n) i (omega arith) (omega arith)))

      entry_commons : (j k : ℕ) → j < console_count → k < console_count → Stands after (common_at j k) (word (common_field (grown r c e) j k))
      entry_commons j k jl kl =
          let sound = whole_sound s t in
          let fits = free_fits in
          let long = counted_long written e written_grew in
          elim (ℕ_discrete j c) [
            | yes f ↦
                elim (ℕ_discrete k c) [
                  | yes h ↦ rw (f, h, grown_self r sound c p e) (put_stands now_counted (common_at c c) (suc n) (omega arith))
                  | no kc ↦ field_kept j k jl kl (omega arith) (rw f (entry_row r sound c p code strip operand k kc))
                ]
            | no jc ↦
                field_kept j k jl kl (omega arith)
                (elim (ℕ_discrete k c) [
                  | yes h ↦ rw h (entry_column r sound c p code strip operand j jc ∙ common_field-sym r sound c j)
                  | no kc ↦ grown_other r sound c p e j k jc kc
                ])
          ]

      -- as the code does it, with n the number of versions and h the head
      pub entered_store : (a b u : List ℕ) (n h : ℕ) → n ≡ version_count (room_in s).versions → h ≡ head (room_in s) c
          → a ≡ with_entry s n h code strip operand → b ≡ put_word a count_at (n + 1) → u ≡ put_head b c (suc n)
          → u ≡ overwrite (encode (grown (room_in s) c (entry (head (room_in s) c) code strip operand))) s
      entered_store a b u n h en eh ea eb eu =
          rw (eu, eb, ea, add-one, en, eh)
          (grown_store written e written_grew (put_head now_counted c (suc (version_count g))) c (entry_grown r (whole_sound s t) c code strip operand p range free)
          (put_length now_counted (common_at c c) (suc (version_count g)))
          (λ k o. put_other_lem now_counted (common_at c c) (suc (version_count g)) k (λ x. o (omega arith) (omega arith)) (λ x. o (omega arith) (omega arith)))
          entry_commons)

    -- a merge of another console into it: its common versions with the others are the later of its own and the giver's
    module _ (d : ℕ) (dl : d < console_count) (q : present (room_in s) d ≡ true) (through : Through (room_in s) c d) (ahead : behind (room_in s) d c ≡ false) (back : behind (room_in s) c d ≡ false)
        (split : some_third_splits (room_in s) c d ≡ false) where
      abbrev m : Node
      m = merge (head r c) (head r d)

      abbrev joined : List ℕ
      joined = with_merge s n (head r c) (head r d) (common r c d)

      joined_grew : Grew s joined g m
      joined_grew =
          merge_grew s g free_standing (whole_sound s t).lower free_small free_fits (head r c) (head r d) (common r c d)
          (head_named r (whole_sound s t) c p) (head_named r (whole_sound s t) d q) (common_base r c d)

      joined_clashes : (merge_of_boards s (head r c) (head r d) (common r c d)).clashes ≡ clash_count r (Merge (record { 0 = c }) (record { 0 = d }))
      unfolding clash_count
      joined_clashes =
          merge_clashes s g free_standing (whole_sound s t).lower free_small free_fits (head r c) (head r d) (common r c d)
          (head_named r (whole_sound s t) c p) (head_named r (whole_sound s t) d q) (common_base r c d)

      abbrev joined_counted : List ℕ
      joined_counted = put_word joined count_at (suc n)

      header_fits : header_size ≤ length joined_counted
      header_fits = omega (arith, counted_long joined m joined_grew, whole_header s t)

      pub merged_store : (a b e u : List ℕ) (n h k l clashes : ℕ) → n ≡ version_count (room_in s).versions → h ≡ head (room_in s) c → k ≡ head (room_in s) d
          → l ≡ common (room_in s) c d → (a ≡ with_merge s n h k l) × (clashes ≡ (merge_of_boards s h k l).clashes)
          → b ≡ put_word a count_at (n + 1) → e ≡ put_others b c (joined_field b c d) console_count → u ≡ put_head e c (suc n)
          → (u ≡ overwrite (encode (grown (room_in s) c (merge (head (room_in s) c) (head (room_in s) d)))) s)
          × (clashes ≡ clash_count (room_in s) (Merge (record { 0 = c }) (record { 0 = d })))
      merged_store a b e u n h k l clashes en eh ek el ea eb ee eu =
          let sound = whole_sound s t in
          let new = suc (version_count g) in
          let field = joined_field joined_counted c d in
          let read = counted_read joined m joined_grew in
          rw (eu, ee, eb, ea.0, ea.1, add-one, en, eh, ek, el) (
            grown_store joined m joined_grew (put_head (put_others joined_counted c field console_count) c new) c (merge_grown r sound c d p q through ahead back split free)
                (table_length joined_counted c field new) (table_outside joined_counted c field new cl)
                (table_stands joined_counted c field new cl header_fits (common_field r) (common_field (grown r c m)) (counted_commons joined m joined_grew) (grown_self r sound c p m)
                (λ k kl kc. rw (read c k cl kl, read d k dl kl) (merge_row r sound c d p q split k kc))
                (λ k kl kc. rw (read c k cl kl, read d k dl kl) (merge_column r sound c d p q split k kc)) (grown_other r sound c p m)),
            joined_clashes,
          )
