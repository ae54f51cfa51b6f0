-- Bytes that pass the test hold a sound store.
-- Assumes nothing.
use mathlib.Core.Path.{◌≡◌, sym, ◌∙◌, ap, subst}
use mathlib.Core.Bool.{true}
use mathlib.Core.List.{List}
use mathlib.Core.Option.{Option, some, get_or}
use Prim.Native.Nat.{ℕ, pred, ◌-◌, ◌*◌, ◌≤◌, ◌<◌}
use native.Mathlib.Decide.{dec_lt}
use native.Mathlib.Omega.{arith}
use lib.ListN.{length, take}
use borrow.Author.Tests.{eqb-false, ne_eqb, le-leb, ltb-true}
use Rattle.laws.proofs.Logic.{and_l, and_r, and_i, implies_e}
use Rattle.buffer.specs.Field.{word}
use Rattle.buffer.specs.Row.{row}
use Rattle.buffer.proofs.Fields.{part_length}
use Rattle.buffer.proofs.Rows.{row_from-length}
use Rattle.buffer.proofs.Sets.{row_told, none_false}
use Rattle.buffer.proofs.Stands.{Stands}
use Rattle.buffer.proofs.Parts.{Bytes, part_bytes, stands_part, part_stands, word_stands, zero_stands, same_of}
use Rattle.board.specs.Board.{board_size}
use Rattle.graph.specs.Graph.{Graph, version_count, is_entry, is_some, ancestor}
use Rattle.graph.proofs.Below.{some_at}
use Rattle.graph.proofs.Meet.{Meet}
use Rattle.command.specs.Code.{console_count}
use Rattle.room.specs.Room.{Room, head_of, present, head}
use Rattle.room.specs.Sound.{max_capacity, behind_head, can_make_hub}
use Rattle.room.proofs.Sound.{Sound, capacity_range, present_console, present_head, can_behind, facts_sound}
use Rattle.room.proofs.Lengths.{board_of-length}
use Rattle.store.specs.Layout.{header_size, row_size, block_size, store_size, count_at, spare_at, entries_at, commons_end, common_at, block_at, encode, settings_in, room_in, holds_store}
use Rattle.store.specs.Check.{row_part, entries_part, common_in, store_right}
use Rattle.store.proofs.RoundTrip.{encode_length}
use Rattle.store.proofs.SettingsBytes.{settings_stand}
use Rattle.store.proofs.Shown.{no_entry}
use Rattle.store.proofs.Told.{Held}
use Rattle.store.proofs.Versions.{versions_held}
use Rattle.store.proofs.Commons.{Field, field_is, head_is, there, not_zero, field_named, consoles_fields}
use Rattle.store.proofs.HubTold.{hub_told}
use Rattle.store.proofs.Behind.{behind_row, row_behind}
use Rattle.store.proofs.Joined.{Placed, join_block, join_encode}
use Rattle.store.proofs.Checks.{Checks, right_checks, own_versions, own_sixteen, own_heads}

module _ (s : List ℕ) (b : Bytes s) where
  abbrev r : Room
  r = room_in s

  abbrev g : Graph
  g = r.versions

  module _ (k : Checks s r.settings (version_count g)) where
    small : version_count g ≤ max_capacity
    small = omega (arith, k.fits, capacity_range r.settings k.known)

    held : Held s g
    held = rw own_versions at (versions_held s (length g) b (omega (arith, k.long, k.fits)) small k.versions)

    fields : (c d : ℕ) → c < console_count → d < console_count → Field r c d (common_in s c d)
    fields = consoles_fields s r (own_heads s) small held k.consoles

    low : (c : ℕ) → c < console_count → common_in s c c ≤ version_count g
    low c l = field_named s r (own_heads s) c l (fields c c l l)

    -- a head is the version that stands on the diagonal
    named : (c v : ℕ) → head_of r c ≡ some v → v < version_count g
    named c v e =
        let l = present_console r c (own_sixteen s) (ap is_some e) in
        let x = eqb-false (common_in s c c) 0 (not_zero s r (own_heads s) c l (ap is_some e)) in
        let is : v ≡ pred (common_in s c c) = sym (ap (λ (o : Option ℕ). get_or o 0) e) ∙ head_is s r (own_heads s) c l in
        omega (arith, low c l)

    behind : (v : ℕ) → v < version_count g → behind_head r v ≡ true
    behind = row_behind r small (sym (behind_row s r (own_heads s) (row_part s) (λ v l. (held.told v l).line) low) ∙ k.behind)

    meets : (c d : ℕ) → present r c ≡ true → present r d ≡ true → (m : ℕ) × Meet g (head r c) (head r d) m
    meets c d p q =
        let f = fields c d (present_console r c (own_sixteen s) p) (present_console r d (own_sixteen s) q) in
        (pred (common_in s c d), (f.both p q).1)

    first : present r 0 ≡ true
    first = there s r (own_heads s) 0 (omega arith) (ne_eqb (common_in s 0 0) 0 (omega (arith, ltb-true 0 (common_in s 0 0) k.first)))

    -- the test of the hub, in the row of its head
    hub_passed : r.settings.hub ≡ true → can_make_hub r ≡ true
    unfolding room_in
    hub_passed t =
        let line = (held.told (head r 0) (named 0 (head r 0) (present_head r 0 first))).line in
        sym (hub_told s r small (λ c d i j. field_is (fields c d i j)))
        ∙ rw (← line, head_is s r (own_heads s) 0 (omega arith)) (implies_e (settings_in s).hub _ k.hub t)

    sound : Sound r
    sound =
        record {
          lower = held.lower;
          based = held.based;
          sixteen = own_sixteen s;
          named = named;
          meets = meets;
          first = first;
          behind = λ v l.
              let f = some_at console_count _ (behind v l) in
              (f.0, and_l (present r f.0) _ f.2, and_r (present r f.0) _ f.2);
          settings = k.known;
          fits = k.fits;
          ranged = held.ranged;
          hub = λ t. can_behind r (own_sixteen s) meets (hub_passed t);
        }

    entries : entries_part s ≡ row (is_entry g) row_size
    entries =
        row_told (is_entry g) row_size (entries_part s) (part_bytes s entries_at row_size b)
        (part_length s entries_at row_size (omega (arith, k.long)))
        (λ v _.
        elim (dec_lt v (version_count g)) [
          | yes l ↦ (held.told v l).listed
          | no l ↦ none_false (entries_part s) (version_count g) v k.none (omega arith) ∙ sym (no_entry g v (omega arith))
        ])

    parts : Placed s r
    parts =
        record {
          settings = unfold room_in in settings_stand b k.flag;
          count = rw k.count at (word_stands {s = s} count_at b);
          gap = zero_stands spare_at (entries_at - spare_at) k.gap;
          entries = part_stands row_size entries (row_from-length (is_entry g) 0 row_size);
          commons = λ c d i j. subst (λ (x : ℕ). Stands s (common_at c d) (word x)) (field_is (fields c d i j)) (word_stands (common_at c d) b);
          rest = zero_stands commons_end (header_size - commons_end) k.rest;
          versions = λ v l.
              let t = held.told v l in
              join_block g v t.node (part_stands row_size t.line (row_from-length (λ u. ancestor g u v) 0 row_size))
              (part_stands board_size t.board (board_of-length g v));
          free = zero_stands (block_at (version_count g)) (block_size * (r.settings.capacity - version_count g)) k.free;
        }

    checks_hold : holds_store s ≡ true
    unfolding holds_store room_in
    checks_hold =
        let whole = facts_sound r sound in
        let n = store_size r.settings.capacity in
        and_i _ _ (and_i _ _ (le-leb n (length s) k.long) whole)
        (same_of (take n s) (encode r) (stands_part n (join_encode r parts) (encode_length r whole) (omega (arith, k.long))))

  pub right_holds : store_right s ≡ true → holds_store s ≡ true
  right_holds h = checks_hold (right_checks s h)
