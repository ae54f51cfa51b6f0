-- A fresh store into which the versions of a tape were written, and then its count and its table of commons, is the store of the tape's room.
-- Assumes nothing.
use mathlib.Core.Path.{◌≡◌, refl, ap, subst, ◌∙◌}
use mathlib.Core.Bool.{true}
use mathlib.Core.List.{List, []}
use Prim.Native.Nat.{ℕ, ◌+◌, ◌≤◌, ◌<◌}
use native.Mathlib.Omega.{arith}
use lib.ListN.{length, get_or, drop, length-append, length-drop}
use Rattle.buffer.specs.Field.{put_word, part, overwrite, with_part}
use Rattle.buffer.proofs.Rows.{row_from-length}
use Rattle.buffer.proofs.Stands.{Stands, stands_front, stands_kept}
use Rattle.buffer.proofs.Parts.{put_stands, overwrite_behind}
use Rattle.buffer.proofs.Patches.{with_length, with_outside, with_stands}
use Rattle.buffer.proofs.Writes.{put_length, put_other_lem}
use Rattle.graph.specs.Graph.{version_count, is_entry}
use Rattle.command.specs.Code.{console_count}
use Rattle.room.specs.Room.{Room, fresh_room}
use Rattle.room.specs.Sound.{sound_room}
use Rattle.room.proofs.Sound.{sound_facts}
use Rattle.room.proofs.Steps.{fresh_sound}
use Rattle.store.specs.Layout.{header_size, row_size, store_size, count_at, commons_at, commons_size, commons_end, block_at, common_table, encode}
use Rattle.store.proofs.Blocks.{common_table-length, block_length, table_field}
use Rattle.store.proofs.Joined.{Placed, placed}
use Rattle.store.proofs.Changed.{Changed, changed_store}
use Rattle.store.proofs.RoundTrip.{encode_length}
use Rattle.update.proofs.AppendedBlocks.{Standing}
use Rattle.tape.specs.Tape.{Content, room_of}
use Rattle.resume.specs.Writing.{with_header}
use Rattle.resume.proofs.VersionsWritten.{Built}

-- where the store of a fresh room of the tape's capacity was written over the old bytes
module _ (t : Content) (sound : sound_room (room_of t) ≡ true) (old : List ℕ) (fits : store_size t.settings.capacity ≤ length old)
    {s : List ℕ} (opened : s ≡ overwrite (encode (fresh_room t.settings)) old) where
  abbrev r : Room
  r = room_of t

  abbrev n : ℕ
  n = version_count t.versions

  fresh_length : length (encode (fresh_room t.settings)) ≡ store_size t.settings.capacity
  fresh_length = encode_length (fresh_room t.settings) (fresh_sound t.settings (sound_facts r sound).settings)

  opened_long : length s ≡ length old
  opened_long = let long = fresh_length in let f = fits in rw opened (simp (length-append, length-drop) (omega arith))

  opened_behind : (k : ℕ) → store_size t.settings.capacity ≤ k → get_or s k 0 ≡ get_or old k 0
  opened_behind k l =
      let long = fresh_length in
      ap (λ (x : List ℕ). get_or x k 0) opened ∙ overwrite_behind (encode (fresh_room t.settings)) old k (omega arith)

  parts : Placed s (fresh_room t.settings)
  parts = placed (fresh_room t.settings) (rw opened (stands_front (encode (fresh_room t.settings)) (drop (length (encode (fresh_room t.settings))) old)))

  pub opened_standing : Standing s []
  opened_standing = record { versions = parts.versions; entries = parts.entries }

  pub opened_fits : block_at (version_count t.versions) ≤ length s
  opened_fits = let k = sound_facts r sound in let long = opened_long in let f = fits in omega arith

  module _ {now : List ℕ} (built : Built s now t.versions) (header : List ℕ)
      (common : part header commons_at commons_size ≡ common_table r 0 console_count) where
    abbrev table : List ℕ
    table = part header commons_at commons_size

    abbrev counted : List ℕ
    counted = put_word now count_at n

    abbrev final : List ℕ
    final = with_part counted commons_at table

    table_long : length table ≡ commons_size
    table_long = rw common (common_table-length r 0 console_count)

    now_long : length now ≡ length old
    now_long = built.long ∙ opened_long

    counted_long : length counted ≡ length old
    counted_long = put_length now count_at n ∙ now_long

    large : header_size ≤ length old
    large = let f = fits in omega arith

    pub header_fits : header_size ≤ length now
    header_fits = let h = large in let l = now_long in omega arith

    -- behind and before the table, and but for the count
    outside : (k : ℕ) → (commons_at ≤ k → k < commons_end → ⊥) → get_or final k 0 ≡ get_or counted k 0
    outside k a =
        let l = table_long in let c = counted_long in let h = large in
        with_outside counted table commons_at (omega arith) k (λ x y. a x (omega arith))

    stays : (k : ℕ) → (commons_at ≤ k → k < commons_end → ⊥) → (count_at ≤ k → k < count_at + 2 → ⊥) → get_or final k 0 ≡ get_or now k 0
    stays k a b = outside k a ∙ put_other_lem now count_at n k (λ e. b (omega arith) (omega arith)) (λ e. b (omega arith) (omega arith))

    whole : Changed s final (fresh_room t.settings) r
    whole =
        let k = sound_facts r sound in
        let l = table_long in
        let long = counted_long in
        let f = fits in
        let wide = row_from-length (is_entry t.versions) 0 row_size in
        let there = with_stands counted table commons_at (omega arith) in
        record {
          settings = refl;
          more = omega arith;
          fits = k.fits;
          kept = λ i o. stays i (λ x y. o.1 (omega arith) y) o.0 ∙ built.kept i o.2 (λ x y. o.1 x (omega arith));
          count = stands_kept (put_stands now count_at n (omega (arith, now_long))) (λ i x y. outside i (omega arith));
          entries = stands_kept built.standing.entries (λ i x y. stays i (omega arith) (omega arith));
          commons = table_field r commons_at (subst (Stands final commons_at) common there);
          versions = λ v b. let long-block = block_length t.versions v in stands_kept (built.standing.versions v b) (λ i x y. stays i (omega arith) (omega arith));
        }

    pub store_whole : {versions : ℕ} {end : List ℕ} → versions ≡ length t.versions → end ≡ with_header now (versions + 1) header
        → end ≡ overwrite (encode (room_of t)) old
    unfolding with_header
    store_whole {versions} {end} v e =
        let count : versions + 1 ≡ n = omega arith in
        let there : end ≡ final = rw count at e in
        let l = table_long in
        let c = counted_long in
        let h = large in
        there ∙ changed_store parts whole old sound fits (with_length counted table commons_at (omega arith) ∙ counted_long) opened_behind
