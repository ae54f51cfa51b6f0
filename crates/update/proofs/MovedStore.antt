-- A store whose table of common versions was written for one console is the encoding of the room in which that console has another slot.
-- Assumes nothing.
use mathlib.Core.Path.{◌≡◌, refl, sym, ◌∙◌}
use mathlib.Core.Bool.{true}
use mathlib.Core.List.{List}
use mathlib.Core.Option.{Option, none}
use Prim.Native.Nat.{ℕ, ◌<◌}
use native.Mathlib.Omega.{arith}
use Rattle.buffer.specs.Field.{overwrite}
use Rattle.buffer.proofs.Rows.{row_from-length}
use Rattle.buffer.proofs.Stands.{stands_kept}
use Rattle.graph.specs.Graph.{is_entry}
use Rattle.command.specs.Code.{console_count}
use Rattle.room.specs.Room.{Room, head_of}
use Rattle.room.specs.Step.{some_other_descends, moved}
use Rattle.room.proofs.Sound.{Sound, facts_sound}
use Rattle.room.proofs.Accepted.{MayMove}
use Rattle.room.proofs.Moves.{moved_sound, left_sound}
use Rattle.store.specs.Layout.{row_size, common_field, encode, room_in, holds_store}
use Rattle.store.specs.Check.{common_in}
use Rattle.store.proofs.Joined.{placed}
use Rattle.store.proofs.Moved.{moved_self, moved_row, moved_column, moved_other, left_row, left_column}
use Rattle.store.proofs.Changed.{changed_store}
use Rattle.store.proofs.Reading.{common_read}
use Rattle.store.proofs.Whole.{whole_sound, whole_front, whole_long, whole_header}
use Rattle.update.specs.Commons.{put_others, joined_field, put_head}
use Rattle.update.proofs.CommonsTable.{table_length, table_outside, table_stands}

-- The fields of console c were written, x for its head and `field k` for each other console k. Where these are its fields in the room in which its
-- slot is h, the bytes are that room's.
module _ (s : List ℕ) (t : holds_store s ≡ true) (c : ℕ) (cl : c < console_count) (h : Option ℕ) (field : ℕ → ℕ) (x : ℕ) where
  abbrev next : Room
  next = moved (room_in s) c h

  slot_store : Sound next → common_field next c c ≡ x
      → ((k : ℕ) → k < console_count → (k ≡ c → ⊥) → common_field next c k ≡ field k)
      → ((k : ℕ) → k < console_count → (k ≡ c → ⊥) → common_field next k c ≡ field k)
      → ((j k : ℕ) → (j ≡ c → ⊥) → (k ≡ c → ⊥) → common_field next j k ≡ common_field (room_in s) j k)
      → put_head (put_others s c field console_count) c x ≡ overwrite (encode next) s
  slot_store sound self row column other =
      let r = room_in s in
      let p = placed r (whole_front s t) in
      let wide = row_from-length (is_entry r.versions) 0 row_size in
      let outside = table_outside s c field x cl in
      changed_store p
      (record {
        settings = refl;
        more = omega arith;
        fits = (whole_sound s t).fits;
        kept = λ k o. outside k (λ l m. o.1 (omega arith) m);
        count = stands_kept p.count (λ i l m. outside i (omega arith));
        entries = stands_kept p.entries (λ i l m. outside i (omega arith));
        commons = table_stands s c field x cl (whole_header s t) (common_field r) (common_field next) p.commons self row column other;
        versions = λ v b. stands_kept (p.versions v b) (λ i l m. outside i (omega arith));
      })
      s (facts_sound next sound) (whole_long s t) (table_length s c field x) (λ k l. refl)

-- a console that moved to the head of another, whose common versions it took over where they are later
module _ (s : List ℕ) (t : holds_store s ≡ true) (c d : ℕ) (cl : c < console_count) (dl : d < console_count) (may : MayMove (room_in s) c d) where
  pub moved_store : put_head (put_others s c (joined_field s c d) console_count) c (common_in s d d) ≡ overwrite (encode (moved (room_in s) c (head_of (room_in s) d))) s
  moved_store =
      let r = room_in s in
      let sound = whole_sound s t in
      let read = common_read s r (whole_front s t) sound in
      slot_store s t c cl (head_of r d) (joined_field s c d) (common_in s d d) (moved_sound r sound c d cl may)
      (moved_self r sound c d cl may ∙ sym (read d d dl dl))
      (λ k kl kc. rw (read c k cl kl, read d k dl kl) (moved_row r sound c d cl may k kc))
      (λ k kl kc. rw (read c k cl kl, read d k dl kl) (moved_column r sound c d cl may k kc))
      (moved_other r sound c (head_of r d))

-- a console that left, whose fields were cleared
pub left_store : (s : List ℕ) → holds_store s ≡ true → (c : ℕ) → c < console_count → 0 < c → some_other_descends (room_in s) c ≡ true
    → put_head (put_others s c (λ k. 0) console_count) c 0 ≡ overwrite (encode (moved (room_in s) c none)) s
left_store s t c cl not-0 h =
    let r = room_in s in
    let sound = whole_sound s t in
    slot_store s t c cl none (λ k. 0) 0 (left_sound r sound c cl not-0 h) (left_row r sound c cl c)
    (λ k _ _. left_row r sound c cl k) (λ k _ _. left_column r sound c cl k) (moved_other r sound c none)
