-- What bytes that hold a sound store show: the room read off them is sound, its encoding stands at their front, each version's block is
-- whole, and the fields of the table are the meets of the heads.
-- Assumes nothing.
use mathlib.Core.Path.{◌≡◌, sym, ◌∙◌, ap, subst}
use mathlib.Core.Bool.{true, ◌&&◌}
use mathlib.Core.List.{List}
use Prim.Native.Nat.{ℕ, suc, pred, ◌≤◌, ◌<◌}
use native.Mathlib.Omega.{arith}
use lib.ListN.{length}
use borrow.Author.Tests.{leb-true}
use Rattle.laws.proofs.Logic.{and_l, and_r}
use Rattle.buffer.specs.Row.{row, member}
use Rattle.buffer.proofs.Rows.{row_from-length, member_row}
use Rattle.buffer.proofs.Stands.{Stands, stands_front}
use Rattle.buffer.proofs.Parts.{stands_part}
use Rattle.board.specs.Board.{board_size}
use Rattle.graph.specs.Graph.{version_count, is_entry, ancestor}
use Rattle.command.specs.Code.{console_count}
use Rattle.room.specs.Room.{present}
use Rattle.room.specs.Sound.{max_capacity, can_make_hub}
use Rattle.room.proofs.Sound.{Sound, versions_small, sound_facts}
use Rattle.room.proofs.Lengths.{board_of-length}
use Rattle.store.specs.Layout.{header_size, row_size, store_size, block_at, encode, room_in, holds_store}
use Rattle.store.specs.Check.{row_part, entries_part, common_in, commons_in_row}
use Rattle.store.proofs.Blocks.{stands_entries, stands_node, stands_row, stands_board}
use Rattle.store.proofs.Reading.{field_below, common_read}
use Rattle.store.proofs.RoundTrip.{holds_sound, holds_front}
use Rattle.store.proofs.Told.{Held}
use Rattle.store.proofs.Commons.{Field, field_is, field_of, field_named, head_is}
use Rattle.store.proofs.HubTold.{hub_told}
use Rattle.store.proofs.Checks.{own_heads}

module _ (s : List ℕ) (t : holds_store s ≡ true) where
  pub whole_sound : Sound (room_in s)
  whole_sound = sound_facts (room_in s) (holds_sound s t)

  pub whole_front : Stands s 0 (encode (room_in s))
  whole_front = subst (λ (u : List ℕ). Stands u 0 (encode (room_in s))) (sym (holds_front s t)) (stands_front (encode (room_in s)) _)

  pub whole_long : store_size (room_in s).settings.capacity ≤ length s
  unfolding holds_store room_in
  whole_long = leb-true _ _ (search (and_l, and_r))

  pub whole_header : header_size ≤ length s
  whole_header = omega (arith, whole_long)

  pub whole_small : version_count (room_in s).versions ≤ max_capacity
  whole_small = versions_small (room_in s) whole_sound

  pub whole_block : (v : ℕ) → v < version_count (room_in s).versions → block_at (suc v) ≤ length s
  whole_block v l = omega (arith, whole_sound.fits, whole_long)

  pub whole_entries : entries_part s ≡ row (is_entry (room_in s).versions) row_size
  whole_entries =
      stands_part row_size (stands_entries (room_in s) whole_front) (row_from-length (is_entry (room_in s).versions) 0 row_size) (omega (arith, whole_header))

  pub whole_held : Held s (room_in s).versions
  whole_held =
      let g = (room_in s).versions in
      record {
        lower = whole_sound.lower;
        based = whole_sound.based;
        ranged = whole_sound.ranged;
        told = λ v l.
            let k = whole_small in
            let n = whole_block v l in
            record {
              node = stands_node (room_in s) whole_front v l;
              line = stands_part row_size (stands_row (room_in s) whole_front v l) (row_from-length (λ u. ancestor g u v) 0 row_size) (omega arith);
              board = stands_part board_size (stands_board (room_in s) whole_front v l) (board_of-length g v) (omega arith);
              listed = ap (λ (e : List ℕ). member e v) whole_entries ∙ member_row (is_entry g) row_size v (omega arith);
            };
      }

  pub whole_fields : (c d : ℕ) → c < console_count → d < console_count → Field (room_in s) c d (common_in s c d)
  whole_fields c d i j = rw (common_read s (room_in s) whole_front whole_sound c d i j) (field_of (room_in s) c d (whole_sound.meets c d))

  pub whole_common : (c d : ℕ) → c < console_count → d < console_count → common_in s c d ≤ version_count (room_in s).versions
  whole_common c d i j = rw (field_is (whole_fields c d i j)) (field_below (present (room_in s) c && present (room_in s) d) (room_in s) c d)

  pub whole_low : (c : ℕ) → c < console_count → common_in s c c ≤ version_count (room_in s).versions
  whole_low c l = field_named s (room_in s) (own_heads s) c l (whole_fields c c l l)

  -- the row of console 0's head, and what every two consoles have in common is in it where console 0 can be the hub
  pub whole_head : pred (common_in s 0 0) < version_count (room_in s).versions
  whole_head = omega (arith, whole_low 0 (omega arith))

  pub whole_hub : commons_in_row s (row_part s (pred (common_in s 0 0))) ≡ can_make_hub (room_in s)
  whole_hub =
      rw ((whole_held.told (pred (common_in s 0 0)) whole_head).line, ← head_is s (room_in s) (own_heads s) 0 (omega arith))
      (hub_told s (room_in s) whole_small (λ c d i j. field_is (whole_fields c d i j)))
