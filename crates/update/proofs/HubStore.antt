-- A store whose hub's field was written is the encoding of the room with the hub.
-- Assumes nothing.
use mathlib.Core.Path.{◌≡◌, refl, subst}
use mathlib.Core.Bool.{Bool, true, false, ◌&&◌}
use mathlib.Core.List.{List}
use Prim.Native.Nat.{ℕ, ◌≤◌}
use native.Mathlib.Omega.{arith}
use lib.ListN.{get_or}
use Rattle.buffer.specs.Field.{word, put_word, overwrite}
use Rattle.buffer.proofs.Stands.{Stands, stands_left, stands_kept}
use Rattle.buffer.proofs.Parts.{stands_join, put_stands}
use Rattle.buffer.proofs.Writes.{put_length, put_other_lem}
use Rattle.command.specs.declared.Command.TheVariants.{MakeHub}
use Rattle.room.specs.Room.{Room, present, common}
use Rattle.room.specs.Sound.{can_make_hub, sound_room}
use Rattle.room.specs.Step.{hub_made, step}
use Rattle.room.proofs.Accepted.{hub_accepts}
use Rattle.room.proofs.Sound.{facts_sound}
use Rattle.room.proofs.Steps.{step_sound}
use Rattle.store.specs.Layout.{settings_end, common_at, hub_at, field_where, encode, room_in, holds_store}
use Rattle.store.proofs.Joined.{Placed, placed, join_encode}
use Rattle.store.proofs.Overwritten.{overwritten}
use Rattle.store.proofs.Whole.{whole_sound, whole_front, whole_long, whole_header}

module _ (s : List ℕ) (t : holds_store s ≡ true) where
  abbrev r : Room
  r = room_in s

  hub_sound : can_make_hub r ≡ true → sound_room (hub_made r) ≡ true
  unfolding step
  hub_sound can = step_sound r MakeHub (facts_sound r (whole_sound s t)) tt (hub_accepts r can)

  -- no byte behind the settings has changed
  behind_kept : (k : ℕ) → settings_end ≤ k → get_or (put_word s hub_at 1) k 0 ≡ get_or s k 0
  behind_kept k l = put_other_lem s hub_at 1 k (omega arith) (omega arith)

  behind : {at : ℕ} {xs : List ℕ} → settings_end ≤ at → Stands s at xs → Stands (put_word s hub_at 1) at xs
  behind l h = stands_kept h (λ i x y. behind_kept i (omega arith))

  -- the table does not depend on what the room is set to
  same_field : (both : Bool) (c d : ℕ) → field_where both r c d ≡ field_where both (hub_made r) c d
  unfolding common
  same_field true c d = refl
  same_field false c d = refl

  hub_placed : Placed (put_word s hub_at 1) (hub_made r)
  hub_placed =
      let p = placed r (whole_front s t) in
      record {
        settings = stands_join (word r.settings.capacity) (word 1)
            (stands_kept (stands_left (word r.settings.capacity) _ p.settings) (λ i x y. put_other_lem s hub_at 1 i (omega arith) (omega arith)))
            (put_stands s hub_at 1 (omega (arith, whole_header s t))) refl;
        count = behind (omega arith) p.count;
        gap = behind (omega arith) p.gap;
        entries = behind (omega arith) p.entries;
        commons = λ c d i j.
            subst (λ (x : ℕ). Stands (put_word s hub_at 1) (common_at c d) (word x)) (same_field (present r c && present r d) c d)
            (behind (omega arith) (p.commons c d i j));
        rest = behind (omega arith) p.rest;
        versions = λ v l. behind (omega arith) (p.versions v l);
        free = behind (omega arith) p.free;
      }

  pub hub_store : can_make_hub (room_in s) ≡ true → put_word s hub_at 1 ≡ overwrite (encode (hub_made (room_in s))) s
  hub_store can =
      overwritten s _ (hub_made r) (hub_sound can) (join_encode (hub_made r) hub_placed) (whole_long s t) (put_length s hub_at 1)
      (λ k l. behind_kept k (omega arith))
