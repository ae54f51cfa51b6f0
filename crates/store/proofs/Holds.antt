-- Bytes that hold a sound store pass the test.
-- Assumes nothing.
use mathlib.Core.Path.{◌≡◌, ◌∙◌}
use mathlib.Core.Bool.{true}
use mathlib.Core.List.{List}
use Prim.Native.Nat.{ℕ, ◌-◌, ◌*◌, ◌<◌}
use native.Mathlib.Omega.{arith}
use lib.ListN.{length}
use borrow.Author.Tests.{eqb-false, lt-ltb}
use Rattle.laws.proofs.Logic.{and_i, implies_i}
use Rattle.buffer.proofs.Sets.{none_row}
use Rattle.buffer.proofs.Parts.{stands_zero}
use Rattle.graph.specs.Graph.{Graph, version_count, is_entry}
use Rattle.graph.proofs.Below.{some_of}
use Rattle.command.specs.Code.{console_count}
use Rattle.room.specs.Room.{Room}
use Rattle.room.specs.Sound.{behind_head}
use Rattle.room.proofs.Sound.{Sound, present_console, behind_can}
use Rattle.store.specs.Layout.{header_size, row_size, block_size, spare_at, entries_at, commons_end, block_at, settings_in, room_in, holds_store}
use Rattle.store.specs.Check.{row_part, common_in, hub_right, store_right}
use Rattle.store.proofs.Reading.{count_read}
use Rattle.store.proofs.Shown.{no_entry}
use Rattle.store.proofs.Versions.{held_versions}
use Rattle.store.proofs.Commons.{not_zero, fields_consoles}
use Rattle.store.proofs.SettingsBytes.{hub_field_small}
use Rattle.store.proofs.Behind.{behind_row, behind_all}
use Rattle.store.proofs.Blocks.{stands_settings, stands_spare, stands_rest, stands_free}
use Rattle.store.proofs.Checks.{Checks, checks_right, own_versions, own_heads}
use Rattle.store.proofs.Whole.{whole_sound, whole_front, whole_long, whole_small, whole_entries, whole_held, whole_fields, whole_low, whole_hub}

module _ (s : List ℕ) (t : holds_store s ≡ true) where
  abbrev r : Room
  r = room_in s

  abbrev g : Graph
  g = r.versions

  sound : Sound r
  sound = whole_sound s t

  behind : (v : ℕ) → v < version_count g → behind_head r v ≡ true
  behind v l =
      let f = sound.behind v l in
      some_of console_count _ f.0 (present_console r f.0 sound.sixteen f.1) (and_i _ _ f.1 f.2)

  hub_asked : hub_right s ≡ true
  unfolding room_in
  hub_asked =
      implies_i (settings_in s).hub _ (λ h. whole_hub s t ∙ behind_can r sound.sixteen sound.meets (sound.hub h))

  hold_checks : Checks s r.settings (version_count g)
  hold_checks =
      record {
        known = sound.settings;
        flag = hub_field_small r.settings (stands_settings r (whole_front s t));
        long = whole_long s t;
        count = count_read s r (whole_front s t) sound;
        some = omega arith;
        fits = sound.fits;
        gap = stands_zero spare_at (entries_at - spare_at) (stands_spare r (whole_front s t));
        rest = stands_zero commons_end (header_size - commons_end) (stands_rest r (whole_front s t));
        versions = held_versions s (length g) (whole_small s t) (rw own_versions (whole_held s t));
        none = rw (whole_entries s t) (none_row (is_entry g) row_size (version_count g) (no_entry g));
        free = stands_zero (block_at (version_count g)) (block_size * (r.settings.capacity - version_count g)) (stands_free r (whole_front s t));
        consoles = fields_consoles s r (own_heads s) (whole_small s t) (whole_held s t) (whole_fields s t);
        first = lt-ltb 0 (common_in s 0 0) (let x = eqb-false (common_in s 0 0) 0 (not_zero s r (own_heads s) 0 (omega arith) sound.first) in omega arith);
        behind = behind_row s r (own_heads s) (row_part s) (λ v l. ((whole_held s t).told v l).line) (whole_low s t) ∙ behind_all r behind;
        hub = hub_asked;
      }

  pub holds_right : store_right s ≡ true
  holds_right = checks_right s hold_checks
