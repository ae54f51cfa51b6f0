-- The tape of a sound room is accepted and gives back that room; an accepted tape is the tape of its room, byte for byte.
-- Assumes nothing.
use Prim.Native.Nat.{ℕ, ◌+◌, ◌-◌, ◌≤◌, ◌<◌}
use mathlib.Core.Path.{◌≡◌, refl, sym, ◌∙◌}
use mathlib.Core.Bool.{true}
use mathlib.Core.List.{List, [], ◌++◌, append_assoc}
use mathlib.Core.Option.{some}
use native.Mathlib.Omega.{arith}
use lib.ListN.{length, length-append}
use borrow.Author.Tests.{le-leb}
use Rattle.laws.proofs.Logic.{and_l, and_r}
use Rattle.graph.specs.Graph.{version_count}
use Rattle.room.specs.Room.{Room, open_settings}
use Rattle.room.specs.Sound.{sound_room, max_capacity}
use Rattle.room.proofs.Sound.{Sound, capacity_range, settings_fit, sound_facts, heads_named_lem}
use Rattle.buffer.proofs.Parts.{Bytes}
use Rattle.tape.specs.declared.Record.{Record}
use Rattle.tape.specs.declared.Record.TheVariants.{Start, End}
use Rattle.tape.specs.Record.{record_bytes}
use Rattle.tape.specs.Tape.{Content, in_versions, read_on, content_of, content_refusal, room_of, tape_of, version_records, head_records, hub_records, consoles_rise}
use Rattle.tape.proofs.Records.{Fits, record_read, record_rest}
use Rattle.tape.proofs.Accepted.{accepted, accepts}
use Rattle.tape.proofs.Heads.{heads_from, Named, slots_forth, all_named, slots_back, rises}
use Rattle.tape.proofs.Written.{tape_written}
use Rattle.tape.proofs.Reading.{read_versions, versions_long, read_heads}

-- what the tape of a room says
abbrev pub content_from : Room → Content
content_from r = record { settings = r.settings; versions = r.versions; heads = heads_from 0 r.heads [] }

tape_parts : (r : Room)
    → tape_of r ≡ record_bytes (Start r.settings) ++ (version_records r.versions ++ (head_records 0 r.heads ++ (hub_records r.settings ++ record_bytes End)))
unfolding tape_of
tape_parts r = simp append_assoc

module _ (r : Room) (s : sound_room r ≡ true) where
  k : Sound r
  k = sound_facts r s

  named_heads : Named r.versions r.heads
  named_heads c l = heads_named_lem r k c

  small : (r.settings.capacity ≤ max_capacity) × (length r.versions < max_capacity)
  small = omega (arith, k.fits, capacity_range r.settings k.settings)

  read_parts : (fuel : ℕ) → length (version_records r.versions) + length (head_records 0 r.heads) + length (hub_records r.settings) < fuel
      → read_on fuel in_versions (record { settings = open_settings r.settings.capacity; versions = []; heads = [] })
      (version_records r.versions ++ (head_records 0 r.heads ++ (hub_records r.settings ++ record_bytes End)))
      ≡ some (content_from r)
  read_parts fuel enough =
      let long = versions_long r.versions in
      let split : fuel ≡ length r.versions + (fuel - length r.versions) = omega arith in
      rw split
      (read_versions r.versions (fuel - length r.versions) (open_settings r.settings.capacity) _ k.lower k.ranged (omega (arith, small))
      ∙ read_heads _ 0 in_versions r.heads r.settings r.versions [] (omega arith) k.first named_heads (omega (arith, small)) (omega (arith, k.sixteen)))

  pub tape_content : content_of (tape_of r) ≡ some (content_from r)
  unfolding content_of
  tape_content =
      let start : Record = Start (open_settings r.settings.capacity) in
      let fits : Fits start = (settings_fit r.settings k.settings, refl) in
      rw (tape_parts, record_read start _ fits, record_rest start _ fits)
      (read_parts _ (simp length-append (omega arith)))

  pub tape_room : room_of (content_from r) ≡ r
  tape_room = rw (slots_back r.heads k.sixteen)

  pub tape_accepted : content_refusal (some (content_from r)) ≡ 0
  tape_accepted =
      let enough = le-leb (version_count r.versions) r.settings.capacity k.fits in
      let rise = rises r.heads k.sixteen k.first in
      let named = all_named r.versions r.heads named_heads in
      accepts (content_from r)
      (record { size = k.settings; range = simp (enough, k.lower, k.ranged, rise, named); room = rw tape_room s })

-- the tape of a sound room is accepted, and gives back that room
pub tape_back : (r : Room) → sound_room r ≡ true
    → (c : Content) × (content_of (tape_of r) ≡ some c) × (content_refusal (some c) ≡ 0) × (room_of c ≡ r)
tape_back r s = (content_from r, tape_content r s, tape_accepted r s, tape_room r s)

-- an accepted tape is the tape of its room
pub tape_forth : (t : List ℕ) (c : Content) → Bytes t → content_of t ≡ some c → content_refusal (some c) ≡ 0 → tape_of (room_of c) ≡ t
unfolding tape_of
tape_forth t c bytes e a =
    let range = (accepted c a).range in
    let rise : consoles_rise c.heads ≡ true = search (and_l, and_r) in
    tape_parts (room_of c) ∙ rw (slots_forth c.heads rise) (sym (tape_written t c bytes e ∙ simp append_assoc))
