-- A tape's content is accepted exactly where what the room is set to, its numbers and its room pass.
-- Assumes nothing.
use mathlib.Core.Path.{◌≡◌}
use mathlib.Core.Bool.{true}
use mathlib.Core.Option.{some}
use native.Mathlib.Omega.{arith}
use borrow.Author.Tests.{not-false}
use Rattle.refusal.specs.Refusal.{first_refusal}
use Rattle.refusal.proofs.Refusals.{none_given}
use Rattle.room.specs.Sound.{settings_in_range, sound_room}
use Rattle.tape.specs.Tape.{Content, room_of, in_range, content_refusal}

pub record Accepted (c : Content) : Type 0 where
  pub size : settings_in_range c.settings ≡ true
  pub range : in_range c ≡ true
  pub room : sound_room (room_of c) ≡ true

pub accepted : (c : Content) → content_refusal (some c) ≡ 0 → Accepted c
unfolding content_refusal
accepted c h =
    let size = none_given 8 _ _ (omega arith) h in
    let range = none_given 9 _ _ (omega arith) size.1 in
    let room = none_given 10 _ _ (omega arith) range.1 in
    record { size = not-false _ size.0; range = not-false _ range.0; room = not-false _ room.0 }

pub accepts : (c : Content) → Accepted c → content_refusal (some c) ≡ 0
unfolding content_refusal first_refusal
accepts c a = simp (a.size, a.range, a.room)
