-- A leave is accepted exactly where the console may leave, and then the console is gone: its row and column are cleared, it is absent, and
-- whoever remains is shown what it was shown, and can merge and fast-forward as it could.
-- Assumes nothing.
use Prim.Native.Nat.{ℕ, ◌+◌, ◌<◌}
use mathlib.Core.Path.{◌≡◌, refl, sym, ◌∙◌, ap}
use mathlib.Core.Bool.{true, false, cond, ◌&&◌, ◌||◌}
use mathlib.Core.List.{List, [], ◌∷◌}
use mathlib.Core.Option.{none}
use mathlib.Core.Logic.{inl, inr}
use native.Mathlib.Omega.{arith}
use lib.Dec.{eqb}
use lib.ListN.{length, get_or}
use borrow.Author.Tests.{eqb-true, eqb-false, ne_eqb}
use Rattle.laws.proofs.Logic.{clash, decide, refuted, and_i, not_i, or_split, or_none_l, or_none_r}
use Rattle.buffer.specs.Field.{word, overwrite}
use Rattle.board.specs.declared.Viewer.{Viewer}
use Rattle.graph.specs.Below.{count_below}
use Rattle.graph.specs.Graph.{version_count, ancestor, is_entry}
use Rattle.graph.proofs.Below.{some_at, some_of}
use Rattle.graph.proofs.Meet.{meet_behind}
use Rattle.command.specs.declared.Command.{Command}
use Rattle.command.specs.declared.Command.TheVariants.{Leave}
use Rattle.std.specs.Prelude.{Result, Ok, Err}
use Rattle.command.specs.Code.{console_count, merge_command, fast_forward_command, kind_of, shape_of, operands_of, number_at}
use Rattle.command.specs.Decode.{decode, command_bytes}
use Rattle.command.proofs.Ranges.{command_in, whole_told}
use Rattle.command.proofs.Encoded.{bytes_decode}
use Rattle.room.specs.Room.{Room, present, head, common, heard_count}
use Rattle.room.specs.Origin.{origin}
use Rattle.room.specs.Step.{other_descends, some_other_descends, step_refusal, moved, step, clash_count}
use Rattle.room.specs.Sound.{sound_room}
use Rattle.room.proofs.Sound.{Sound, present_console, facts_sound}
use Rattle.room.proofs.Moves.{number, slot_other, left_absent, left_sound}
use Rattle.room.proofs.Accepted.{some_descends, leave_accepted, leave_accepts}
use Rattle.room.proofs.Steps.{common_meet, common_self}
use Rattle.room.proofs.Leaving.{left_merge, left_clashes, left_forward}
use Rattle.store.specs.Layout.{common_at, common_field, encode, room_in, holds_store}
use Rattle.store.proofs.RoundTrip.{room_over, holds_over}
use Rattle.store.proofs.Joined.{placed}
use Rattle.store.proofs.Moved.{left_row, left_column}
use Rattle.store.proofs.Whole.{whole_sound, whole_front}
use Rattle.update.specs.Commons.{put_others, put_head}
use Rattle.update.proofs.CommonsTable.{table_length, table_kept}
use Rattle.update.proofs.MovedStore.{left_store}
use Rattle.unit.specs.declared.Reply.{Reply}
use Rattle.unit.specs.Calls.{Outcome, replied, written, step_outcome, command_outcome, pane_outcome, heard_reply, common_reply, origin_reply, command}
use Rattle.claims.specs.Journal.{Journal, move_to, after_command, after_accepted, feed}
use Rattle.claims.specs.Leaving.{leave_bytes, leave_outcome, MayLeave, in_field, in_row_or_column, Gone, ConsolesLeave}
use Rattle.unit.proofs.Commanded.{held_refused, carried_out, carried}
use Rattle.unit.proofs.Answered.{Allowed, pair_allowed, pair_answered, pair_told}
use Rattle.claims.proofs.Absent.{absent_console}

-- what is true where a leave is accepted
record Accepted (store : List ℕ) (c : ℕ) : Type 0 where
  range : (c < console_count) × (0 < c)
  held : holds_store store ≡ true
  here : present (room_in store) c ≡ true
  other : some_other_descends (room_in store) c ≡ true

module _ (store : List ℕ) (c : ℕ) where
  abbrev leaving : Command
  leaving = Leave (record { 0 = c })

  accepted_is : Accepted store c → leave_outcome store c ≡ written 0 0 (encode (moved (room_in store) c none)) store
  unfolding command_bytes step clash_count
  accepted_is a = carried_out store leaving a.range a.held (leave_accepts (room_in store) (record { 0 = c }) a.here a.other)

  -- what the bytes of a leave that is answered with 0 say
  accepted : (leave_outcome store c).reply.answer ≡ 0 → Accepted store c
  unfolding kind_of shape_of operands_of number_at
  accepted h =
      let done = carried store (leave_bytes c) leaving refl h in
      let may = leave_accepted (room_in store) (record { 0 = c }) done.unrefused in
      record { range = done.range; held = done.held; here = may.0; other = may.1 }

  -- a console whose head is what it has in common with another may leave, and only such a one
  may_leave : Accepted store c → MayLeave store c
  may_leave a =
      let r = room_in store in
      let s = whole_sound store a.held in
      let d = some_descends r c a.other in
      let asked : (k : ℕ) → present r k ≡ true → Allowed store c k =
      λ k p. record { first = a.range.0; second = present_console r k s.sixteen p; held = a.held; here = a.here; there = p } in
      let own = pair_answered store c c (asked c a.here) in
      let both : common r c d.0 ≡ common r c c =
      common_meet r c d.0 (meet_behind r.versions (head r c) (head r d.0) d.1.descends) ∙ sym (common_self r s c a.here) in
      record {
        not_console0 = a.range.1;
        here = ap (λ (x : Reply). x.answer) own;
        other = d.0;
        another = d.1.other;
        in_common = pair_answered store c d.0 (asked d.0 d.1.here) ∙ ap (replied 0) both ∙ sym own;
      }

  may_accept : MayLeave store c → Accepted store c
  unfolding common_reply
  may_accept m =
      let r = room_in store in
      let d = m.other in
      let own = pair_allowed store c c refl m.here in
      let s = whole_sound store own.held in
      let two = pair_told store c d (common r c c) (m.in_common ∙ pair_answered store c c own) in
      let there = two.0.there in
      let found = s.meets c d own.here there in
      let same : found.0 ≡ head r c = sym (common_meet r c d found.1) ∙ two.1 ∙ common_self r s c own.here in
      record {
        range = (own.first, m.not_console0);
        held = own.held;
        here = own.here;
        other = some_of console_count (other_descends r c) d two.0.second
            (and_i _ _ (and_i _ _ there (not_i _ (ne_eqb d c m.another))) (rw same at found.1.second));
      }

outside_field : (c d i : ℕ) → in_field c d i ≡ false → (i ≡ common_at c d → ⊥) × (i ≡ common_at c d + 1 → ⊥)
outside_field c d i f = (eqb-false i _ (or_none_l _ _ f), eqb-false i _ (or_none_r (eqb i (common_at c d)) _ f))

-- the store that an accepted leave gives
module _ (store : List ℕ) (c : ℕ) (a : Accepted store c) where
  abbrev r : Room
  r = room_in store

  abbrev next : Room
  next = moved r c none

  abbrev after : List ℕ
  after = overwrite (encode next) store

  s : Sound r
  s = whole_sound store a.held

  next_sound : sound_room next ≡ true
  next_sound = facts_sound next (left_sound r s c a.range.0 a.range.1 a.other)

  after_held : holds_store after ≡ true
  after_held = holds_over next store next_sound

  after_room : room_in after ≡ next
  after_room = room_over next store next_sound

  -- it is the old one with the console's fields cleared
  cleared : put_head (put_others store c (λ k. 0) console_count) c 0 ≡ after
  cleared = left_store store a.held c a.range.0 a.range.1 a.other

  field_cleared : (j k i : ℕ) → j < console_count → k < console_count → common_field next j k ≡ 0 → in_field j k i ≡ true → get_or after i 0 ≡ 0
  field_cleared j k i jl kl none-common h =
      let stands = rw none-common at ((placed next (rw after_room at (whole_front after after_held))).commons j k jl kl) in
      let at : (n : ℕ) → n < 2 → i ≡ common_at j k + n → get_or after i 0 ≡ get_or (word 0) n 0 =
      λ n l e. ap (λ (m : ℕ). get_or after m 0) e ∙ stands.read n l in
      elim (or_split (eqb i (common_at j k)) _ h) [
        | inl e ↦ at 0 (omega arith) (omega (arith, eqb-true i (common_at j k) e))
        | inr e ↦ at 1 (omega arith) (eqb-true i (common_at j k + 1) e)
      ]

  row_column_cleared : (i : ℕ) → in_row_or_column c i ≡ true → get_or after i 0 ≡ 0
  row_column_cleared i h =
      let found = some_at console_count (λ d. in_field c d i || in_field d c i) h in
      let d = found.0 in
      elim (or_split (in_field c d i) (in_field d c i) found.2) [
        | inl e ↦ field_cleared c d i a.range.0 found.1 (left_row r s c a.range.0 d) e
        | inr e ↦ field_cleared d c i found.1 a.range.0 (left_column r s c a.range.0 d) e
      ]

  others_stay : (i : ℕ) → in_row_or_column c i ≡ false → get_or after i 0 ≡ get_or store i 0
  others_stay i f =
      let none_of : (d : ℕ) → d < console_count → in_field c d i || in_field d c i ≡ false =
      λ d l. refuted _ (λ t. clash (some_of console_count (λ d. in_field c d i || in_field d c i) d l t) f) in
      ap (λ (t : List ℕ). get_or t i 0) (sym cleared)
      ∙ table_kept store c (λ k. 0) 0 a.range.0 i
      (λ d l.
      let row = outside_field c d i (or_none_l _ _ (none_of d l)) in
      let column = outside_field d c i (or_none_r (in_field c d i) _ (none_of d l)) in
      (row.0, row.1, column.0, column.1))

  bytes_after : (i : ℕ) → get_or after i 0 ≡ cond (in_row_or_column c i) 0 (get_or store i 0)
  bytes_after i =
      elim (decide (in_row_or_column c i))
      [ inl t ↦ rw t (row_column_cleared i t) | inr f ↦ rw f (others_stay i f) ]

  panes_stay : (d : ℕ) → (d ≡ c → ⊥) → (viewer : Viewer) (output : List ℕ) → pane_outcome viewer after d output ≡ pane_outcome viewer store d output
  unfolding pane_outcome
  panes_stay d ne viewer output = rw (after_held, after_room, a.held, (slot_other r c none d ne).slot)

  same_count : (d : ℕ) → (d ≡ c → ⊥) → heard_count next d ≡ heard_count r d
  unfolding heard_count
  same_count d ne =
      ap (λ (h : ℕ). count_below (version_count r.versions) (λ v. is_entry r.versions v && ancestor r.versions v h)) (number (slot_other r c none d ne))

  heard_stays : (d : ℕ) → (d ≡ c → ⊥) → heard_reply after d ≡ heard_reply store d
  unfolding heard_reply
  heard_stays d ne = rw (after_held, after_room, a.held, same_count d ne, (slot_other r c none d ne).slot)

  commons_stay : (d e : ℕ) → (d ≡ c → ⊥) → (e ≡ c → ⊥) → common_reply after d e ≡ common_reply store d e
  unfolding common_reply common
  commons_stay d e dc ec = rw (after_held, after_room, a.held, (slot_other r c none d dc).slot, (slot_other r c none e ec).slot)

  origins_stay : (d k cell : ℕ) → (d ≡ c → ⊥) → origin_reply after d k cell ≡ origin_reply store d k cell
  unfolding origin_reply origin
  origins_stay d k cell ne = rw (after_held, after_room, a.held, (slot_other r c none d ne).slot)

  -- bytes whose command the room refuses as it did, and counts as it did, are answered as they were
  reply_stays : (bytes : List ℕ) → step_refusal next (command_in bytes) ≡ step_refusal r (command_in bytes)
      → clash_count next (command_in bytes) ≡ clash_count r (command_in bytes) → (command_outcome after bytes).reply ≡ (command_outcome store bytes).reply
  unfolding command_outcome step_outcome
  reply_stays bytes same count = go (decode bytes) refl
    where
      go : (d : Result Command ℕ) → decode bytes ≡ d → (step_outcome after d).reply ≡ (step_outcome store d).reply
      go (Err n) e = refl
      go (Ok k) e = rw (held_refused after k after_held, after_room, held_refused store k a.held, ← (whole_told bytes k e).1, same, count)

  gone : Gone store c after
  unfolding kind_of shape_of operands_of number_at clash_count
  gone = record {
    sound = after_held;
    same_length = ap length (sym cleared) ∙ table_length store c (λ k. 0) 0;
    bytes = bytes_after;
    absent = absent_console after after_held c a.range.0 (rw after_room (left_absent r s c a.range.0));
    panes = panes_stay;
    heard = heard_stays;
    commons = commons_stay;
    origins = origins_stay;
    merges = λ d e dc ec.
        reply_stays (merge_command ∷ d ∷ e ∷ []) (left_merge r s c a.range.0 a.other (record { 0 = d }) (record { 0 = e }) dc ec)
        (left_clashes r s c a.range.0 a.other (record { 0 = d }) (record { 0 = e }) dc ec);
    fast_forwards = λ d e dc ec.
        reply_stays (fast_forward_command ∷ d ∷ e ∷ []) (left_forward r s c a.range.0 a.other (record { 0 = d }) (record { 0 = e }) dc ec) refl;
  }

dropped : (c : ℕ) → (c < console_count) × (0 < c) → (j : Journal) → feed j (command (leave_bytes c)) 0 ≡ move_to j c none
unfolding feed after_accepted after_command command_bytes
dropped c range j = rw (bytes_decode (Leave (record { 0 = c })) range)

pub consoles_leave : ConsolesLeave
consoles_leave store c =
    record {
      accepted = λ m. ap (λ (o : Outcome). o.reply) (accepted_is store c (may_accept store c m));
      allowed = λ h. may_leave store c (accepted store c h);
      gone = λ h. let a = accepted store c h in rw (accepted_is store c a) (gone store c a);
      dropped = λ h. dropped c (accepted store c h).range;
    }
