-- When console 0 is made the hub, and what is true of the calls then: 17 never comes, the room is never stuck, and the consoles can be brought to one
-- head.
-- Assumes nothing.
use Prim.Native.Nat.{ℕ, pred, ◌≤◌}
use mathlib.Core.Path.{◌≡◌, refl, sym, ◌∙◌, ap}
use mathlib.Core.Logic.{◌⊎◌}
use mathlib.Core.Bool.{Bool, true, false, cond, not, ◌&&◌}
use mathlib.Core.List.{List, [], ◌∷◌, ◌++◌}
use borrow.Author.Tests.{eqb-true}
use lib.Dec.{eqb}
use lib.ListN.{length, length-map, drop}
use Rattle.laws.proofs.Logic.{clash, either, refuted, and_l, and_r, and_i, not_e}
use Rattle.buffer.specs.Field.{overwrite}
use Rattle.graph.proofs.Ancestor.{ancestor_trans}
use Rattle.refusal.specs.Refusal.{◌when◌, first_refusal}
use Rattle.refusal.proofs.Refusals.{lacks, not_given}
use Rattle.command.specs.declared.Kind.{Kind}
use Rattle.command.specs.declared.Kind.TheVariants as kind_is
use Rattle.command.specs.declared.Operands.{Operands}
use Rattle.command.specs.declared.Command.{Command}
use Rattle.command.specs.declared.Command.TheVariants.{MakeHub}
use Rattle.std.specs.Prelude.{Option as Found, Some, None, Result, Ok, Err}
use Rattle.command.specs.Code.{fork_command, merge_command, fast_forward_command, kind_of, shape_of, length_of, operands_of, number_at}
use Rattle.command.specs.Decode.{code_in, is_command_code, operands_in, code_tests, command_refusal, decode, command_bytes}
use Rattle.command.proofs.Ranges.{command_in, decode_range}
use Rattle.command.proofs.Encoded.{bytes_decode}
use Rattle.room.specs.Room.{Room, present, head}
use Rattle.room.specs.Sound.{can_make_hub, sound_room}
use Rattle.room.specs.Step.{state_tests, step_refusal, hub_made, step, clash_count}
use Rattle.room.specs.Mergeable.{stuck, number_of}
use Rattle.room.specs.Gathering.{consoles_in, versions_free, after_all, all_accepted, gathering}
use Rattle.room.proofs.Sound.{present_console, can_behind, behind_can}
use Rattle.room.proofs.Accepted.{through_hub, is_hub, fork_from, forward_accepted, merge_accepted, hub_accepted, hub_accepts}
use Rattle.room.proofs.Steps.{common_meet, common_self, step_sound}
use Rattle.room.proofs.Hub.{never_17, hub_kept, hub_again, hub_can, never_stuck_lem}
use Rattle.room.proofs.Gathering.{AllInRange, gathering_ranged, hub_gathers}
use Rattle.store.specs.Layout.{encode, room_in, holds_store}
use Rattle.store.proofs.RoundTrip.{encode_length, room_over, holds_over, holds_sound, holds_front}
use Rattle.store.proofs.Whole.{whole_sound}
use Rattle.update.proofs.HubStore.{hub_store}
use Rattle.unit.specs.declared.Reply.{Reply}
use Rattle.unit.specs.Calls.{Outcome, Call, opening, command, resume, question, replied, written, command_tests, step_outcome, command_outcome, common_reply, mergeable_reply, pause_outcome, paused_tape, resume_outcome, reply_to, store_after, store_after_all}
use Rattle.claims.specs.Journal.{Journal, after_command, after_accepted, feed}
use Rattle.claims.specs.Mergeable.{answer_for, head_reply}
use Rattle.claims.specs.Convergence.{begins, after_calls}
use Rattle.claims.specs.Hub.{hub_bytes, hub_outcome, has_hub, all_answered, none_begins, as_calls, gather_calls, Gathered, MayMakeHub, MakingHub}
use Rattle.unit.proofs.Answered.{Allowed, pair_answered, pair_told}
use Rattle.unit.proofs.Commanded.{held_refused, answered_by, carried_out, carried}
use Rattle.claims.proofs.Mergeable.{told, one_head_lem, agree_said}
use Rattle.unit.proofs.RoundTrip.{size_of, store_over, paused_resumes}

-- a room with a hub, written over a buffer
over_hub : (r : Room) (old : List ℕ) → sound_room r ≡ true → r.settings.hub ≡ true → has_hub (overwrite (encode r) old) ≡ true
over_hub r old s hub = and_i _ _ (holds_over r old s) (ap (λ (x : Room). x.settings.hub) (room_over r old s) ∙ hub)

-- a list of commands that a room accepts, as calls: each is answered with 0, and the room in the bytes goes along
record Ran (store : List ℕ) (commands : List Command) : Type 0 where
  answered : all_answered store (as_calls commands) ≡ true
  held : holds_store (store_after_all store (as_calls commands)) ≡ true
  room : room_in (store_after_all store (as_calls commands)) ≡ after_all (room_in store) commands

ran : (commands : List Command) (store : List ℕ) → holds_store store ≡ true → AllInRange commands → all_accepted (room_in store) commands ≡ true → Ran store commands
unfolding all_answered store_after_all after_all all_accepted reply_to store_after
ran [] store held range all = record { answered = refl; held = held; room = refl }
ran (c ∷ commands) store held range all =
    let r = room_in store in
    let accepted = eqb-true (step_refusal r c) 0 (and_l _ _ all) in
    let sound = step_sound r c (holds_sound store held) range.0 accepted in
    let next : List ℕ = overwrite (encode (step r c)) store in
    let at = room_over (step r c) store sound in
    let rest = ran commands next (holds_over (step r c) store sound) range.1 (rw at (and_r (eqb (step_refusal r c) 0) _ all)) in
    let out = carried_out store c range.0 held accepted in
    record {
      answered = ap (λ (o : Outcome). eqb o.reply.answer 0 && all_answered o.buffer (as_calls commands)) out ∙ rest.answered;
      held = ap (λ (o : Outcome). holds_store (store_after_all o.buffer (as_calls commands))) out ∙ rest.held;
      room = ap (λ (o : Outcome). room_in (store_after_all o.buffer (as_calls commands))) out ∙ rest.room ∙ ap (λ (x : Room). after_all x commands) at;
    }

after_hub : (commands : List Command) (r : Room) → r.settings.hub ≡ true → (after_all r commands).settings.hub ≡ true
unfolding after_all
after_hub [] r hub = hub
after_hub (c ∷ commands) r hub = after_hub commands (step r c) (hub_kept r c hub)

-- no byte string is refused with 17 before a store is looked at
bytes_lack_17 : (k : Found Kind) (code : ℕ) (o : Operands) (one two : Bool) → lacks 17 (1 when one ∷ 2 when two ∷ code_tests k code o) ≡ true
bytes_lack_17 (Some kind_is.Fork) code o one two = refl
bytes_lack_17 (Some kind_is.Entry) code o one two = refl
bytes_lack_17 (Some kind_is.Merge) code o one two = refl
bytes_lack_17 (Some kind_is.FastForward) code o one two = refl
bytes_lack_17 (Some kind_is.Leave) code o one two = refl
bytes_lack_17 (Some kind_is.MakeHub) code o one two = refl
bytes_lack_17 None code o one two = refl

bytes_not_17 : (bytes : List ℕ) → command_refusal bytes ≡ 17 → ⊥
unfolding command_refusal
bytes_not_17 bytes h = not_given 17 _ (bytes_lack_17 (kind_of (code_in bytes)) (code_in bytes) (operands_in bytes) (not (is_command_code (code_in bytes))) (not (eqb (length bytes) (length_of (shape_of (code_in bytes)))))) h

-- a store whose hub is console 0
module _ (store : List ℕ) (h : has_hub store ≡ true) where
  abbrev r : Room
  r = room_in store

  held : holds_store store ≡ true
  held = and_l _ _ h

  hub : r.settings.hub ≡ true
  hub = and_r (holds_store store) _ h

  sound : sound_room r ≡ true
  sound = holds_sound store held

  -- a command keeps it
  command_keeps : (bytes : List ℕ) (d : Result Command ℕ) → decode bytes ≡ d → has_hub (step_outcome store d).buffer ≡ true
  unfolding step_outcome
  command_keeps bytes (Err n) e = either (λ (x : List ℕ). has_hub x ≡ true) (eqb n 0) (λ _. h) h
  command_keeps bytes (Ok c) e =
      either (λ (x : List ℕ). has_hub x ≡ true) (eqb (first_refusal (command_tests store c)) 0)
      (λ t.
      let accepted = sym (held_refused store c held) ∙ eqb-true _ 0 t in
      over_hub (step r c) store (step_sound r c sound (decode_range bytes c e) accepted) (hub_kept r c hub))
      h

  call_keeps : (c : Call) → begins c ≡ false → has_hub (store_after store c) ≡ true
  unfolding store_after command_outcome
  call_keeps (opening capacity) b = clash refl b
  call_keeps (command bytes) b = command_keeps bytes (decode bytes) refl
  call_keeps (resume tape) b = clash refl b
  call_keeps (question q) b = h

  same_bytes : overwrite (encode r) store ≡ store
  same_bytes = ap (λ (n : ℕ). encode r ++ drop n store) (encode_length r sound) ∙ sym (holds_front store held)

  again : hub_outcome store ≡ record { reply = replied 0 0; buffer = store }
  unfolding command_bytes step clash_count
  again =
      carried_out store MakeHub tt held (hub_accepts r (hub_can r sound hub))
      ∙ (let kept = ap (λ (x : Room). overwrite (encode x) store) (hub_again r hub) ∙ same_bytes in λ i. record { reply = replied 0 0; buffer = kept i })

  -- what is accepted goes through it
  merges : (c d : ℕ) → answer_for store merge_command c d ≡ 0 → (c ≡ 0) ⊎ (d ≡ 0)
  unfolding kind_of shape_of operands_of number_at
  merges c d accepted = through_hub r c d hub (merge_accepted r _ _ (carried store (merge_command ∷ c ∷ d ∷ []) _ refl accepted).unrefused).take.through

  forwards : (c d : ℕ) → answer_for store fast_forward_command c d ≡ 0 → (c ≡ 0) ⊎ (d ≡ 0)
  unfolding kind_of shape_of operands_of number_at
  forwards c d accepted = through_hub r c d hub (forward_accepted r _ _ (carried store (fast_forward_command ∷ c ∷ d ∷ []) _ refl accepted).unrefused).through

  forks : (new old : ℕ) → answer_for store fork_command new old ≡ 0 → old ≡ 0
  unfolding kind_of shape_of operands_of number_at
  forks new old accepted = is_hub r old hub (fork_from r _ _ (carried store (fork_command ∷ new ∷ old ∷ []) _ refl accepted).unrefused)

  never_given : (bytes : List ℕ) → (command_outcome store bytes).reply.answer ≡ 17 → ⊥
  never_given bytes seventeen = go (eqb (command_refusal bytes) 0) (sym (answered_by store bytes) ∙ seventeen)
    where
      go : (b : Bool) → cond b (first_refusal (command_tests store (command_in bytes))) (command_refusal bytes) ≡ 17 → ⊥
      go true e = never_17 r (command_in bytes) sound hub (sym (held_refused store (command_in bytes) held) ∙ e)
      go false e = bytes_not_17 bytes e

  not_stuck : mergeable_reply store ≡ replied 0 (number_of stuck) → ⊥
  not_stuck said = never_stuck_lem r sound hub (ap (λ (x : Reply). x.count) (sym (told store held) ∙ said))

  -- the consoles brought to one head
  here_as_before : (after : List ℕ) → holds_store after ≡ true → ((c : ℕ) → present (room_in after) c ≡ present r c) → (c : ℕ)
      → (head_reply after c).answer ≡ (head_reply store c).answer
  unfolding common_reply
  here_as_before after after_held same c = rw (after_held, held, same c)

  gathered : pred (consoles_in (room_in store)) ≤ versions_free (room_in store) → Gathered store (store_after_all store (gather_calls store))
  gathered free =
      let g = hub_gathers r sound hub free in
      let run = ran (gathering r) store held (gathering_ranged r) g.accepted in
      let after : List ℕ = store_after_all store (gather_calls store) in
      record {
        few = rw (length-map (gathering r) (λ (c : Command). command (command_bytes c))) g.few;
        answered = run.answered;
        hub = and_i _ _ run.held (ap (λ (x : Room). x.settings.hub) run.room ∙ after_hub (gathering r) r hub);
        one_head = one_head_lem after run.held (rw run.room g.one_head);
        agree = told after run.held ∙ ap (replied 0) (agree_said after run.held (rw run.room g.one_head));
        all_here = here_as_before after run.held (λ c. ap (λ (x : Room). present x c) run.room ∙ g.all_here c);
      }

  resumes : (output buffer : List ℕ) → (pause_outcome store output).reply.answer ≡ 0 → size_of store ≤ length buffer
      → ((resume_outcome (paused_tape store output) buffer).reply ≡ replied 0 0) × (has_hub (resume_outcome (paused_tape store output) buffer).buffer ≡ true)
  resumes output buffer paused fits =
      let back = paused_resumes store output buffer paused fits in
      let front = ap (λ (o : Outcome). o.buffer) back ∙ sym (store_over store held buffer) in
      (ap (λ (o : Outcome). o.reply) back, ap has_hub front ∙ over_hub r buffer sound hub)

-- the store afterwards is that of demand 3, whatever journal is fed along
pub store_alone : (calls : List Call) (store : List ℕ) (j : Journal) → (after_calls store j calls).0 ≡ store_after_all store calls
unfolding after_calls store_after_all
store_alone [] store j = refl
store_alone (c ∷ calls) store j = store_alone calls (store_after store c) _

calls_keep : (calls : List Call) (store : List ℕ) → has_hub store ≡ true → none_begins calls ≡ true → has_hub (store_after_all store calls) ≡ true
unfolding store_after_all none_begins
calls_keep [] store h none = h
calls_keep (c ∷ calls) store h none =
    calls_keep calls (store_after store c) (call_keeps store h c (not_e _ (and_l _ _ none))) (and_r (not (begins c)) _ none)

-- any bytes
module _ (store : List ℕ) where
  -- a console that is answered about is asked about again
  both_asked : holds_store store ≡ true → (c d : ℕ) → present (room_in store) c ≡ true → present (room_in store) d ≡ true → Allowed store c d
  both_asked held c d p q =
      let sixteen = (whole_sound store held).sixteen in
      record { first = present_console (room_in store) c sixteen p; second = present_console (room_in store) d sixteen q; held = held; here = p; there = q }

  may_can : MayMakeHub store → can_make_hub (room_in store) ≡ true
  may_can may =
      let r = room_in store in
      let s = whole_sound store may.sound in
      behind_can r s.sixteen s.meets (λ c d w two p q a b.
      let m = s.meets c d p q in
      let own = pair_answered store 0 0 (both_asked may.sound 0 0 s.first s.first) ∙ ap (replied 0) (common_self r s 0 s.first) in
      let both = pair_answered store c d (both_asked may.sound c d p q) ∙ ap (replied 0) (common_meet r c d m.1) in
      ancestor_trans r.versions w m.0 (head r 0) (m.1.lowest w a b) (may.behind_hub c d m.0 (head r 0) two both own))

  can_may : holds_store store ≡ true → can_make_hub (room_in store) ≡ true → MayMakeHub store
  can_may held can =
      let r = room_in store in
      let s = whole_sound store held in
      record {
        sound = held;
        behind_hub = λ c d v h two said own.
            let both = pair_told store c d v said in
            let m = s.meets c d both.0.here both.0.there in
            let is-v : m.0 ≡ v = sym (common_meet r c d m.1) ∙ both.1 in
            let is-h : head r 0 ≡ h = sym (common_self r s 0 s.first) ∙ (pair_told store 0 0 h own).1 in
            rw (← is-v, ← is-h)
            (can_behind r s.sixteen s.meets can c d m.0 two both.0.here both.0.there m.1.first m.1.second);
      }

  accepted_is : holds_store store ≡ true → can_make_hub (room_in store) ≡ true → hub_outcome store ≡ written 0 0 (encode (hub_made (room_in store))) store
  unfolding command_bytes step clash_count
  accepted_is held can = carried_out store MakeHub tt held (hub_accepts (room_in store) can)

  allowed : (hub_outcome store).reply.answer ≡ 0 → MayMakeHub store
  unfolding kind_of shape_of operands_of number_at
  allowed accepted =
      let done = carried store hub_bytes MakeHub refl accepted in
      can_may done.held (hub_accepted (room_in store) done.unrefused)

  refused : holds_store store ≡ true → (MayMakeHub store → ⊥) → hub_outcome store ≡ record { reply = replied 23 0; buffer = store }
  unfolding command_outcome step_outcome command_bytes state_tests first_refusal
  refused held never =
      let cannot = refuted (can_make_hub (room_in store)) (λ t. never (can_may held t)) in
      rw (bytes_decode MakeHub tt, held, cannot)

  journal_kept_lem : (j : Journal) (answer : ℕ) → feed j (command hub_bytes) answer ≡ j
  unfolding feed after_accepted after_command command_bytes
  journal_kept_lem j answer = rw (bytes_decode MakeHub tt) (either (λ (x : Journal). x ≡ j) (eqb answer 0) (λ _. refl) refl)

  made : (hub_outcome store).reply.answer ≡ 0 → has_hub (hub_outcome store).buffer ≡ true
  unfolding step
  made accepted =
      let may = allowed accepted in
      let can = may_can may in
      rw (accepted_is may.sound can)
      (over_hub (hub_made (room_in store)) store (step_sound (room_in store) MakeHub (holds_sound store may.sound) tt (hub_accepts (room_in store) can)) refl)

  pub making_hub : MakingHub store
  making_hub = record {
    accepted = λ may. ap (λ (o : Outcome). o.reply) (accepted_is may.sound (may_can may));
    allowed = allowed;
    refused = refused;
    made = made;
    written = λ accepted.
        let may = allowed accepted in
        let can = may_can may in
        ap (λ (o : Outcome). o.buffer) (accepted_is may.sound can) ∙ sym (hub_store store may.sound can);
    journal_kept = journal_kept_lem;
    through = λ h.
        record {
          for_good = λ calls. calls_keep calls store h;
          again = again store h;
          merges = merges store h;
          fast_forwards = forwards store h;
          forks = forks store h;
          never17 = never_given store h;
          never_stuck = not_stuck store h;
          gathers = gathered store h;
          resumes = resumes store h;
        };
  }
