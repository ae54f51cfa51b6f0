-- Stores that agree but for what a student does not see show every student the same, and calls that agree and are answered alike keep them so.
-- Assumes nothing.
use Prim.Native.Nat.{ℕ}
use mathlib.Core.Path.{◌≡◌, refl, sym, ◌∙◌, ap}
use mathlib.Core.Bool.{Bool, true, false, cond, not}
use mathlib.Core.List.{List, [], ◌∷◌}
use mathlib.Core.Logic.{inl, inr}
use mathlib.Core.Option.{Option, none, some}
use native.Mathlib.Omega.{arith}
use borrow.Author.Tests.{eqb-true, not-false}
use lib.Dec.{eqb}
use lib.ListN.{get_or, drop}
use Rattle.laws.proofs.Logic.{clash, decide}
use Rattle.buffer.specs.Field.{overwrite}
use Rattle.board.specs.declared.Viewer.TheVariants.{Student}
use Rattle.board.specs.Board.{board_size}
use Rattle.graph.specs.declared.Console.{Console}
use Rattle.graph.specs.Graph.{is_some}
use Rattle.refusal.specs.Refusal.{◌when◌, first_refusal}
use Rattle.refusal.proofs.Refusals.{none_applies, none_given}
use Rattle.command.specs.declared.Command.{Command}
use Rattle.std.specs.Prelude.{Result, Ok, Err}
use Rattle.command.specs.Code.{is_console}
use Rattle.command.specs.Decode.{decode}
use Rattle.command.proofs.Ranges.{decode_range}
use Rattle.room.specs.Room.{Room, open_settings, fresh}
use Rattle.room.specs.Sound.{sound_room}
use Rattle.room.specs.Step.{step}
use Rattle.room.specs.Unseen.{RoomsAgree}
use Rattle.room.proofs.Steps.{step_sound, fresh_sound}
use Rattle.room.proofs.Unseen.{same_panes, rooms_same, same_shown, entries_agree, step_agree}
use Rattle.store.specs.Layout.{encode, room_in, holds_store}
use Rattle.store.proofs.RoundTrip.{room_over, holds_over, holds_sound}
use Rattle.tape.specs.Tape.{Content, content_of, room_of}
use Rattle.tape.proofs.RoundTrip.{content_from, tape_content, tape_room}
use Rattle.unit.specs.Calls.{Call, opening, command, resume, question, written, buffer_tests, open_tests, resume_tests, open_outcome, step_outcome, command_outcome, resumed, resume_outcome, pane_outcome, pause_outcome, paused_tape, reply_to, store_after, store_after_all, replies_to, answers_of}
use Rattle.claims.specs.Convergence.{begins}
use Rattle.claims.specs.Secrecy.{EntersUnseen, TapesAgree, CallsAgree, same, entries, tapes, questions, ListsAgree, next, StoresAgree, KeptFromStudents}
use Rattle.claims.specs.Secrecy as lists
use Rattle.unit.proofs.Commanded.{held_refused}
use Rattle.unit.proofs.RoundTrip.{paused_tape_lem}

-- what the call shows of two stores that agree; where neither buffer holds one, both give 3 or 11
module _ (store other : List ℕ) (a : StoresAgree store other) (console : ℕ) (output : List ℕ) where
  held_same : RoomsAgree (room_in store) (room_in other) → pane_outcome Student store console output ≡ pane_outcome Student other console output
  unfolding pane_outcome
  held_same rooms = λ i.
      written
      (first_refusal
      (buffer_tests (3 when not (is_console console) ∷ 11 when not (a.held i) ∷ 12 when not (is_some (get_or (rooms.heads i) console none)) ∷ []) output board_size))
      board_size (same_shown rooms console i) output

  none_held : holds_store store ≡ false → pane_outcome Student store console output ≡ pane_outcome Student other console output
  unfolding pane_outcome first_refusal
  none_held h =
      let h' : holds_store other ≡ false = sym a.held ∙ h in
      elim (decide (is_console console)) [ inl c ↦ rw (h, h', c) | inr c ↦ rw c ]

  panes_same : pane_outcome Student store console output ≡ pane_outcome Student other console output
  panes_same = elim (decide (holds_store store)) [ inl h ↦ held_same (a.agree h) | inr h ↦ none_held h ]

-- sound rooms that agree, each written over a buffer
over_agree : (r s : Room) (store other : List ℕ) → sound_room r ≡ true → sound_room s ≡ true → RoomsAgree r s
    → StoresAgree (overwrite (encode r) store) (overwrite (encode s) other)
over_agree r s store other p q a = record {
  held = holds_over r store p ∙ sym (holds_over s other q);
  agree = λ _. rw (room_over r store p, room_over s other q) a;
}

-- a call that changes both stores where it is accepted, and neither where it is refused
either_agree : {store other store' other' : List ℕ} {m n : ℕ} → StoresAgree store other → m ≡ n → (m ≡ 0 → n ≡ 0 → StoresAgree store' other')
    → StoresAgree (cond (eqb m 0) store' store) (cond (eqb n 0) other' other)
either_agree {store} {other} {store'} {other'} {m} {n} a e f = rw (← e) (go (eqb m 0) (λ t. f (eqb-true m 0 t) (sym e ∙ eqb-true m 0 t)))
  where
    go : (b : Bool) → (b ≡ true → StoresAgree store' other') → StoresAgree (cond b store' store) (cond b other' other)
    go true f = f refl
    go false f = a

opened_agree : (capacity : ℕ) (store other : List ℕ) → first_refusal (open_tests capacity store) ≡ 0
    → StoresAgree (overwrite (encode (fresh capacity)) store) (overwrite (encode (fresh capacity)) other)
opened_agree capacity store other h =
    let sound = fresh_sound (open_settings capacity) (not-false _ (none_applies _ refl h).0) in
    over_agree (fresh capacity) (fresh capacity) store other sound sound (rooms_same (fresh capacity))

resumed_agree : (t u : Content) (store other : List ℕ) → RoomsAgree (room_of t) (room_of u) → first_refusal (resume_tests (some t) store) ≡ 0
    → first_refusal (resume_tests (some u) other) ≡ 0 → StoresAgree (overwrite (encode (room_of t)) store) (overwrite (encode (room_of u)) other)
resumed_agree t u store other a h k =
    over_agree (room_of t) (room_of u) store other (not-false _ (none_applies _ refl h).1.1.0) (not-false _ (none_applies _ refl k).1.1.0) a

module _ {store other : List ℕ} (a : StoresAgree store other) where
  -- two commands that take rooms that agree to rooms that agree
  commands_agree : (bytes others : List ℕ) (c d : Command) → decode bytes ≡ Ok c → decode others ≡ Ok d
      → (RoomsAgree (room_in store) (room_in other) → RoomsAgree (step (room_in store) c) (step (room_in other) d))
      → (step_outcome store (Ok c)).reply.answer ≡ (step_outcome other (Ok d)).reply.answer
      → StoresAgree (step_outcome store (Ok c)).buffer (step_outcome other (Ok d)).buffer
  unfolding step_outcome
  commands_agree bytes others c d p q steps e =
      either_agree a e
      (λ h k.
      let held = not-false _ (none_given 11 _ _ (omega arith) h).0 in
      let held' = sym a.held ∙ held in
      over_agree (step (room_in store) c) (step (room_in other) d) store other
      (step_sound (room_in store) c (holds_sound store held) (decode_range bytes c p) (sym (held_refused store c held) ∙ h))
      (step_sound (room_in other) d (holds_sound other held') (decode_range others d q) (sym (held_refused other d held') ∙ k))
      (steps (a.agree held)))

  entered_agree : {console : Console} {bytes others : List ℕ} → EntersUnseen console bytes → EntersUnseen console others
      → (command_outcome store bytes).reply.answer ≡ (command_outcome other others).reply.answer
      → StoresAgree (command_outcome store bytes).buffer (command_outcome other others).buffer
  unfolding command_outcome
  entered_agree {console} {bytes} {others} m n e =
      rw (m.decoded, n.decoded)
      (commands_agree bytes others _ _ m.decoded n.decoded
      (λ r. entries_agree r console m.code m.strip m.operand n.code n.strip n.operand m.unseen n.unseen)
      (rw (m.decoded, n.decoded) at e))

  -- the same bytes
  command_agree : (bytes : List ℕ) (d : Result Command ℕ) → decode bytes ≡ d → (step_outcome store d).reply.answer ≡ (step_outcome other d).reply.answer
      → StoresAgree (step_outcome store d).buffer (step_outcome other d).buffer
  unfolding step_outcome
  command_agree bytes (Err n) p e = either_agree {m = n} {n = n} a refl (λ _ _. a)
  command_agree bytes (Ok c) p e = commands_agree bytes bytes c c p p (λ r. step_agree r c) e

  tapes_agree : (t u : Content) → RoomsAgree (room_of t) (room_of u) → (resumed (some t) store).reply.answer ≡ (resumed (some u) other).reply.answer
      → StoresAgree (resumed (some t) store).buffer (resumed (some u) other).buffer
  unfolding resumed
  tapes_agree t u rooms e = either_agree a e (resumed_agree t u store other rooms)

  tape_agree : (o : Option Content) → (resumed o store).reply.answer ≡ (resumed o other).reply.answer → StoresAgree (resumed o store).buffer (resumed o other).buffer
  unfolding resumed first_refusal
  tape_agree none e = a
  tape_agree (some t) e = tapes_agree t t (rooms_same (room_of t)) e

  told_agree : {tape others : List ℕ} → TapesAgree tape others → (resume_outcome tape store).reply.answer ≡ (resume_outcome others other).reply.answer
      → StoresAgree (resume_outcome tape store).buffer (resume_outcome others other).buffer
  unfolding resume_outcome
  told_agree t e = rw (t.read, t.other_read) (tapes_agree t.content t.other_content t.agree (rw (t.read, t.other_read) at e))

  -- each two calls that agree and are answered alike
  call_agree : {c d : Call} → CallsAgree c d → (reply_to store c).answer ≡ (reply_to other d).answer → StoresAgree (store_after store c) (store_after other d)
  unfolding store_after reply_to open_outcome command_outcome resume_outcome
  call_agree (same (opening capacity)) e = either_agree a e (λ h _. opened_agree capacity store other h)
  call_agree (same (command bytes)) e = command_agree bytes (decode bytes) refl e
  call_agree (same (resume tape)) e = tape_agree (content_of tape) e
  call_agree (same (question q)) e = a
  call_agree (entries m n) e = entered_agree m n e
  call_agree (tapes t) e = told_agree t e
  call_agree (questions p q) e = a

calls_agree : {store other : List ℕ} {calls others : List Call} → StoresAgree store other → ListsAgree calls others → answers_of store calls ≡ answers_of other others
    → StoresAgree (store_after_all store calls) (store_after_all other others)
unfolding store_after_all replies_to
calls_agree a lists.none e = a
calls_agree {store = store} {other = other} a (next {c = first} {d = second} c more) e =
    calls_agree {store = store_after store first} {other = store_after other second}
    (call_agree a c (ap (λ (l : List ℕ). get_or l 0 0) e)) more (ap (drop 1) e)

-- the call that begins a room, on any two buffers
begun_contents : (t u : Content) (store other : List ℕ) → RoomsAgree (room_of t) (room_of u) → (resumed (some t) store).reply.answer ≡ 0
    → (resumed (some u) other).reply.answer ≡ 0 → StoresAgree (resumed (some t) store).buffer (resumed (some u) other).buffer
unfolding resumed
begun_contents t u store other a h k = rw (h, k) (resumed_agree t u store other a h k)

begun_resumed : (o : Option Content) (store other : List ℕ) → (resumed o store).reply.answer ≡ 0 → (resumed o other).reply.answer ≡ 0
    → StoresAgree (resumed o store).buffer (resumed o other).buffer
unfolding resumed first_refusal
begun_resumed none store other h k = absurd (omega arith)
begun_resumed (some t) store other h k = begun_contents t t store other (rooms_same (room_of t)) h k

begun_told : {tape others : List ℕ} → TapesAgree tape others → (store other : List ℕ) → (resume_outcome tape store).reply.answer ≡ 0
    → (resume_outcome others other).reply.answer ≡ 0 → StoresAgree (resume_outcome tape store).buffer (resume_outcome others other).buffer
unfolding resume_outcome
begun_told t store other h k =
    rw (t.read, t.other_read) (begun_contents t.content t.other_content store other t.agree (rw t.read at h) (rw t.other_read at k))

begun_agree : (store other : List ℕ) (c d : Call) → CallsAgree c d → begins c ≡ true → (reply_to store c).answer ≡ 0 → (reply_to other d).answer ≡ 0
    → StoresAgree (store_after store c) (store_after other d)
unfolding store_after reply_to open_outcome resume_outcome
begun_agree store other _ _ (same (opening capacity)) b h k = rw (h, k) (opened_agree capacity store other h)
begun_agree store other _ _ (same (command bytes)) b h k = clash b refl
begun_agree store other _ _ (same (resume tape)) b h k = begun_resumed (content_of tape) store other h k
begun_agree store other _ _ (same (question q)) b h k = clash b refl
begun_agree store other _ _ (entries m n) b h k = clash b refl
begun_agree store other _ _ (tapes t) b h k = begun_told t store other h k
begun_agree store other _ _ (questions p q) b h k = clash b refl

-- the tapes of two pauses
paused_agree : (store other output lent : List ℕ) → StoresAgree store other → (pause_outcome store output).reply.answer ≡ 0
    → (pause_outcome other lent).reply.answer ≡ 0 → TapesAgree (paused_tape store output) (paused_tape other lent)
paused_agree store other output lent a h k =
    let r = room_in store in
    let s = room_in other in
    let p = paused_tape_lem store output h in
    let q = paused_tape_lem other lent k in
    record {
      content = content_from r;
      other_content = content_from s;
      read = ap content_of p.1 ∙ tape_content r (holds_sound store p.0);
      other_read = ap content_of q.1 ∙ tape_content s (holds_sound other q.0);
      agree = rw (tape_room r (holds_sound store p.0), tape_room s (holds_sound other q.0)) (a.agree p.0);
    }

pub kept_from_students : KeptFromStudents
kept_from_students = record {
  versions = λ g h a v. same_panes a v;
  rooms = λ r s a console. same_shown a console;
  stores = panes_same;
  itself = λ store. record { held = refl; agree = λ _. rooms_same (room_in store) };
  calls = λ store other calls others a l e. calls_agree a l e;
  begun = begun_agree;
  paused = paused_agree;
}
