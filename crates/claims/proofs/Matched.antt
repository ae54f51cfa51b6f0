-- After an opening or a resume that answered 0, and after every call since, the store holds a sound room, and the journal is that of the
-- room: its versions and its heads are the room's.
-- Assumes nothing.
use Prim.Native.Nat.{ℕ}
use mathlib.Core.Path.{◌≡◌, refl, sym, ◌∙◌, ap}
use mathlib.Core.Bool.{Bool, true, false, cond}
use mathlib.Core.List.{List, [], ◌∷◌, map}
use mathlib.Core.Option.{Option, none, some}
use native.Mathlib.Omega.{arith}
use borrow.Author.Tests.{eqb-true, not-false}
use lib.Dec.{eqb}
use lib.ListN.{length-map}
use Rattle.laws.proofs.Logic.{clash}
use Rattle.buffer.specs.Field.{overwrite}
use Rattle.command.specs.declared.Command.{Command}
use Rattle.command.specs.declared.Command.TheVariants.{Fork, Entry, Merge, FastForward, Leave, MakeHub}
use Rattle.std.specs.Prelude.{Result, Ok, Err}
use Rattle.refusal.specs.Refusal.{first_refusal}
use Rattle.command.specs.Decode.{decode}
use Rattle.refusal.proofs.Refusals.{none_applies}
use Rattle.command.proofs.Ranges.{decode_range}
use Rattle.room.specs.Room.{Room, open_settings, fresh}
use Rattle.room.specs.Sound.{sound_room}
use Rattle.room.specs.Step.{step}
use Rattle.room.proofs.Steps.{step_sound, fresh_sound}
use Rattle.store.specs.Layout.{encode, room_in, holds_store}
use Rattle.store.proofs.RoundTrip.{room_over, holds_over, holds_sound}
use Rattle.tape.specs.Tape.{Content, content_of, room_of}
use Rattle.unit.specs.Calls.{open_outcome, command_tests, step_outcome, command_outcome, resume_tests, resumed, resume_outcome, Call, opening, command, resume, question, answer_to, reply_to, store_after}
use Rattle.claims.specs.Journal.{Journal, made_by, opened, after_command, after_tape, after_accepted, feed}
use Rattle.claims.specs.Convergence.{begins, after_calls}
use Rattle.unit.proofs.Commanded.{held_refused}

-- the journal of a room: its versions, each as it was made, and its heads
abbrev pub journal_of : Room → Journal
journal_of r = record { versions = map made_by r.versions; heads = r.heads }

pub record Matched (store : List ℕ) (j : Journal) : Type 0 where
  pub holds : holds_store store ≡ true
  pub journal : journal_of (room_in store) ≡ j

-- a sound room written over a buffer
written_matched : (r : Room) (old : List ℕ) {j : Journal} → sound_room r ≡ true → journal_of r ≡ j → Matched (overwrite (encode r) old) j
written_matched r old s e = record { holds = holds_over r old s; journal = ap journal_of (room_over r old s) ∙ e }

opening_matched : (capacity : ℕ) (buffer : List ℕ) → (open_outcome capacity buffer).reply.answer ≡ 0
    → Matched (overwrite (encode (fresh capacity)) buffer) opened
unfolding open_outcome
opening_matched capacity buffer h =
    written_matched (fresh capacity) buffer (fresh_sound (open_settings capacity) (not-false _ (none_applies _ refl h).0)) refl

resume_matched : (t : Content) (j : Journal) (buffer : List ℕ) → (resumed (some t) buffer).reply.answer ≡ 0
    → Matched (overwrite (encode (room_of t)) buffer) (after_tape j (some t))
unfolding resumed after_tape
resume_matched t j buffer h =
    written_matched (room_of t) buffer (not-false _ (none_applies _ refl h).1.1.0) refl

-- a command takes the journal of a room to that of the next
step_journal : (r : Room) (c : Command) → journal_of (step r c) ≡ after_command (journal_of r) (Ok c)
unfolding step after_command
step_journal r (Fork new old) = refl
step_journal r (Entry console code strip operand) = cc (length-map r.versions made_by)
step_journal r (Merge receiver giver) = cc (length-map r.versions made_by)
step_journal r (FastForward receiver giver) = refl
step_journal r (Leave console) = refl
step_journal r MakeHub = refl

-- a call that changes both where it is accepted, and neither where it is refused
either_matched : {store store' : List ℕ} {j j' : Journal} (refusal : ℕ) → Matched store j → (refusal ≡ 0 → Matched store' j')
    → Matched (cond (eqb refusal 0) store' store) (cond (eqb refusal 0) j' j)
either_matched {store} {store'} {j} {j'} refusal m f = go (eqb refusal 0) (λ t. f (eqb-true refusal 0 t))
  where
    go : (b : Bool) → (b ≡ true → Matched store' j') → Matched (cond b store' store) (cond b j' j)
    go true f = f refl
    go false f = m

module _ (store : List ℕ) (j : Journal) (m : Matched store j) where
  -- a question changes neither
  asked : (b : Bool) → Matched store (cond b j j)
  asked true = m
  asked false = m

  resume_kept : (o : Option Content)
      → Matched (resumed o store).buffer (cond (eqb (resumed o store).reply.answer 0) (after_tape j o) j)
  unfolding resumed after_tape first_refusal
  resume_kept none = m
  resume_kept (some t) = either_matched (first_refusal (resume_tests (some t) store)) m (resume_matched t j store)

  command_matched : (s : List ℕ) (c : Command) → decode s ≡ Ok c → (step_outcome store (Ok c)).reply.answer ≡ 0
      → Matched (overwrite (encode (step (room_in store) c)) store) (after_command j (Ok c))
  unfolding step_outcome
  command_matched s c e h =
      let r = room_in store in
      let accepted = sym (held_refused store c m.holds) ∙ h in
      written_matched (step r c) store (step_sound r c (holds_sound store m.holds) (decode_range s c e) accepted)
      (step_journal r c ∙ ap (λ (k : Journal). after_command k (Ok c)) m.journal)

  command_kept : (s : List ℕ) (d : Result Command ℕ) → decode s ≡ d
      → Matched (step_outcome store d).buffer (cond (eqb (step_outcome store d).reply.answer 0) (after_command j d) j)
  unfolding step_outcome after_command
  command_kept s (Err n) e = either_matched n m (λ _. m)
  command_kept s (Ok c) e = either_matched (first_refusal (command_tests store c)) m (command_matched s c e)

  -- each call keeps them matched
  call_kept : (c : Call) → Matched (store_after store c) (feed j c (reply_to store c).answer)
  unfolding store_after feed reply_to after_accepted open_outcome command_outcome resume_outcome
  call_kept (opening capacity) = either_matched _ m (opening_matched capacity store)
  call_kept (command s) = command_kept s (decode s) refl
  call_kept (resume tape) = resume_kept (content_of tape)
  call_kept (question q) = asked (eqb (answer_to store q).reply.answer 0)

-- a list of calls
calls_kept : (store : List ℕ) (j : Journal) (calls : List Call) → Matched store j
    → Matched (after_calls store j calls).0 (after_calls store j calls).1
unfolding after_calls
calls_kept store j [] m = m
calls_kept store j (c ∷ calls) m =
    calls_kept (store_after store c) (feed j c (reply_to store c).answer) calls (call_kept store j m c)

-- the opening or the resume before the list, on any buffer and any journal
resume_first : (buffer : List ℕ) (j : Journal) (o : Option Content) → (resumed o buffer).reply.answer ≡ 0
    → Matched (resumed o buffer).buffer (after_tape j o)
unfolding resumed after_tape first_refusal
resume_first buffer j none h = absurd (omega arith)
resume_first buffer j (some t) h = rw h (resume_matched t j buffer h)

first_matched : (buffer : List ℕ) (before : Journal) (first : Call) → begins first ≡ true → (reply_to buffer first).answer ≡ 0
    → Matched (store_after buffer first) (feed before first 0)
unfolding store_after feed reply_to after_accepted open_outcome resume_outcome
first_matched buffer before (opening capacity) b h = rw h (opening_matched capacity buffer h)
first_matched buffer before (command s) b h = clash b refl
first_matched buffer before (resume tape) b h = resume_first buffer before (content_of tape) h
first_matched buffer before (question q) b h = clash b refl

pub matched : (buffer : List ℕ) (before : Journal) (first : Call) (calls : List Call) → begins first ≡ true → (reply_to buffer first).answer ≡ 0
    → let end : List ℕ × Journal = after_calls (store_after buffer first) (feed before first 0) calls in Matched end.0 end.1
matched buffer before first calls b h = calls_kept _ _ calls (first_matched buffer before first b h)
