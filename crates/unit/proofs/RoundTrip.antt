-- The round trips of pause and resume, as their callers see them: what resume takes, pause writes again byte for byte; what pause writes,
-- resume takes back into any buffer that is long enough, whose front is then the paused store to the byte.
-- Assumes nothing.
use Prim.Native.Nat.{ℕ, ◌≤◌}
use mathlib.Core.Path.{◌≡◌, refl, ◌∙◌, ap}
use mathlib.Core.Bool.{true}
use mathlib.Core.List.{List, ◌++◌}
use mathlib.Core.Option.{Option, none, some}
use native.Mathlib.Omega.{arith}
use lib.ListN.{length, take, drop}
use lib.Seq.{take-append_seam, take_at}
use borrow.Author.Tests.{le-ltb, not-false}
use Rattle.buffer.specs.Field.{overwrite}
use Rattle.refusal.specs.Refusal.{first_refusal}
use Rattle.refusal.proofs.Refusals.{none_applies}
use Rattle.room.specs.Room.{Room}
use Rattle.store.specs.Layout.{store_size, encode, room_in, holds_store}
use Rattle.store.proofs.RoundTrip.{encode_length, room_over, holds_over, holds_sound, holds_front}
use Rattle.tape.specs.Tape.{Content, content_of, content_tests, content_refusal, room_of, tape_of}
use Rattle.buffer.proofs.Parts.{Bytes}
use Rattle.tape.proofs.Accepted.{Accepted, accepted, accepts}
use Rattle.tape.proofs.RoundTrip.{content_from, tape_content, tape_room, tape_accepted, tape_forth}
use Rattle.unit.specs.Calls.{replied, written, room_tests, pause_outcome, paused_tape, resume_tests, resumed, resume_outcome}
use Rattle.unit.proofs.Answered.{buffer_fits, buffer_allowed}

-- a pause that is not refused, of a store whose tape is known
pub pause_done : (store output tape : List ℕ) → holds_store store ≡ true → tape_of (room_in store) ≡ tape → length tape ≤ length output
    → pause_outcome store output ≡ written 0 (length tape) tape output
unfolding pause_outcome first_refusal
pause_done store output tape held e fits = rw (held, e, le-ltb (length output) (length tape) fits)

-- what a pause that answers 0 was lent
pub pause_allowed : (store output : List ℕ) → (pause_outcome store output).reply.answer ≡ 0
    → (holds_store store ≡ true) × (length (tape_of (room_in store)) ≤ length output)
unfolding pause_outcome
pause_allowed store output h =
    let n = buffer_allowed (room_tests store) output (length (tape_of (room_in store))) refl h in
    (not-false (holds_store store) (none_applies _ refl n.0).0, n.1)

-- and what it wrote: the tape of the store
pub paused_tape_lem : (store output : List ℕ) → (pause_outcome store output).reply.answer ≡ 0
    → (holds_store store ≡ true) × (paused_tape store output ≡ tape_of (room_in store))
paused_tape_lem store output h =
    let a = pause_allowed store output h in
    let tape = tape_of (room_in store) in
    (a.0, rw (pause_done store output tape a.0 refl a.1) (take-append_seam tape (drop (length tape) output)))

-- the tests of resume on what a tape says
module _ (t : Content) (store : List ℕ) where
  resume_allowed : first_refusal (resume_tests (some t) store) ≡ 0 → Accepted t
  unfolding content_refusal
  resume_allowed h = accepted t (buffer_allowed (content_tests t) store (store_size t.settings.capacity) refl h).0

  resume_none : Accepted t → store_size t.settings.capacity ≤ length store → first_refusal (resume_tests (some t) store) ≡ 0
  unfolding content_refusal
  resume_none a fits = buffer_fits (content_tests t) store (store_size t.settings.capacity) refl (accepts t a) fits

-- what resume takes, pause writes again
content_pauses : (tape store output : List ℕ) (o : Option Content) → Bytes tape → content_of tape ≡ o → (resumed o store).reply.answer ≡ 0
    → length tape ≤ length output → pause_outcome (resumed o store).buffer output ≡ written 0 (length tape) tape output
unfolding resumed first_refusal
content_pauses tape store output none bytes e h fits = absurd (omega arith)
content_pauses tape store output (some t) bytes e h fits =
    let a = resume_allowed t store h in
    rw h
    (pause_done (overwrite (encode (room_of t)) store) output tape (holds_over (room_of t) store a.room)
    (ap tape_of (room_over (room_of t) store a.room) ∙ tape_forth tape t bytes e (accepts t a)) fits)

pub resumed_pauses : (tape store output : List ℕ) → Bytes tape → (resume_outcome tape store).reply.answer ≡ 0 → length tape ≤ length output
    → pause_outcome (resume_outcome tape store).buffer output ≡ written 0 (length tape) tape output
unfolding resume_outcome
resumed_pauses tape store output bytes h fits = content_pauses tape store output (content_of tape) bytes refl h fits

-- the bytes that the store at the front of a buffer takes
abbrev pub size_of : List ℕ → ℕ
size_of store = store_size (room_in store).settings.capacity

-- what pause writes, resume takes back: the tape of a store, resumed into any buffer that is long enough
module _ (store : List ℕ) (held : holds_store store ≡ true) (buffer : List ℕ) where
  pub store_over : overwrite (encode (room_in store)) buffer ≡ take (size_of store) store ++ drop (size_of store) buffer
  store_over =
      let r = room_in store in
      let n = size_of store in
      let l = encode_length r (holds_sound store held) in
      let front : take n store ≡ encode r = ap (take n) (holds_front store held) ∙ take_at (encode r) (drop n store) n l in
      rw (l, front)

  tape_resumes : size_of store ≤ length buffer → resume_outcome (tape_of (room_in store)) buffer
      ≡ record { reply = replied 0 0; buffer = take (size_of store) store ++ drop (size_of store) buffer }
  unfolding resume_outcome resumed
  tape_resumes fits =
      let r = room_in store in
      let s = holds_sound store held in
      let t = content_from r in
      let over = ap (λ (x : Room). overwrite (encode x) buffer) (tape_room r s) ∙ store_over in
      rw (tape_content r s, resume_none t buffer (accepted t (tape_accepted r s)) fits) (λ i. record { reply = replied 0 0; buffer = over i })

pub paused_resumes : (store output buffer : List ℕ) → (pause_outcome store output).reply.answer ≡ 0 → size_of store ≤ length buffer
    → resume_outcome (paused_tape store output) buffer
    ≡ record { reply = replied 0 0; buffer = take (size_of store) store ++ drop (size_of store) buffer }
paused_resumes store output buffer h fits = let p = paused_tape_lem store output h in rw p.1 (tape_resumes store p.0 buffer fits)
