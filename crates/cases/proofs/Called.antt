-- The rows that step a room are about the calls: on a buffer that begins with the bytes of a sound room, a command answers what the rows say
-- and leaves the bytes of the room that they go on with.
-- Assumes nothing.
use Prim.Native.Nat.{ℕ, ◌≤◌, ◌<◌}
use mathlib.Core.Path.{◌≡◌, refl, sym, ◌∙◌, ap}
use mathlib.Core.Bool.{Bool, true, false, cond}
use mathlib.Core.List.{List, [], ◌∷◌, ◌++◌, map}
use mathlib.Core.Option.{Option, none, some, get_or}
use lib.Dec.{eqb}
use lib.ListN.{length, drop}
use lib.Seq.{drop_at}
use borrow.Author.Tests.{eqb-true, lt-ltb, not-false}
use Rattle.buffer.specs.Field.{overwrite}
use Rattle.board.specs.Board.{strip_count, cell_count, cell_of}
use Rattle.board.specs.declared.Viewer.{Viewer}
use Rattle.laws.proofs.Logic.{either}
use Rattle.graph.specs.Graph.{is_some}
use Rattle.refusal.specs.Refusal.{first_refusal}
use Rattle.command.specs.Code.{console_count}
use Rattle.command.specs.declared.Command.{Command}
use Rattle.command.specs.declared.Command.TheVariants.{Fork, Entry, Merge, FastForward, Leave, MakeHub}
use Rattle.std.specs.Prelude.{Result, Ok, Err}
use Rattle.command.specs.Decode.{decode}
use Rattle.refusal.proofs.Refusals.{none_applies}
use Rattle.command.proofs.Ranges.{decode_range}
use Rattle.room.specs.Room.{Room, head_of, head, present, common, open_settings, fresh}
use Rattle.room.specs.Sound.{sound_room}
use Rattle.room.specs.Origin.{origin}
use Rattle.room.specs.Mergeable.{mergeable}
use Rattle.room.specs.Step.{absent, step_refusal, step, clash_count}
use Rattle.room.proofs.Sound.{present_console, sound_facts}
use Rattle.room.proofs.Steps.{common_self, step_sound, fresh_sound}
use Rattle.store.specs.Layout.{store_size, board_at, encode}
use Rattle.store.proofs.RoundTrip.{encode_length, room_encode, holds_encode}
use Rattle.tape.specs.Tape.{tape_of}
use Rattle.unit.specs.declared.Reply.{Reply}
use Rattle.unit.specs.Calls.{Outcome, replied, written, open_outcome, step_outcome, command_outcome, pause_outcome, common_reply, origin_reply, board_shown, view_part, view_at_reply, view_refusal_reply, mergeable_reply, pane_outcome, command, reply_to, store_after, replies_to}
use Rattle.unit.specs.View.{View, view_of, refused_view}
use Rattle.claims.specs.Journal.{Journal, feed}
use Rattle.claims.specs.Convergence.{after_calls}
use Rattle.unit.proofs.Answered.{origin_answered}
use Rattle.unit.proofs.Commanded.{held_refused}
use Rattle.unit.proofs.RoundTrip.{pause_done}
use Rattle.cases.specs.Run.{answer_in, count_in, room_after, made, replies}
use Rattle.cases.specs.Requests.{view_in, pane_in}
use Rattle.cases.specs.Called.{head_reply, Called}

-- the bytes of a sound room, written over those of another of the same capacity
replaced : (r n : Room) (rest : List ℕ) → sound_room r ≡ true → sound_room n ≡ true → n.settings.capacity ≡ r.settings.capacity
    → overwrite (encode n) (encode r ++ rest) ≡ encode n ++ rest
replaced r n rest s t e =
    ap (λ (tail : List ℕ). encode n ++ tail)
    (drop_at (encode r) rest (length (encode n)) (encode_length r s ∙ sym (encode_length n t ∙ ap store_size e)))

-- no command changes the capacity
step_capacity : (r : Room) (c : Command) → (step r c).settings.capacity ≡ r.settings.capacity
unfolding step
step_capacity r (Fork new old) = refl
step_capacity r (Entry console code strip operand) = refl
step_capacity r (Merge receiver giver) = refl
step_capacity r (FastForward receiver giver) = refl
step_capacity r (Leave console) = refl
step_capacity r MakeHub = refl

-- and each leaves a sound room
after_sound : (r : Room) (c : List ℕ) (d : Result Command ℕ) → decode c ≡ d → sound_room r ≡ true → sound_room (room_after r d) ≡ true
unfolding room_after
after_sound r c (Err n) e s = s
after_sound r c (Ok k) e s =
    either (λ (n : Room). sound_room n ≡ true) (eqb (step_refusal r k) 0) (λ t. step_sound r k s (decode_range c k e) (eqb-true _ 0 t)) s

module _ (r : Room) (rest : List ℕ) (s : sound_room r ≡ true) where
  step_called : (c : List ℕ) (d : Result Command ℕ) → decode c ≡ d
      → step_outcome (encode r ++ rest) d ≡ record { reply = replied (answer_in r d) (count_in r d); buffer = encode (room_after r d) ++ rest }
  unfolding step_outcome answer_in count_in room_after
  step_called c (Err n) e = λ i. record { reply = replied n 0; buffer = go (eqb n 0) i }
    where
      go : (b : Bool) → cond b (overwrite [] (encode r ++ rest)) (encode r ++ rest) ≡ encode r ++ rest
      go true = refl
      go false = refl
  step_called c (Ok k) e =
      let kept = go (eqb (step_refusal r k) 0) (λ t. step_sound r k s (decode_range c k e) (eqb-true (step_refusal r k) 0 t)) in
      rw (held_refused (encode r ++ rest) k (holds_encode r rest s), room_encode r rest s) (λ i. record { reply = replied (step_refusal r k) (clash_count r k); buffer = kept i })
    where
      go : (b : Bool) → (b ≡ true → sound_room (step r k) ≡ true)
          → cond b (overwrite (encode (step r k)) (encode r ++ rest)) (encode r ++ rest) ≡ encode (cond b (step r k) r) ++ rest
      go true f = replaced r (step r k) rest s (f refl) (step_capacity r k)
      go false f = refl

  -- a command: its reply, and the buffer afterwards
  command_called : (c : List ℕ) → command_outcome (encode r ++ rest) c
      ≡ record { reply = replied (answer_in r (decode c)) (count_in r (decode c)); buffer = encode (room_after r (decode c)) ++ rest }
  unfolding command_outcome
  command_called c = step_called c (decode c) refl

  -- a pause
  pause_called : (output : List ℕ) → length (tape_of r) ≤ length output
      → pause_outcome (encode r ++ rest) output ≡ written 0 (length (tape_of r)) (tape_of r) output
  pause_called output fits = pause_done (encode r ++ rest) output (tape_of r) (holds_encode r rest s) (ap tape_of (room_encode r rest s)) fits

  -- a head: the common version of a console with itself
  head_told : (c : ℕ) → c < console_count → (o : Option ℕ) → head_of r c ≡ o → common_reply (encode r ++ rest) c c ≡ head_reply o
  unfolding common_reply first_refusal
  head_told c l none e = rw (holds_encode r rest s, room_encode r rest s, lt-ltb c console_count l, e)
  head_told c l (some v) e =
      let own : common r c c ≡ v = common_self r (sound_facts r s) c (ap is_some e) ∙ ap (λ (o : Option ℕ). get_or o 0) e in
      rw (holds_encode r rest s, room_encode r rest s, lt-ltb c console_count l, own, e)

  head_called : (c : ℕ) → c < console_count → common_reply (encode r ++ rest) c c ≡ head_reply (head_of r c)
  head_called c l = head_told c l (head_of r c) refl

  -- the origin of a cell
  origin_called : (c k cell : ℕ) → present r c ≡ true → k < strip_count → cell < cell_count
      → origin_reply (encode r ++ rest) c k cell ≡ replied 0 (origin r c k (cell_of cell))
  origin_called c k cell p is_strip_lem is_cell_lem =
      rw (room_encode r rest s) at
      (origin_answered (encode r ++ rest) c k cell
      record {
        is_console_lem = present_console r c (sound_facts r s).sixteen p;
        is_strip_lem = is_strip_lem;
        is_cell_lem = is_cell_lem;
        held = holds_encode r rest s;
        here = rw (room_encode r rest s) p;
      })

  -- which two can merge or fast-forward
  pair_called : mergeable_reply (encode r ++ rest) ≡ replied 0 (mergeable r)
  unfolding mergeable_reply first_refusal
  pair_called = rw (holds_encode r rest s, room_encode r rest s)

  -- the view of a console
  view_called : (other : List ℕ) (c : ℕ) → c < console_count
      → (view_of (encode r ++ rest) other c 0 ≡ view_in r c) × (view_of other (encode r ++ rest) c 1 ≡ view_in r c)
  unfolding view_part view_at_reply view_refusal_reply first_refusal
  view_called other c l =
      let e = go (absent r c) (board_shown r c) (board_at (head r c)) in
      rw (holds_encode r rest s, room_encode r rest s, lt-ltb c console_count l) (e, e)
    where
      go : (b : Bool) (bytes : List ℕ) (at : ℕ) → let n : ℕ = cond b 12 0 in
          ◌≡◌ {A = View} record { bytes = cond (eqb n 0) bytes []; at_reply = replied n at; refusal_reply = replied n 0 }
          (cond b (refused_view 12) record { bytes = bytes; at_reply = replied 0 at; refusal_reply = replied 0 0 })
      go true bytes at = refl
      go false bytes at = refl

  -- its panes
  pane_called : (viewer : Viewer) (c : ℕ) → c < console_count → (lent : List ℕ) → pane_outcome viewer (encode r ++ rest) c lent ≡ pane_in viewer r c lent
  unfolding pane_outcome first_refusal
  pane_called viewer c l lent = rw (holds_encode r rest s, room_encode r rest s, lt-ltb c console_count l)

-- a list of commands, one call after the other: the buffer afterwards, the replies, and the room
module _ (rest : List ℕ) where
  made_called : (r : Room) → sound_room r ≡ true → (cs : List (List ℕ)) (j : Journal)
      → (after_calls (encode r ++ rest) j (map command cs)).0 ≡ encode (made r cs) ++ rest
  unfolding after_calls made store_after reply_to
  made_called r s [] j = refl
  made_called r s (c ∷ cs) j =
      ap (λ (o : Outcome). (after_calls o.buffer (feed j (command c) o.reply.answer) (map command cs)).0) (command_called r rest s c)
      ∙ made_called (room_after r (decode c)) (after_sound r c (decode c) refl s) cs _

  replies_called : (r : Room) → sound_room r ≡ true → (cs : List (List ℕ)) → replies_to (encode r ++ rest) (map command cs) ≡ replies r cs
  unfolding replies_to replies store_after reply_to
  replies_called r s [] = refl
  replies_called r s (c ∷ cs) =
      ap (λ (o : Outcome). o.reply ∷ replies_to o.buffer (map command cs)) (command_called r rest s c)
      ∙ ap (λ (later : List Reply). replied (answer_in r (decode c)) (count_in r (decode c)) ∷ later)
      (replies_called (room_after r (decode c)) (after_sound r c (decode c) refl s) cs)

made_sound : (r : Room) → sound_room r ≡ true → (cs : List (List ℕ)) → sound_room (made r cs) ≡ true
unfolding made
made_sound r s [] = s
made_sound r s (c ∷ cs) = made_sound (room_after r (decode c)) (after_sound r c (decode c) refl s) cs

pub called : (r : Room) (rest : List ℕ) (commands : List (List ℕ)) → sound_room r ≡ true → Called r rest commands
called r rest commands s =
    let after = made_sound r s commands in
    record {
      answered = replies_called rest r s commands;
      stored = made_called rest r s commands;
      paused = pause_called (made r commands) rest after;
      heads = head_called (made r commands) rest after;
      origins = origin_called (made r commands) rest after;
      pair = pair_called (made r commands) rest after;
      views = view_called (made r commands) rest after;
      panes = pane_called (made r commands) rest after;
    }

-- an opening gives such a buffer
pub opened_called : (capacity : ℕ) (buffer : List ℕ) → (open_outcome capacity buffer).reply.answer ≡ 0
    → ((open_outcome capacity buffer).buffer ≡ encode (fresh capacity) ++ drop (store_size capacity) buffer) × (sound_room (fresh capacity) ≡ true)
unfolding open_outcome
opened_called capacity buffer h =
    let s = fresh_sound (open_settings capacity) (not-false _ (none_applies _ refl h).0) in
    (rw (h, encode_length (fresh capacity) s), s)
