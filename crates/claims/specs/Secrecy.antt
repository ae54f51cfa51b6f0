-- "Replace entries 06 to 08, or 04 and 05 of marks 8 to 15, by others of those kinds at the same versions: every student's pane must be the same to the
-- byte." As a theorem on values: of graphs, rooms, stores and lists of calls that agree but for such entries.
use Rattle.std.specs.Prelude.{ℕ, ◌≡◌, true, List, [], ◌∷◌}
use Rattle.std.proofs.Math.Option.{some}
use Rattle.board.specs.declared.Viewer.TheVariants.{Student}
use Rattle.board.specs.Pane.{student_pane}
use Rattle.graph.specs.declared.Console.{Console}
use Rattle.graph.specs.declared.Strip.{Strip}
use Rattle.graph.specs.Graph.{Graph}
use Rattle.command.specs.declared.Command.TheVariants.{Entry}
use Rattle.std.specs.Prelude.{Ok}
use Rattle.command.specs.Decode.{decode}
use Rattle.room.specs.Room.{Room}
use Rattle.room.specs.Boards.{board_of}
use Rattle.room.specs.Unseen.{is_unseen, GraphsAgree, RoomsAgree}
use Rattle.store.specs.Layout.{room_in, holds_store}
use Rattle.tape.specs.Tape.{Content, content_of, room_of}
use Rattle.unit.specs.Calls.{Question, Call, command, resume, question, board_shown, pane_outcome, pause_outcome, paused_tape, reply_to, store_after, store_after_all, answers_of}
use Rattle.claims.specs.Convergence.{begins}

-- the bytes of a command are decoded to an entry on this console that a student does not see
pub record EntersUnseen (console : Console) (bytes : List ℕ) : Type 0 where
  pub code : ℕ
  pub strip : Strip
  pub operand : ℕ
  pub decoded : decode bytes ≡ Ok (Entry console code strip operand)
  pub unseen : is_unseen code operand ≡ true

-- two tapes say rooms that agree
pub record TapesAgree (tape other : List ℕ) : Type 0 where
  pub content : Content
  pub other_content : Content
  pub read : content_of tape ≡ some content
  pub other_read : content_of other ≡ some other_content
  pub agree : RoomsAgree (room_of content) (room_of other_content)

-- Two calls agree but for what a student does not see: they are the same, or both make such an entry on the same console, or resume tapes that agree, or
-- ask, as a question changes no store, whatever is lent with it.
pub data CallsAgree : Call → Call → Type 0 where
  same : (c : Call) → CallsAgree c c
  entries : {console : Console} {bytes other : List ℕ} → EntersUnseen console bytes → EntersUnseen console other → CallsAgree (command bytes) (command other)
  tapes : {tape other : List ℕ} → TapesAgree tape other → CallsAgree (resume tape) (resume other)
  questions : (p q : Question) → CallsAgree (question p) (question q)

-- two lists of calls, call by call
pub data ListsAgree : List Call → List Call → Type 0 where
  none : ListsAgree [] []
  next : {c d : Call} {calls others : List Call} → CallsAgree c d → ListsAgree calls others → ListsAgree (c ∷ calls) (d ∷ others)

-- two buffers: both hold sound stores, whose rooms agree, or neither does
pub record StoresAgree (store other : List ℕ) : Type 0 where
  pub held : holds_store store ≡ holds_store other
  pub agree : holds_store store ≡ true → RoomsAgree (room_in store) (room_in other)

-- the claim
pub record KeptFromStudents : Type 0 where
  -- of graphs: the student's pane of each version
  pub versions : (g h : Graph) → GraphsAgree g h → (v : ℕ) → student_pane (board_of g v) ≡ student_pane (board_of h v)
  -- of rooms: that of each console
  pub rooms : (r s : Room) → RoomsAgree r s → (console : ℕ) → student_pane (board_shown r console) ≡ student_pane (board_shown s console)
  -- of the exported call: its reply, and the lent pane to the byte
  pub stores : (store other : List ℕ) → StoresAgree store other
      → (console : ℕ) (output : List ℕ) → pane_outcome Student store console output ≡ pane_outcome Student other console output
  -- two lists on one buffer begin so
  pub itself : (store : List ℕ) → StoresAgree store store
  -- of lists of calls that were answered alike: they leave stores that agree, and so, by `stores`, panes that are the same
  pub calls : (store other : List ℕ) (calls others : List Call) → StoresAgree store other → ListsAgree calls others
      → answers_of store calls ≡ answers_of other others → StoresAgree (store_after_all store calls) (store_after_all other others)
  -- any two buffers agree after the same opening, or resumes of tapes that agree, which both answered with 0
  pub begun : (store other : List ℕ) (c d : Call) → CallsAgree c d → begins c ≡ true → (reply_to store c).answer ≡ 0 → (reply_to other d).answer ≡ 0
      → StoresAgree (store_after store c) (store_after other d)
  -- and the tapes of two stores that agree do
  pub paused : (store other output lent : List ℕ) → StoresAgree store other → (pause_outcome store output).reply.answer ≡ 0
      → (pause_outcome other lent).reply.answer ≡ 0 → TapesAgree (paused_tape store output) (paused_tape other lent)
