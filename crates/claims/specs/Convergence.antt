-- Demand 3, "one claim about the whole list": what holds of the store and of the journal after any list of calls, refused ones included,
-- from a store that an accepted opening or an accepted resume has just given. Of the store it says that its bytes hold a sound store,
-- whose heads are the journal's, and speaks otherwise by what the calls answer; heard, holds and leads are the journal's.
use Rattle.std.specs.Prelude.{ℕ, ◌≤◌, ◌<◌, ◌≡◌, Bool, true, false, ◌&&◌, List, [], ◌∷◌, length}
use Rattle.std.proofs.Math.Option.{some}
use Rattle.buffer.specs.Field.{word_at}
use Rattle.board.specs.Board.{strip_count, board_size, calls_at, cell_count, cell_of, writing_code}
use Rattle.board.specs.declared.Viewer.{Viewer}
use Rattle.command.specs.Code.{console_count}
use Rattle.store.specs.Layout.{room_in, holds_store}
use Rattle.unit.specs.Calls.{Call, opening, command, resume, question, replied, reply_to, store_after, pane_outcome, board_outcome, heard_reply, common_reply, origin_reply}
use Rattle.claims.specs.Journal.{Journal, entered, is_present, head_number, feed, leads, made_as, holds, has_heard, common_to, entries_heard, calls_heard}
use Rattle.claims.specs.Absent.{Absent}

-- the store and the journal after a list of calls
unfoldable pub after_calls : List ℕ → Journal → List Call → List ℕ × Journal
after_calls store journal [] = (store, journal)
after_calls store journal (c ∷ calls) = after_calls (store_after store c) (feed journal c (reply_to store c).answer) calls

-- "The opening or resume before the list begins it."
abbrev pub begins : Call → Bool
begins (opening capacity) = true
begins (command c) = false
begins (resume tape) = true
begins (question q) = false

-- the common version of two consoles: the question answers m; it holds exactly the entries that both have heard, it is common to both, and
-- every version common to both leads to it
pub record Common (store : List ℕ) (j : Journal) (c d m : ℕ) : Type 0 where
  pub answered : common_reply store c d ≡ replied 0 m
  pub held : (e : ℕ) → holds j m e ≡ (has_heard j c e && has_heard j d e)
  pub common : common_to j c d m ≡ true
  pub last : (v : ℕ) → common_to j c d v ≡ true → leads j.versions v m ≡ true

-- the origin of a cell of a console's board
pub record Origin (store : List ℕ) (j : Journal) (c k cell v : ℕ) : Type 0 where
  pub answered : origin_reply store c k cell ≡ replied 0 v
  pub heard : 0 < v → has_heard j c v ≡ true
  pub entry : 0 < v → (p : ℕ) × (made_as j.versions v ≡ some (entered p (writing_code (cell_of cell)) k))

pub record Converged (store : List ℕ) (j : Journal) : Type 0 where
  pub sound : holds_store store ≡ true
  -- "After the list the store's present consoles and their heads are the book's."
  pub heads : (room_in store).heads ≡ j.heads
  -- consoles that heard the same entries are on the same version, with boards alike to the byte; so are the student's panes
  pub alike : (c d : ℕ) → is_present j c ≡ true → is_present j d ≡ true → ((e : ℕ) → has_heard j c e ≡ has_heard j d e)
      → (head_number j c ≡ head_number j d) × ((viewer : Viewer) (output : List ℕ) → pane_outcome viewer store c output ≡ pane_outcome viewer store d output)
  pub commons : (c d : ℕ) → is_present j c ≡ true → is_present j d ≡ true → (m : ℕ) × Common store j c d m
  -- "The call counter is the strip's 16 bits at offset 6": it is the number of call entries heard for that strip
  pub calls : (c k : ℕ) → is_present j c ≡ true → k < strip_count → (output : List ℕ) → board_size ≤ length output
      → ((board_outcome store c output).reply ≡ replied 0 board_size) × (word_at (board_outcome store c output).buffer (calls_at k) ≡ calls_heard j c k)
  -- heard counts are the number of entries heard
  pub heard : (c : ℕ) → is_present j c ≡ true → heard_reply store c ≡ replied 0 (entries_heard j c)
  -- where a level or heading comes from is answered; above 0 it is an entry that the console has heard, on that strip, with the code that
  -- writes the cell. That it wrote the value shown is `OriginsTraced`: the journal has no operands.
  pub origins : (c k cell : ℕ) → is_present j c ≡ true → k < strip_count → cell < cell_count → (v : ℕ) × Origin store j c k cell v
  -- a console for which the journal has no head, such as one that went home, is absent from the store
  pub absent : (c : ℕ) → c < console_count → is_present j c ≡ false → Absent store c

-- the claim: any bytes in the lent buffer, any journal, an opening or a resume that answered 0, and any list of calls after it
abbrev pub Demand3 : Type 0
Demand3 = (buffer : List ℕ) (before : Journal) (first : Call) (calls : List Call) → begins first ≡ true → (reply_to buffer first).answer ≡ 0
    → let end : List ℕ × Journal = after_calls (store_after buffer first) (feed before first 0) calls in Converged end.0 end.1
