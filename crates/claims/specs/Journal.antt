-- "The book of demand 3": here the journal. "It holds the versions in order, each with its parents and an entry's code and strip, and a
-- head for each present console. Nothing in it is read from the store."
use Rattle.std.specs.Prelude.{ℕ, suc, Bool, true, false, cond, ◌&&◌, ◌||◌, List, [], ◌∷◌, map, eqb, length, get_or, set, replicate}
use Rattle.std.proofs.Math.Option
use Rattle.std.proofs.Math.Option.{Option, none, some}
use Rattle.board.specs.Board.{call_entry}
use Rattle.graph.specs.Below.{count_below}
use Rattle.graph.specs.declared.Node.{Node}
use Rattle.graph.specs.declared.Node.TheVariants as node_is
use Rattle.graph.specs.Graph.{is_some}
use Rattle.command.specs.declared.Command.TheVariants.{Fork, Entry, Merge, FastForward, Leave, MakeHub}
use Rattle.std.specs.Prelude.{Result, Ok, Err}
use Rattle.command.specs.declared.Command.{Command}
use Rattle.command.specs.Code.{console_count}
use Rattle.command.specs.Decode.{decode}
use Rattle.tape.specs.Tape.{Content, content_of, head_slots}
use Rattle.unit.specs.Calls.{Call, opening, command, resume, question}

-- a version after version 0
pub data Made : Type 0 where
  -- its parent, its code and its strip
  entered : ℕ → ℕ → ℕ → Made
  -- its two parents
  merged : ℕ → ℕ → Made

pub record Journal : Type 0 where
  -- the newest first
  pub versions : List Made
  pub heads : List (Option ℕ)

-- the head of console c, or none while it is absent
abbrev pub slot_of : Journal → ℕ → Option ℕ
slot_of j c = get_or j.heads c none

abbrev pub is_present : Journal → ℕ → Bool
is_present j c = is_some (slot_of j c)

-- the number of a present console's head
abbrev pub head_number : Journal → ℕ → ℕ
head_number j c = Option.get_or (slot_of j c) 0

-- the number of the next version
abbrev pub next_version : Journal → ℕ
next_version j = suc (length j.versions)

-- console c moves to the head given, or has none any more
abbrev pub move_to : Journal → ℕ → Option ℕ → Journal
move_to j c h = record { versions = j.versions; heads = set j.heads c h }

-- console c moves to a new version
abbrev pub add_version : Journal → ℕ → Made → Journal
add_version j c m = record { versions = m ∷ j.versions; heads = set j.heads c (some (next_version j)) }

-- "Opening: version 0 without parent, console 0 on it, nothing else."
abbrev pub opened : Journal
opened = record { versions = []; heads = set (replicate console_count none) 0 (some 0) }

-- "02 to 08: the next version, its parent the console's head; the console moves to it. Merge: the next version, its parents the
-- receiver's and the giver's head; the receiver moves to it. Fork: the new console gets the old one's head. Fast-forward: the receiver
-- gets the giver's." "Code 0B with one console removes it"; "meanwhile the store has no common for it, and the book of demand 3 no head".
-- 0C: "It never changes the book."
unfoldable pub after_command : Journal → Result Command ℕ → Journal
after_command j (Ok (Entry console code strip operand)) =
    add_version j console.0 (entered (head_number j console.0) code strip.0)
after_command j (Ok (Merge receiver giver)) =
    add_version j receiver.0 (merged (head_number j receiver.0) (head_number j giver.0))
after_command j (Ok (Fork new old)) = move_to j new.0 (slot_of j old.0)
after_command j (Ok (FastForward receiver giver)) = move_to j receiver.0 (slot_of j giver.0)
after_command j (Ok (Leave console)) = move_to j console.0 none
after_command j (Ok MakeHub) = j
after_command j (Err n) = j

-- "Resume: version 0 anew, then a version for each record 21 or 22 in order, with the parents, code and strip written there, then the
-- heads of records 23."
abbrev pub made_by : Node → Made
made_by (node_is.Entry p code strip operand) = entered p.0 code strip.0
made_by (node_is.Merge p q) = merged p.0 q.0

unfoldable pub after_tape : Journal → Option Content → Journal
after_tape j none = j
after_tape j (some t) = record { versions = map made_by t.versions; heads = head_slots t.heads }

-- the journal after an accepted call; a pause is among the questions
unfoldable pub after_accepted : Journal → Call → Journal
after_accepted j (opening capacity) = opened
after_accepted j (command c) = after_command j (decode c)
after_accepted j (resume tape) = after_tape j (content_of tape)
after_accepted j (question q) = j

-- "The book is fed, of each call, its kind, its command or tape, and whether it answered 0." "A refused call, a pause or a question changes
-- nothing."
unfoldable pub feed : Journal → Call → ℕ → Journal
feed j c answer = cond (eqb answer 0) (after_accepted j c) j

-- "A version leads to itself and to each version one of whose parents it leads to."
abbrev pub to_parent : (ℕ → Bool) → Made → Bool
to_parent f (entered p code strip) = f p
to_parent f (merged p q) = f p || f q

unfoldable pub leads : List Made → ℕ → ℕ → Bool
leads [] u v = eqb v 0 && eqb u 0
leads (m ∷ before) u v =
    cond (eqb v (suc (length before))) (eqb u v || to_parent (leads before u) m) (leads before u v)

-- version v as it was made; none for version 0, and for a number that names no version
unfoldable pub made_as : List Made → ℕ → Option Made
made_as [] v = none
made_as (m ∷ before) v = cond (eqb v (suc (length before))) (some m) (made_as before v)

abbrev pub was_entered : Option Made → Bool
was_entered none = false
was_entered (some (entered p code strip)) = true
was_entered (some (merged p q)) = false

-- "It holds the entries that lead to it.": entry e is held by version v
abbrev pub holds : Journal → ℕ → ℕ → Bool
holds j v e = was_entered (made_as j.versions e) && leads j.versions e v

-- "A console has heard what its head holds."
abbrev pub has_heard : Journal → ℕ → ℕ → Bool
has_heard j c e = holds j (head_number j c) e

-- "A version common to two consoles leads to both heads."
abbrev pub common_to : Journal → ℕ → ℕ → ℕ → Bool
common_to j c d v = leads j.versions v (head_number j c) && leads j.versions v (head_number j d)

-- the number of entries heard
abbrev pub entries_heard : Journal → ℕ → ℕ
entries_heard j c = count_below (next_version j) (has_heard j c)

-- "a call entry is one with code 06": of strip k
abbrev pub call_of : ℕ → Option Made → Bool
call_of k none = false
call_of k (some (entered p code strip)) = eqb code call_entry && eqb strip k
call_of k (some (merged p q)) = false

abbrev pub calls_heard : Journal → ℕ → ℕ → ℕ
calls_heard j c k = count_below (next_version j) (λ e. call_of k (made_as j.versions e) && has_heard j c e)
