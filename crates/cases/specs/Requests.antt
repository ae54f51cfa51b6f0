-- The cases of the customer's requests (docs/CHANGES.md has their titles), worked out by hand: what the definitions give for each, and what the
-- request says.
use Rattle.std.specs.Prelude.{ℕ, zero, suc, ◌*◌, cond, List, [], ◌∷◌, ◌++◌, length, drop, replicate, get_or}
use Rattle.buffer.specs.Field.{part}
use Rattle.board.specs.Board.{strip_count, board_size, cell_of}
use Rattle.board.specs.declared.Viewer.{Viewer}
use Rattle.board.specs.declared.Viewer.TheVariants.{Instructor, Student}
use Rattle.board.specs.Pane.{pane_of}
use Rattle.refusal.specs.Refusal.{◌when◌, first_refusal}
use Rattle.command.specs.declared.Command.{Command}
use Rattle.command.specs.Decode.{command_bytes}
use Rattle.room.specs.Room.{Room, fresh}
use Rattle.room.specs.Origin.{origin, value_shown}
use Rattle.room.specs.Step.{absent}
use Rattle.room.specs.Mergeable.{mergeable}
use Rattle.room.specs.Gathering.{after_all, gathering}
use Rattle.unit.specs.declared.Reply.{Reply}
use Rattle.tape.specs.Tape.{tape_of}
use Rattle.unit.specs.Calls.{Outcome, written, too_short, board_shown, command_outcome, resume_outcome, origin_reply, mergeable_reply, pane_outcome}
use Rattle.unit.specs.View.{View, view_of, refused_view, shown_view}
use Rattle.cases.specs.Run.{Case, ◌gives◌, fork, level, heading, mark, unmark, call, alert, quiet, merge, forward, leave, hub, made, answers, counts, nowhere, on, heads_shown, session}
use Rattle.cases.specs.Starred.{crossed, stuck}

-- One: the origin of a cell, and the value shown there
abbrev pub traced : Room → ℕ → ℕ → ℕ → List ℕ
traced r c k cell = origin r c k (cell_of cell) ∷ value_shown r c k (cell_of cell) ∷ []

-- a reply: its answer and its count
abbrev pub reply_shown : Reply → List ℕ
reply_shown r = r.answer ∷ r.count ∷ []

abbrev pub after : List (List ℕ) → Room
after commands = made (fresh 64) commands

unfoldable pub origin_cases : List Case
origin_cases =
    -- an own entry (version 1), under an entry that writes another cell
    (traced (after (level 0 5 100 ∷ call 0 5 ∷ [])) 0 5 0 gives 1 ∷ 100 ∷ [])
    -- of two the later
    ∷ (traced (after (heading 0 5 90 ∷ heading 0 5 270 ∷ level 0 5 100 ∷ [])) 0 5 1 gives 2 ∷ 270 ∷ [])
    -- another strip's entry is not met
    ∷ (traced (after (level 0 4 100 ∷ [])) 0 5 0 gives 0 ∷ 0 ∷ [])
    -- a merge that leads to the giver: l 0, a 0, b 100; and one whose base is not version 0: l 90, a 90, b 270
    ∷ (traced (after (fork 1 0 ∷ level 1 5 100 ∷ call 0 5 ∷ merge 0 1 ∷ [])) 0 5 0 gives 1 ∷ 100 ∷ [])
    ∷ (traced (after (heading 0 5 90 ∷ fork 1 0 ∷ call 0 5 ∷ heading 1 5 270 ∷ merge 0 1 ∷ [])) 0 5 1 gives 3 ∷ 270 ∷ [])
    -- one that leads to the receiver, though the giver wrote the same value: l 0, a 100, b 100
    ∷ (traced (after (fork 1 0 ∷ level 1 5 100 ∷ level 0 5 100 ∷ merge 0 1 ∷ [])) 0 5 0 gives 2 ∷ 100 ∷ [])
    -- all three differ: l 0, a 200, b 100
    ∷ (traced (after (fork 1 0 ∷ level 1 5 100 ∷ level 0 5 200 ∷ merge 0 1 ∷ [])) 0 5 0 gives 2 ∷ 200 ∷ [])
    -- both sides the base's: l 100, a 100, b 100, so to the receiver's, past the giver's own entry of it (version 3)
    ∷ (traced (after (level 0 5 100 ∷ fork 1 0 ∷ call 0 5 ∷ level 1 5 100 ∷ merge 0 1 ∷ [])) 0 5 0 gives 1 ∷ 100 ∷ [])
    -- the same with 0: none is met, though the console has heard one (version 1)
    ∷ (traced (after (fork 1 0 ∷ level 1 5 0 ∷ call 0 5 ∷ merge 0 1 ∷ [])) 0 5 0 gives 0 ∷ 0 ∷ [])
    -- a level of 0 that was entered
    ∷ (traced (after (level 0 5 0 ∷ [])) 0 5 0 gives 1 ∷ 0 ∷ [])
    -- nothing entered
    ∷ (traced (fresh 64) 0 5 0 gives 0 ∷ 0 ∷ [])
    -- "(Another cell: 5.)", by the call itself on bytes that hold no store, where cell 1 gives 11
    ∷ (reply_shown (origin_reply [] 0 5 2) ++ reply_shown (origin_reply [] 0 5 1) gives 5 ∷ 0 ∷ 11 ∷ 0 ∷ [])
    ∷ []

-- Two: lines of the session (an answer, and where the console is then), with the number of versions at the end; answers; tapes
unfoldable pub leave_cases : List Case
leave_cases =
    -- console 1 leaves from version 0, behind version 1, and its number is forked again
    (session (fresh 64) (fork 1 0 ∷ call 0 5 ∷ leave 1 ∷ leave 1 ∷ fork 1 0 ∷ [])
    gives 0 ∷ on 0 ∷ 0 ∷ on 1 ∷ 0 ∷ nowhere ∷ 12 ∷ nowhere ∷ 0 ∷ on 1 ∷ 2 ∷ [])
    -- its own entry is behind no other head; nor is it once another version has a higher number
    ∷ (session (fresh 64) (fork 1 0 ∷ call 1 5 ∷ leave 1 ∷ call 0 5 ∷ leave 1 ∷ [])
    gives 0 ∷ on 0 ∷ 0 ∷ on 1 ∷ 21 ∷ on 1 ∷ 0 ∷ on 2 ∷ 21 ∷ on 1 ∷ 3 ∷ [])
    -- it is once console 0 has merged it
    ∷ (answers (fresh 64) (fork 1 0 ∷ call 1 5 ∷ call 0 5 ∷ merge 0 1 ∷ leave 1 ∷ []) gives 0 ∷ 0 ∷ 0 ∷ 0 ∷ 0 ∷ [])
    ∷ (heads_shown (after (fork 1 0 ∷ call 1 5 ∷ call 0 5 ∷ merge 0 1 ∷ leave 1 ∷ [])) gives on 3 ∷ replicate 15 nowhere)
    -- two on one head: one leaves, and the other has no one else's head ahead of it then
    ∷ (session (fresh 64) (fork 1 0 ∷ call 1 5 ∷ fork 2 1 ∷ leave 1 ∷ leave 2 ∷ [])
    gives 0 ∷ on 0 ∷ 0 ∷ on 1 ∷ 0 ∷ on 1 ∷ 0 ∷ nowhere ∷ 21 ∷ on 1 ∷ 2 ∷ [])
    -- a full room can be left
    ∷ (answers (fresh 2) (fork 1 0 ∷ call 0 5 ∷ call 1 5 ∷ leave 1 ∷ []) gives 0 ∷ 0 ∷ 18 ∷ 0 ∷ [])
    -- console 0 alone; lengths; a console above 15; the code after 0C
    ∷ (answers (fresh 64) (leave 0 ∷ (0x0B ∷ 0x00 ∷ 0x00 ∷ []) ∷ (0x0B ∷ []) ∷ leave 0x10 ∷ (0x0D ∷ []) ∷ []) gives 20 ∷ 2 ∷ 2 ∷ 3 ∷ 1 ∷ [])
    -- by the call itself, on bytes that hold no store: console 0 gives 20, console 1 gives 11
    ∷ (reply_shown (command_outcome [] (leave 0)).reply ++ reply_shown (command_outcome [] (leave 1)).reply gives 20 ∷ 0 ∷ 11 ∷ 0 ∷ [])
    -- a tape has no record for the one that left: 20 00 40, 21 00 00 02 05 00 64, 23 00 00 01, 24
    ∷ (tape_of (after (fork 1 0 ∷ level 1 5 100 ∷ forward 0 1 ∷ leave 1 ∷ []))
    gives (0x20 ∷ 0x00 ∷ 0x40 ∷ []) ++ (0x21 ∷ 0x00 ∷ 0x00 ∷ 0x02 ∷ 0x05 ∷ 0x00 ∷ 0x64 ∷ []) ++ (0x23 ∷ 0x00 ∷ 0x00 ∷ 0x01 ∷ []) ++ (0x24 ∷ []))
    ∷ []

-- a level and a heading on each of the first n strips, and then these commands
unfoldable pub everywhere : ℕ → ℕ → ℕ → ℕ → List (List ℕ) → List (List ℕ)
everywhere c zero x y later = later
everywhere c (suc n) x y later = level c n x ∷ heading c n y ∷ everywhere c n x y later

-- Three: what each of some commands counts
unfoldable pub clash_cases : List Case
clash_cases =
    -- l 0, a 0, b 100; and l 0, a 100, b 0
    (counts (fresh 64) (fork 1 0 ∷ level 1 5 100 ∷ call 0 5 ∷ merge 0 1 ∷ []) gives 0 ∷ 0 ∷ 0 ∷ 0 ∷ [])
    ∷ (counts (fresh 64) (fork 1 0 ∷ level 0 5 100 ∷ call 1 5 ∷ merge 0 1 ∷ []) gives 0 ∷ 0 ∷ 0 ∷ 0 ∷ [])
    -- l 0, a 200, b 100: one, whichever of the two merges
    ∷ (counts (fresh 64) (fork 1 0 ∷ level 1 5 100 ∷ level 0 5 200 ∷ merge 0 1 ∷ []) gives 0 ∷ 0 ∷ 0 ∷ 1 ∷ [])
    ∷ (counts (fresh 64) (fork 1 0 ∷ level 1 5 100 ∷ level 0 5 200 ∷ merge 1 0 ∷ []) gives 0 ∷ 0 ∷ 0 ∷ 1 ∷ [])
    -- a heading, over a base that is not version 0: l 90, a 180, b 270
    ∷ (counts (fresh 64) (heading 0 5 90 ∷ fork 1 0 ∷ heading 0 5 180 ∷ heading 1 5 270 ∷ merge 0 1 ∷ []) gives 0 ∷ 0 ∷ 0 ∷ 0 ∷ 1 ∷ [])
    -- the receiver's 0 stands against the giver's: l 90, a 0, b 270
    ∷ (counts (fresh 64) (heading 0 5 90 ∷ fork 1 0 ∷ heading 0 5 0 ∷ heading 1 5 270 ∷ merge 0 1 ∷ []) gives 0 ∷ 0 ∷ 0 ∷ 0 ∷ 1 ∷ [])
    -- receiver and giver agree, and differ from the base: l 0, a 100, b 100
    ∷ (counts (fresh 64) (fork 1 0 ∷ level 1 5 100 ∷ level 0 5 100 ∷ merge 0 1 ∷ []) gives 0 ∷ 0 ∷ 0 ∷ 0 ∷ [])
    -- level and heading of one strip are two; a second merge over what was merged counts none
    ∷ (counts (fresh 64)
    (fork 1 0 ∷ level 1 5 100 ∷ heading 1 5 90 ∷ level 0 5 200 ∷ heading 0 5 180 ∷ merge 0 1 ∷ call 1 5 ∷ merge 0 1 ∷ [])
    gives 0 ∷ 0 ∷ 0 ∷ 0 ∷ 0 ∷ 2 ∷ 0 ∷ 0 ∷ [])
    -- all three differ in marks (1; 1, 2; 1, 3), calls (1, 2, 3) and alerts (1, 2, 3) only
    ∷ (counts (fresh 64)
    (mark 0 5 1 ∷ call 0 5 ∷ alert 0 5 ∷ fork 1 0
    ∷ mark 0 5 2 ∷ call 0 5 ∷ alert 0 5
    ∷ mark 1 5 3 ∷ call 1 5 ∷ call 1 5 ∷ alert 1 5 ∷ alert 1 5 ∷ merge 0 1 ∷ [])
    gives 0 ∷ 0 ∷ 0 ∷ 0 ∷ 0 ∷ 0 ∷ 0 ∷ 0 ∷ 0 ∷ 0 ∷ 0 ∷ 0 ∷ 0 ∷ [])
    -- after a merge that clashed, a fast-forward, a leave and a refused merge (14) count none
    ∷ (counts (fresh 64) (fork 1 0 ∷ level 1 5 100 ∷ level 0 5 200 ∷ merge 0 1 ∷ forward 1 0 ∷ merge 0 1 ∷ leave 1 ∷ [])
    gives 0 ∷ 0 ∷ 0 ∷ 1 ∷ 0 ∷ 0 ∷ 0 ∷ [])
    -- every cell of the board, after 129 commands: l 0, a 1, b 256, and the other way round
    ∷ (get_or (counts (fresh 256) (fork 1 0 ∷ everywhere 0 strip_count 1 256 (everywhere 1 strip_count 256 1 (merge 0 1 ∷ [])))) 129 0 ∷ [] gives 64 ∷ [])
    ∷ []

-- Four: 256 times the kind (0 all agree, 1 stuck, 2 merge, 3 fast-forward), and for a pair 16 times the receiver and the giver more
abbrev pub pair_in : Room → List ℕ
pair_in r = mergeable r ∷ []

-- "the stuck room of document 01 is a case"
unfoldable pub stuck_cases : List Case
stuck_cases = (pair_in stuck gives 256 ∷ []) ∷ []

-- all agree: one console alone, also in a full room; three that never left one head; two that came to one by a merge
unfoldable pub agree_cases : List Case
agree_cases =
    (pair_in (fresh 64) ++ pair_in (fresh 1) gives 0 ∷ 0 ∷ [])
    ∷ (pair_in (after (fork 1 0 ∷ fork 2 0 ∷ [])) gives 0 ∷ [])
    ∷ (pair_in (after (fork 1 0 ∷ call 0 5 ∷ call 1 5 ∷ merge 0 1 ∷ forward 1 0 ∷ [])) gives 0 ∷ [])
    ∷ []

-- a pair
unfoldable pub pair_cases : List Case
pair_cases =
    -- 0 from 1: a merge where both have entries; a fast-forward where only 1 has, though 1 and 2 could merge
    (pair_in (after (fork 1 0 ∷ call 0 5 ∷ call 1 5 ∷ [])) gives 513 ∷ [])
    ∷ (pair_in (after (fork 1 0 ∷ fork 2 0 ∷ call 1 5 ∷ call 2 5 ∷ [])) gives 769 ∷ [])
    -- 2 from 0: heads 1, 1, 0; and 15 from 0, over consoles that are absent
    ∷ (pair_in (after (fork 1 0 ∷ fork 2 0 ∷ call 0 5 ∷ forward 1 0 ∷ [])) gives 800 ∷ [])
    ∷ (pair_in (after (fork 15 0 ∷ call 0 5 ∷ [])) gives 1008 ∷ [])
    -- 0 from 1 is refused with 17, and 0 fast-forwards to 2
    ∷ (pair_in crossed gives 770 ∷ [])
    -- 1 leaves, and 0 fast-forwards to 2
    ∷ (pair_in (after (fork 1 0 ∷ fork 2 0 ∷ leave 1 ∷ call 2 5 ∷ [])) gives 770 ∷ [])
    -- a full room: the merge is refused with 18, and named
    ∷ (answers (fresh 3) (fork 1 0 ∷ call 0 5 ∷ call 1 5 ∷ merge 0 1 ∷ []) ++ pair_in (made (fresh 3) (fork 1 0 ∷ call 0 5 ∷ call 1 5 ∷ []))
    gives 0 ∷ 0 ∷ 0 ∷ 18 ∷ 513 ∷ [])
    -- by the call itself, on bytes that hold no store
    ∷ (reply_shown (mergeable_reply []) gives 11 ∷ 0 ∷ [])
    ∷ []

-- Six: consoles 0, 1 and 2 on version 1, which 1 made and 2 was forked from; console 0 is the hub since it has heard of it
abbrev pub hub_steps : List (List ℕ)
hub_steps = fork 1 0 ∷ call 1 5 ∷ fork 2 1 ∷ forward 0 1 ∷ hub ∷ []

unfoldable pub hub_cases : List Case
hub_cases =
    -- 1 and 2 have version 1 in common, and console 0 has not heard of it; then it has; and again. 0C has no operand
    (session (fresh 64) (fork 1 0 ∷ call 1 5 ∷ fork 2 1 ∷ hub ∷ forward 0 1 ∷ hub ∷ hub ∷ [])
    gives 0 ∷ on 0 ∷ 0 ∷ on 1 ∷ 0 ∷ on 1 ∷ 23 ∷ nowhere ∷ 0 ∷ on 1 ∷ 0 ∷ nowhere ∷ 0 ∷ nowhere ∷ 2 ∷ [])
    -- a fork from 1; onto a present console from 1; from an absent one; from 0
    ∷ (answers (after hub_steps) (fork 3 1 ∷ fork 2 1 ∷ fork 3 4 ∷ fork 3 0 ∷ []) gives 22 ∷ 13 ∷ 12 ∷ 0 ∷ [])
    -- two that are not the hub, where 14 would apply too; one of them absent; with the hub, either way round
    ∷ (answers (after hub_steps) (merge 1 2 ∷ forward 1 2 ∷ merge 1 4 ∷ merge 1 0 ∷ forward 0 2 ∷ []) gives 22 ∷ 22 ∷ 12 ∷ 14 ∷ 14 ∷ [])
    -- before it is the hub 1 merges 2; then they go through it
    ∷ (answers (fresh 64) (fork 1 0 ∷ fork 2 0 ∷ call 1 5 ∷ call 2 5 ∷ merge 1 2 ∷ []) gives 0 ∷ 0 ∷ 0 ∷ 0 ∷ 0 ∷ [])
    ∷ (answers (fresh 64) (fork 1 0 ∷ fork 2 0 ∷ hub ∷ call 1 5 ∷ call 2 5 ∷ merge 1 2 ∷ forward 0 1 ∷ merge 0 2 ∷ forward 1 0 ∷ forward 2 0 ∷ [])
    gives 0 ∷ 0 ∷ 0 ∷ 0 ∷ 0 ∷ 22 ∷ 0 ∷ 0 ∷ 0 ∷ 0 ∷ [])
    -- where 2 leaves, nothing that 0 has not heard of is left in common, and the room can enter
    ∷ (answers (fresh 64) (fork 1 0 ∷ call 1 5 ∷ fork 2 1 ∷ hub ∷ leave 2 ∷ hub ∷ []) gives 0 ∷ 0 ∷ 0 ∷ 23 ∷ 0 ∷ 0 ∷ [])
    -- a length of 2; by the call itself, on bytes that hold no store
    ∷ (answers (fresh 64) ((0x0C ∷ 0x00 ∷ []) ∷ []) ++ reply_shown (command_outcome [] hub).reply gives 2 ∷ 11 ∷ 0 ∷ [])
    ∷ []

-- "the tape carries 25 just before 24": 20 00 40, 21 00 00 06 05 00 00, 23 00 00 01, 23 01 00 01, 23 02 00 01, 25, 24
abbrev pub hub_versions : List ℕ
hub_versions = (0x20 ∷ 0x00 ∷ 0x40 ∷ []) ++ (0x21 ∷ 0x00 ∷ 0x00 ∷ 0x06 ∷ 0x05 ∷ 0x00 ∷ 0x00 ∷ [])

abbrev pub hub_heads : List ℕ
hub_heads = (0x23 ∷ 0x00 ∷ 0x00 ∷ 0x01 ∷ []) ++ (0x23 ∷ 0x01 ∷ 0x00 ∷ 0x01 ∷ []) ++ (0x23 ∷ 0x02 ∷ 0x00 ∷ 0x01 ∷ [])

-- console 0 on version 0
abbrev pub early_heads : List ℕ
early_heads = (0x23 ∷ 0x00 ∷ 0x00 ∷ 0x00 ∷ []) ++ (0x23 ∷ 0x01 ∷ 0x00 ∷ 0x01 ∷ []) ++ (0x23 ∷ 0x02 ∷ 0x00 ∷ 0x01 ∷ [])

-- what the call answers to a tape and an empty buffer: 19 where nothing else refuses it
abbrev pub tape_answer : List ℕ → List ℕ
tape_answer tape = (resume_outcome tape []).reply.answer ∷ []

unfoldable pub hub_tape_cases : List Case
hub_tape_cases =
    (tape_of (after hub_steps) gives hub_versions ++ hub_heads ++ (0x25 ∷ 0x24 ∷ []))
    ∷ (tape_answer (hub_versions ++ hub_heads ++ (0x25 ∷ 0x24 ∷ [])) gives 19 ∷ [])
    -- twice; before the heads; before the versions; after 24
    ∷ (tape_answer (hub_versions ++ hub_heads ++ (0x25 ∷ 0x25 ∷ 0x24 ∷ [])) gives 7 ∷ [])
    ∷ (tape_answer (hub_versions ++ (0x25 ∷ []) ++ hub_heads ++ (0x24 ∷ [])) gives 7 ∷ [])
    ∷ (tape_answer ((0x25 ∷ []) ++ hub_versions ++ hub_heads ++ (0x24 ∷ [])) gives 7 ∷ [])
    ∷ (tape_answer (hub_versions ++ hub_heads ++ (0x24 ∷ 0x25 ∷ [])) gives 7 ∷ [])
    -- heads that could not enter, and the same without 25
    ∷ (tape_answer (hub_versions ++ early_heads ++ (0x25 ∷ 0x24 ∷ [])) gives 10 ∷ [])
    ∷ (tape_answer (hub_versions ++ early_heads ++ (0x24 ∷ [])) gives 19 ∷ [])
    ∷ []

-- the stuck room can't be entered
unfoldable pub stuck_hub_cases : List Case
stuck_hub_cases = (answers stuck (hub ∷ []) gives 23 ∷ []) ∷ []

-- "0 takes from each, then each from 0"
unfoldable pub spelled : List Command → List ℕ
spelled [] = []
spelled (c ∷ commands) = command_bytes c ++ spelled commands

abbrev pub scattered : Room
scattered = after (fork 1 0 ∷ fork 2 0 ∷ fork 3 0 ∷ hub ∷ call 1 5 ∷ call 2 5 ∷ [])

unfoldable pub gather_cases : List Case
gather_cases =
    -- 0 fast-forwards to 1 and merges 2 (version 3); 3 is behind; then 1, 2 and 3 fast-forward to 0
    (spelled (gathering scattered) gives forward 0 1 ++ merge 0 2 ++ forward 1 0 ++ forward 2 0 ++ forward 3 0)
    ∷ (heads_shown (after_all scattered (gathering scattered)) gives on 3 ∷ on 3 ∷ on 3 ∷ on 3 ∷ replicate 12 nowhere)
    -- one console alone has nothing to do
    ∷ (spelled (gathering (fresh 64)) gives [])
    ∷ []

-- Seven: a console's view of a store that holds this room, beside any other bytes (`Called` has that the calls give it)
abbrev pub view_in : Room → ℕ → View
view_in r c = cond (absent r c) (refused_view 12) (shown_view r c)

-- the answer, the place, the length of the part, and the level of strip 5 there
abbrev pub view_shown : View → List ℕ
view_shown v = v.refusal_reply.answer ∷ v.at_reply.count ∷ length v.bytes ∷ part v.bytes 60 2

-- a room, and what it was at a pause; console 1 came after it, and console 2 left
abbrev pub before_pause : List (List ℕ)
before_pause = fork 2 0 ∷ level 0 5 100 ∷ []

abbrev pub after_pause : List (List ℕ)
after_pause = leave 2 ∷ fork 1 0 ∷ level 0 5 200 ∷ []

unfoldable pub view_cases : List Case
view_cases =
    -- frozen: version 1, at 4,096 + 544 + 160, level 100; live: version 2, at 4,096 + 2 × 544 + 160, level 200
    (view_shown (view_in (after before_pause) 0) gives 0 ∷ 4800 ∷ 384 ∷ 0 ∷ 100 ∷ [])
    ∷ (view_shown (view_in (after (before_pause ++ after_pause)) 0) gives 0 ∷ 5344 ∷ 384 ∷ 0 ∷ 200 ∷ [])
    -- absent in the one and present in the other, both ways; console 2 was on version 0, at 4,096 + 160
    ∷ (view_shown (view_in (after before_pause) 1) gives 12 ∷ 0 ∷ 0 ∷ [])
    ∷ (view_shown (view_in (after (before_pause ++ after_pause)) 1) gives 0 ∷ 4800 ∷ 384 ∷ 0 ∷ 100 ∷ [])
    ∷ (view_shown (view_in (after before_pause) 2) gives 0 ∷ 4256 ∷ 384 ∷ 0 ∷ 0 ∷ [])
    ∷ (view_shown (view_in (after (before_pause ++ after_pause)) 2) gives 12 ∷ 0 ∷ 0 ∷ [])
    -- by the calls themselves, on bytes that hold no store: choices 2 and 256; console 16, also with choice 2; each store
    ∷ (view_shown (view_of [] [] 0 2) ++ view_shown (view_of [] [] 0 256) gives 5 ∷ 0 ∷ 0 ∷ 5 ∷ 0 ∷ 0 ∷ [])
    ∷ (view_shown (view_of [] [] 16 0) ++ view_shown (view_of [] [] 16 2) gives 3 ∷ 0 ∷ 0 ∷ 3 ∷ 0 ∷ 0 ∷ [])
    ∷ (view_shown (view_of [] [] 15 0) ++ view_shown (view_of [] [] 15 1) gives 11 ∷ 0 ∷ 0 ∷ 11 ∷ 0 ∷ 0 ∷ [])
    ∷ []

-- Eight: what the call replies about a store that holds this room, and what it leaves in the lent pane (`Called` has that the calls do so)
abbrev pub pane_in : Viewer → Room → ℕ → List ℕ → Outcome
pane_in viewer r c lent =
    written (first_refusal (12 when absent r c ∷ 19 when too_short lent board_size ∷ [])) board_size (pane_of viewer (board_shown r c)) lent

-- a pane of so many bytes, each 9 before it is written
abbrev pub nines : ℕ → List ℕ
nines n = replicate n 9

-- strip k of console 0
abbrev pub strip_seen : Viewer → Room → ℕ → List ℕ
strip_seen viewer r k = part (pane_in viewer r 0 (nines 384)).buffer (12 * k) 12

-- the reply, and the last bytes of the lent pane
abbrev pub pane_end : Outcome → ℕ → List ℕ
pane_end o at = reply_shown o.reply ++ drop at o.buffer

-- every field of strip 5 set: level 600, heading 360, marks 0, 7, 8 and 15, two calls, an alert
abbrev pub every_field : Room
every_field =
    after
    (level 0 5 600 ∷ heading 0 5 360 ∷ mark 0 5 0 ∷ mark 0 5 7 ∷ mark 0 5 8 ∷ mark 0 5 15 ∷ call 0 5 ∷ call 0 5 ∷ alert 0 5 ∷ [])

-- two sessions: versions 3, 4 and 5 are entries that a student does not see, others in the second
abbrev pub session₁ : List (List ℕ)
session₁ = level 0 5 100 ∷ mark 0 5 3 ∷ call 0 5 ∷ fork 1 0 ∷ alert 1 5 ∷ mark 0 6 8 ∷ merge 0 1 ∷ []

abbrev pub session₂ : List (List ℕ)
session₂ = level 0 5 100 ∷ mark 0 5 3 ∷ quiet 0 9 ∷ fork 1 0 ∷ unmark 1 7 15 ∷ call 0 31 ∷ merge 0 1 ∷ []

-- what a student is shown in both: level 100 and mark 3 of strip 5
abbrev pub seen_in_both : List ℕ
seen_in_both = replicate 60 0 ++ (0 ∷ 100 ∷ 0 ∷ 0 ∷ 0 ∷ 8 ∷ []) ++ replicate 318 0

unfoldable pub pane_cases : List Case
pane_cases =
    (strip_seen Instructor every_field 5 gives 0x02 ∷ 0x58 ∷ 0x01 ∷ 0x68 ∷ 0x81 ∷ 0x81 ∷ 0x00 ∷ 0x02 ∷ 0x00 ∷ 0x01 ∷ 0x01 ∷ 0x00 ∷ [])
    ∷ (strip_seen Student every_field 5 gives 0x02 ∷ 0x58 ∷ 0x01 ∷ 0x68 ∷ 0x00 ∷ 0x81 ∷ 0x00 ∷ 0x00 ∷ 0x00 ∷ 0x00 ∷ 0x00 ∷ 0x00 ∷ [])
    -- mark 7 is seen, mark 8 is not
    ∷ (strip_seen Student (after (mark 0 5 7 ∷ [])) 5 gives 0 ∷ 0 ∷ 0 ∷ 0 ∷ 0 ∷ 0x80 ∷ 0 ∷ 0 ∷ 0 ∷ 0 ∷ 0 ∷ 0 ∷ [])
    ∷ (strip_seen Student (after (mark 0 5 8 ∷ [])) 5 gives replicate 12 0)
    ∷ (strip_seen Instructor (after (mark 0 5 8 ∷ [])) 5 gives 0 ∷ 0 ∷ 0 ∷ 0 ∷ 0x01 ∷ 0 ∷ 0 ∷ 0 ∷ 0 ∷ 0 ∷ 0 ∷ 0 ∷ [])
    -- a merge of two alerts
    ∷ (strip_seen Instructor (after (fork 1 0 ∷ alert 0 5 ∷ alert 1 5 ∷ merge 0 1 ∷ [])) 5 gives replicate 9 0 ++ (2 ∷ 1 ∷ 0 ∷ []))
    ∷ (strip_seen Student (after (fork 1 0 ∷ alert 0 5 ∷ alert 1 5 ∷ merge 0 1 ∷ [])) 5 gives replicate 12 0)
    -- the two sessions: the same to the student, and not to the instructor
    ∷ ((pane_in Student (after session₁) 0 (nines 384)).buffer gives seen_in_both)
    ∷ ((pane_in Student (after session₂) 0 (nines 384)).buffer gives seen_in_both)
    ∷ (strip_seen Instructor (after session₁) 5 gives 0 ∷ 100 ∷ 0 ∷ 0 ∷ 0 ∷ 8 ∷ 0 ∷ 1 ∷ 0 ∷ 1 ∷ 1 ∷ 0 ∷ [])
    ∷ (strip_seen Instructor (after session₂) 5 gives 0 ∷ 100 ∷ 0 ∷ 0 ∷ 0 ∷ 8 ∷ 0 ∷ 0 ∷ 0 ∷ 0 ∷ 0 ∷ 0 ∷ [])
    -- a longer pane, whose last byte stays; one that is too short; an absent console, which is said before it
    ∷ (pane_end (pane_in Student every_field 0 (nines 385)) 383 gives 0 ∷ 384 ∷ 0 ∷ 9 ∷ [])
    ∷ (pane_end (pane_in Student every_field 0 (nines 383)) 381 gives 19 ∷ 0 ∷ 9 ∷ 9 ∷ [])
    ∷ (pane_end (pane_in Student every_field 1 (nines 383)) 381 gives 12 ∷ 0 ∷ 9 ∷ 9 ∷ [])
    -- by the calls themselves, on bytes that hold no store: console 16, and 15
    ∷ (pane_end (pane_outcome Student [] 16 (nines 1)) 0 ++ pane_end (pane_outcome Instructor [] 16 (nines 1)) 0 gives 3 ∷ 0 ∷ 9 ∷ 3 ∷ 0 ∷ 9 ∷ [])
    ∷ (pane_end (pane_outcome Student [] 15 (nines 1)) 0 ++ pane_end (pane_outcome Instructor [] 15 (nines 1)) 0 gives 11 ∷ 0 ∷ 9 ∷ 11 ∷ 0 ∷ 9 ∷ [])
    ∷ []
