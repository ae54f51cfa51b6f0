-- The cases that the paper marks *, in its order, and before them the lines of the session that it prints.
use Rattle.std.specs.Prelude.{ℕ, zero, suc, ◌+◌, cond, List, [], ◌∷◌, ◌++◌, eqb, replicate}
use Rattle.buffer.specs.Field.{word}
use Rattle.board.specs.Board.{merge_strip}
use Rattle.command.specs.Code.{console_count}
use Rattle.command.specs.Decode.{decode}
use Rattle.room.specs.Room.{Room, fresh}
use Rattle.tape.specs.Tape.{tape_of}
use Rattle.cases.specs.Run.{Case, ◌gives◌, fork, level, call, merge, forward, answer_in, made, answers, answer, nowhere, on, heads_shown, session}

-- "Input 01 01 00, 02 00 05 00 64, 06 01 05, 09 00 01, 0A 01 00, 09 00 01 prints"
abbrev pub input : List (List ℕ)
input =
    (0x01 ∷ 0x01 ∷ 0x00 ∷ [])
    ∷ (0x02 ∷ 0x00 ∷ 0x05 ∷ 0x00 ∷ 0x64 ∷ [])
    ∷ (0x06 ∷ 0x01 ∷ 0x05 ∷ [])
    ∷ (0x09 ∷ 0x00 ∷ 0x01 ∷ [])
    ∷ (0x0A ∷ 0x01 ∷ 0x00 ∷ [])
    ∷ (0x09 ∷ 0x00 ∷ 0x01 ∷ [])
    ∷ []

-- "20 00 40, 21 00 00 02 05 00 64, 21 00 00 06 05 00 00, 22 00 01 00 02, 23 00 00 03, 23 01 00 03, 24"
abbrev pub tape : List ℕ
tape =
    (0x20 ∷ 0x00 ∷ 0x40 ∷ [])
    ++ (0x21 ∷ 0x00 ∷ 0x00 ∷ 0x02 ∷ 0x05 ∷ 0x00 ∷ 0x64 ∷ [])
    ++ (0x21 ∷ 0x00 ∷ 0x00 ∷ 0x06 ∷ 0x05 ∷ 0x00 ∷ 0x00 ∷ [])
    ++ (0x22 ∷ 0x00 ∷ 0x01 ∷ 0x00 ∷ 0x02 ∷ [])
    ++ (0x23 ∷ 0x00 ∷ 0x00 ∷ 0x03 ∷ [])
    ++ (0x23 ∷ 0x01 ∷ 0x00 ∷ 0x03 ∷ [])
    ++ (0x24 ∷ [])

-- a strip of these cells: level, heading, marks, calls, alert count, alert flag
abbrev pub strip : ℕ → ℕ → ℕ → ℕ → ℕ → ℕ → List ℕ
strip l h m c n f = word l ++ word h ++ word m ++ word c ++ word n ++ (f ∷ 0 ∷ [])

-- "Consoles 0, 1, 2 on version 0; entries on 0, 1, 2 (versions 1, 2, 3); 2 merges 0 (4), then 1 (5)."
unfoldable pub crossed : Room
crossed =
    made (fresh 64)
    (fork 1 0 ∷ fork 2 0 ∷ call 0 0 ∷ call 1 0 ∷ call 2 0 ∷ merge 2 0 ∷ merge 2 1 ∷ [])

-- "consoles 0 to 3: entry on 2 (1); 3 fast-forwards to 2; entry on 0 (2); 2 merges 0 (3); entry on 1 (4); 3 merges 1 (5); 0 merges 1 (6);
-- 1 fast-forwards to 0."
abbrev pub stuck_steps : List (List ℕ)
stuck_steps =
    fork 1 0 ∷ fork 2 0 ∷ fork 3 0
    ∷ call 2 0 ∷ forward 3 2 ∷ call 0 0 ∷ merge 2 0 ∷ call 1 0 ∷ merge 3 1 ∷ merge 0 1 ∷ forward 1 0
    ∷ []

unfoldable pub stuck : Room
stuck = made (fresh 64) stuck_steps

-- how many commands of one kind a room accepts: by the first n receivers from one giver, and by all receivers from the first n givers
unfoldable pub accepted_by : Room → (ℕ → ℕ → List ℕ) → ℕ → ℕ → ℕ
accepted_by r c zero giver = 0
accepted_by r c (suc a) giver = accepted_by r c a giver + cond (eqb (answer_in r (decode (c a giver))) 0) 1 0

unfoldable pub accepted : Room → (ℕ → ℕ → List ℕ) → ℕ → ℕ
accepted r c zero = 0
accepted r c (suc b) = accepted r c b + accepted_by r c console_count b

unfoldable pub starred : List Case
starred =
    -- the lines of the session, with no ordinals; and its tape
    (session (fresh 64) input gives 0 ∷ on 0 ∷ 0 ∷ on 1 ∷ 0 ∷ on 2 ∷ 0 ∷ on 3 ∷ 0 ∷ on 3 ∷ 14 ∷ on 3 ∷ 4 ∷ [])
    ∷ (tape_of (made (fresh 64) input) gives tape)
    -- "Level 600 accepted; 601 gives 5."
    ∷ (answer (fresh 64) (level 0 0 600) gives 0 ∷ [])
    ∷ (answer (fresh 64) (level 0 0 601) gives 5 ∷ [])
    -- "Levels l 0, a 100, b 200 give 100; l 100, a 100, b 200 give 200."
    ∷ ((merge_strip (strip 0 0 0 0 0 0) (strip 100 0 0 0 0 0) (strip 200 0 0 0 0 0) 0).bytes gives strip 100 0 0 0 0 0)
    ∷ ((merge_strip (strip 100 0 0 0 0 0) (strip 100 0 0 0 0 0) (strip 200 0 0 0 0 0) 0).bytes gives strip 200 0 0 0 0 0)
    -- "Calls l 2, a 5, b 3 give 6."
    ∷ ((merge_strip (strip 0 0 0 2 0 0) (strip 0 0 0 5 0 0) (strip 0 0 0 3 0 0) 0).bytes gives strip 0 0 0 6 0 0)
    -- "Marks l 1, a 1, b 0 give 0."
    ∷ ((merge_strip (strip 0 0 1 0 0 0) (strip 0 0 1 0 0 0) (strip 0 0 0 0 0 0) 0).bytes gives strip 0 0 0 0 0 0)
    -- "Alert l (1, on), a (1, off), b (2, on) gives (2, on)."
    ∷ ((merge_strip (strip 0 0 0 0 1 1) (strip 0 0 0 0 1 0) (strip 0 0 0 0 2 1) 0).bytes gives strip 0 0 0 0 2 1)
    -- "Capacity 1: the first entry gives 18."
    ∷ (answer (fresh 1) (call 0 0) gives 18 ∷ [])
    -- "Now 0 merging 1 gives 17; 0 fast-forwarding to 2 succeeds."
    ∷ (heads_shown crossed gives on 1 ∷ on 2 ∷ on 5 ∷ replicate 13 nowhere)
    ∷ (answer crossed (merge 0 1) gives 17 ∷ [])
    ∷ (answer crossed (forward 0 2) gives 0 ∷ [])
    -- "Heads 6, 6, 3, 5, and no merge or fast-forward is accepted."
    ∷ (answers (fresh 64) stuck_steps gives 0 ∷ 0 ∷ 0 ∷ 0 ∷ 0 ∷ 0 ∷ 0 ∷ 0 ∷ 0 ∷ 0 ∷ 0 ∷ [])
    ∷ (heads_shown stuck gives on 6 ∷ on 6 ∷ on 3 ∷ on 5 ∷ replicate 12 nowhere)
    ∷ (accepted stuck merge console_count ∷ accepted stuck forward console_count ∷ [] gives 0 ∷ 0 ∷ [])
    ∷ []
