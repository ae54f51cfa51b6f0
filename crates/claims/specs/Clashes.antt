-- "After a merge the panel shows how many levels and headings disagreed." "An accepted merge reports the number, 0 to 64; all other commands
-- report 0. Resume uses the same working and reports none." What commands and resume count, on any bytes.
use Rattle.std.specs.Prelude.{ℕ, ◌+◌, ◌≤◌, ◌≡◌, List, [], ◌∷◌}
use Rattle.board.specs.declared.Cell.{Cell}
use Rattle.board.specs.declared.Cell.TheVariants.{Level, Heading}
use Rattle.board.specs.Board.{strip_count, merge_cell}
use Rattle.graph.specs.Below.{count_below}
use Rattle.command.specs.Code.{merge_command}
use Rattle.command.specs.Decode.{code_in}
use Rattle.room.specs.Room.{head, common}
use Rattle.room.specs.Boards.{board_of}
use Rattle.store.specs.Layout.{room_in}
use Rattle.unit.specs.declared.Reply.{Reply}
use Rattle.unit.specs.Calls.{command_outcome, resume_outcome}

-- on how many strips of three boards the level, or the heading, clashes
abbrev pub strips_that_clash : Cell → List ℕ → List ℕ → List ℕ → ℕ
strips_that_clash cell l a b = count_below strip_count (λ k. (merge_cell cell k l a b).clash)

-- the board of version v of the room in a store
abbrev pub board_in : List ℕ → ℕ → List ℕ
board_in store v = board_of (room_in store).versions v

-- "how many levels and headings disagreed" between consoles c and d, over their common version
abbrev pub clashes_between : List ℕ → ℕ → ℕ → ℕ
clashes_between store c d =
    let base : List ℕ = board_in store (common (room_in store) c d) in
    let mine : List ℕ = board_in store (head (room_in store) c) in
    let given : List ℕ = board_in store (head (room_in store) d) in
    strips_that_clash Level base mine given + strips_that_clash Heading base mine given

abbrev pub command_reply : List ℕ → List ℕ → Reply
command_reply store command = (command_outcome store command).reply

-- true of any bytes
pub record ClashesCounted (store : List ℕ) : Type 0 where
  pub counted : (c d : ℕ) → (command_reply store (merge_command ∷ c ∷ d ∷ [])).answer ≡ 0
      → (command_reply store (merge_command ∷ c ∷ d ∷ [])).count ≡ clashes_between store c d
  pub within64 : (command : List ℕ) → (command_reply store command).count ≤ 64
  -- a command that is no merge, or is refused
  pub others_count_none : (command : List ℕ) → (code_in command ≡ merge_command → (command_reply store command).answer ≡ 0 → ⊥)
      → (command_reply store command).count ≡ 0
  pub resume_counts_none : (tape : List ℕ) → (resume_outcome tape store).reply.count ≡ 0
