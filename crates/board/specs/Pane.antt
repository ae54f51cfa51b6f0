-- "Alerts, calls and marks 8 to 15 belong to the instructor." What the instructor and what a student sees of a board.
use Rattle.std.specs.Prelude.{ℕ, zero, suc, ◌%◌, ◌^◌, List, [], ◌++◌}
use Rattle.buffer.specs.Field.{word, word_at, zeros}
use Rattle.board.specs.declared.Cell.TheVariants.{Level, Heading}
use Rattle.board.specs.declared.Viewer.{Viewer}
use Rattle.board.specs.declared.Viewer.TheVariants.{Instructor, Student}
use Rattle.board.specs.Board.{strip_count, marks_at, value_in}

-- the first of "marks 8 to 15"
abbrev pub first_unseen_mark : ℕ
first_unseen_mark = 8

-- the marks of a strip that a student sees, 0 to 7: "mark k is the bit worth 2 to the k"
abbrev pub seen_marks : ℕ → ℕ
seen_marks marks = marks % 2 ^ first_unseen_mark

-- "The student's pane has those bytes and bits zero.": strip k of a board in it. Behind the marks all is zero: calls and alert count, 2 bytes each,
-- the flag, and the byte that always is.
unfoldable pub student_strip : List ℕ → ℕ → List ℕ
student_strip s k = word (value_in Level k s) ++ word (value_in Heading k s) ++ word (seen_marks (word_at s (marks_at k))) ++ zeros 6

-- so many strips one behind the other, each given by its number
unfoldable pub strips : (ℕ → List ℕ) → ℕ → List ℕ
strips strip zero = []
strips strip (suc n) = strips strip n ++ strip n

abbrev pub student_pane : List ℕ → List ℕ
student_pane s = strips (student_strip s) strip_count

-- "The instructor's pane is the board."
abbrev pub pane_of : Viewer → List ℕ → List ℕ
pane_of Instructor s = s
pane_of Student s = student_pane s
