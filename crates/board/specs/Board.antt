-- "32 strips of 12 bytes, 384 in all." The cells of a strip, how three boards are merged and which levels and headings clash, what an entry writes and
-- what it leaves, and the cells whose origin can be asked about.
use Rattle.std.specs.Prelude.{ℕ, zero, suc, ◌+◌, ◌-◌, ◌*◌, ◌%◌, ◌^◌, Bool, true, false, cond, not, ◌&&◌, List, [], ◌∷◌, ◌++◌, eqb, ltb, get_or, take, drop, set}
use Rattle.std.specs.Int.Bits.{bit_and, bit_or}
use Rattle.buffer.specs.Field.{word, word_at, put_word, zeros}
use Rattle.buffer.specs.Row.{bit}
use Rattle.board.specs.declared.Cell.{Cell}
use Rattle.board.specs.declared.Cell.TheVariants.{Level, Heading}
use Rattle.board.specs.declared.MergedValue.{MergedValue}

abbrev pub strip_size : ℕ
strip_size = 12

abbrev pub strip_count : ℕ
strip_count = 32

abbrev pub board_size : ℕ
board_size = strip_size * strip_count

-- "Version 0 has an empty board"
abbrev pub empty_board : List ℕ
empty_board = zeros board_size

-- "Offsets: 0 level (..), 2 heading (..), 4 marks (..), 6 calls, 8 alert count, each 16 bits; 10 alert flag (0 or 1); 11 always zero."
-- The place of a cell of strip k.
abbrev pub level_at : ℕ → ℕ
level_at k = strip_size * k

abbrev pub heading_at : ℕ → ℕ
heading_at k = strip_size * k + 2

abbrev pub marks_at : ℕ → ℕ
marks_at k = strip_size * k + 4

abbrev pub calls_at : ℕ → ℕ
calls_at k = strip_size * k + 6

abbrev pub alerts_at : ℕ → ℕ
alerts_at k = strip_size * k + 8

abbrev pub flag_at : ℕ → ℕ
flag_at k = strip_size * k + 10

-- a level or a heading: its place in strip k, and the value that a board has there
abbrev pub cell_at : Cell → ℕ → ℕ
cell_at Level k = level_at k
cell_at Heading k = heading_at k

abbrev pub value_in : Cell → ℕ → List ℕ → ℕ
value_in cell k s = word_at s (cell_at cell k)

-- "mark k is the bit worth 2 to the k, k from 0 to 15"
abbrev pub mark_count : ℕ
mark_count = 16

-- The bit of a mark. No accepted command, tape or sound store has an operand that names none; the rule takes one by its remainder, so
-- that the bit is always a word's.
abbrev pub mark_bit : ℕ → ℕ
mark_bit x = 2 ^ (x % mark_count)

-- a flag is on when its byte is 1; in a sound store that byte is 0 or 1
abbrev pub flag_on : List ℕ → ℕ → Bool
flag_on s k = eqb (get_or s (flag_at k) 0) 1

-- "a without l": the marks of a that l does not have
abbrev pub without : ℕ → ℕ → ℕ
without a l = a - bit_and a l

-- "level and heading, each alone: b if a = l, else a." "Working out one cell now also says whether base, receiver and giver all differ":
-- there it clashes, and the receiver's value stays.
abbrev pub merge_value : ℕ → ℕ → ℕ → MergedValue
merge_value l a b = record { value = cond (eqb a l) b a; clash = not (eqb a l) && not (eqb b l) && not (eqb a b) }

-- "marks: (a and b) or (a without l) or (b without l)."
abbrev pub merge_marks : ℕ → ℕ → ℕ → ℕ
merge_marks l a b = bit_or (bit_or (bit_and a b) (without a l)) (without b l)

-- "calls and alert count: a + b − l."; in a sound store neither a nor b is below l
abbrev pub merge_count : ℕ → ℕ → ℕ → ℕ
merge_count l a b = a + b - l

-- "alert flag: if a's and b's flags agree, that flag; otherwise 1 exactly when the side whose flag is 1 has an alert count above l's."
-- The flags of a and b, then the alert counts of l, a and b.
unfoldable pub merge_flag : Bool → Bool → ℕ → ℕ → ℕ → Bool
merge_flag true true l a b = true
merge_flag false false l a b = false
merge_flag true false l a b = ltb l a
merge_flag false true l a b = ltb l b

-- what a merge makes: bytes, and how many levels and headings clash there
pub record Merged : Type 0 where
  pub bytes : List ℕ
  pub clashes : ℕ

-- a level or a heading of strip k of three boards
abbrev pub merge_cell : Cell → ℕ → List ℕ → List ℕ → List ℕ → MergedValue
merge_cell cell k l a b = merge_value (value_in cell k l) (value_in cell k a) (value_in cell k b)

-- "Merging base l, receiver a, giver b, strip by strip": strip k of the three boards
unfoldable pub merge_strip : List ℕ → List ℕ → List ℕ → ℕ → Merged
merge_strip l a b k =
    let level : MergedValue = merge_cell Level k l a b in
    let heading : MergedValue = merge_cell Heading k l a b in
    record {
      bytes =
          word level.value
          ++ word heading.value
          ++ word (merge_marks (word_at l (marks_at k)) (word_at a (marks_at k)) (word_at b (marks_at k)))
          ++ word (merge_count (word_at l (calls_at k)) (word_at a (calls_at k)) (word_at b (calls_at k)))
          ++ word (merge_count (word_at l (alerts_at k)) (word_at a (alerts_at k)) (word_at b (alerts_at k)))
          ++ (bit (merge_flag (flag_on a k) (flag_on b k) (word_at l (alerts_at k)) (word_at a (alerts_at k)) (word_at b (alerts_at k))) ∷ 0 ∷ []);
      clashes = bit level.clash + bit heading.clash;
    }

-- the first n strips
unfoldable pub merge_strips : List ℕ → List ℕ → List ℕ → ℕ → Merged
merge_strips l a b zero = record { bytes = []; clashes = 0 }
merge_strips l a b (suc n) =
    let before : Merged = merge_strips l a b n in
    let strip : Merged = merge_strip l a b n in
    record { bytes = before.bytes ++ strip.bytes; clashes = before.clashes + strip.clashes }

-- all of them, with "the number, 0 to 64"
abbrev pub merge_board : List ℕ → List ℕ → List ℕ → Merged
merge_board l a b = merge_strips l a b strip_count

-- The codes of entries: "02 level", "03 heading", "04 mark put, 05 mark taken", "06 call counted", "07 alert on, 08 alert off".
abbrev pub level_entry : ℕ
level_entry = 0x02

abbrev pub heading_entry : ℕ
heading_entry = 0x03

abbrev pub mark_put_entry : ℕ
mark_put_entry = 0x04

abbrev pub mark_taken_entry : ℕ
mark_taken_entry = 0x05

abbrev pub call_entry : ℕ
call_entry = 0x06

abbrev pub alert_on_entry : ℕ
alert_on_entry = 0x07

abbrev pub alert_off_entry : ℕ
alert_off_entry = 0x08

-- "06 adds 1 to calls; 07 adds 1 to the alert count and sets the flag; 08 clears the flag only." 02 writes the level, 03 the heading,
-- 04 puts the mark, 05 takes it. The board after an entry of this code on strip k with operand x.
unfoldable pub enter : ℕ → ℕ → ℕ → List ℕ → List ℕ
enter code k x s =
    cond (eqb code level_entry) (put_word s (level_at k) x)
    (cond (eqb code heading_entry) (put_word s (heading_at k) x)
    (cond (eqb code mark_put_entry) (put_word s (marks_at k) (bit_or (word_at s (marks_at k)) (mark_bit x)))
    (cond (eqb code mark_taken_entry) (put_word s (marks_at k) (without (word_at s (marks_at k)) (mark_bit x)))
    (cond (eqb code call_entry) (put_word s (calls_at k) (word_at s (calls_at k) + 1))
    (cond (eqb code alert_on_entry) (set (put_word s (alerts_at k) (word_at s (alerts_at k) + 1)) (flag_at k) 1)
    (cond (eqb code alert_off_entry) (set s (flag_at k) 0) s))))))

-- "the bytes of the other 31 strips": of a board, all that stand before strip k and all that stand behind it
abbrev pub other_strips : ℕ → List ℕ → List ℕ
other_strips k s = take (strip_size * k) s ++ drop (strip_size * suc k) s

-- "cell (0 level, 1 heading)": of the cells of a strip, the two whose origin can be asked about, and their numbers. What another number is taken
-- for does not matter, as it is refused (5).
abbrev pub cell_count : ℕ
cell_count = 2

abbrev pub cell_number : Cell → ℕ
cell_number Level = 0
cell_number Heading = 1

abbrev pub cell_of : ℕ → Cell
cell_of zero = Level
cell_of (suc n) = Heading

-- the code of the entries that write it
abbrev pub writing_code : Cell → ℕ
writing_code Level = level_entry
writing_code Heading = heading_entry

-- "if the receiver's value equals the base's and the giver's differs": of the two sides the giver's alone differs from the base. Where all
-- three are equal the receiver's side is followed, though the merged value is the giver's too.
abbrev pub follows_giver : ℕ → ℕ → ℕ → Bool
follows_giver l a b = eqb a l && not (eqb b l)
