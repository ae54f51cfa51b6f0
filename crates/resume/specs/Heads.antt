-- The table of common versions of a tape's heads, in a header of its own, made from the heads on its diagonal and the rows of the versions.
use Rattle.std.specs.Prelude.{ℕ, zero, suc, Bool, true, not, ◌&&◌, List, [], ◌∷◌, eqb}
use Rattle.buffer.specs.Field.{zeros}
use Rattle.store.specs.Layout.{header_size}
use Rattle.store.specs.Check.{common_in}
use Rattle.update.specs.Commons.{put_common, put_head}
use Rattle.resume.specs.Rows.{meet_field}

-- a header whose table has the heads of a tape on its diagonal, each 1 more than the version
unfoldable pub head_table : List (ℕ × ℕ) → List ℕ
head_table [] = zeros header_size
head_table (h ∷ before) = put_head (head_table before) h.0 (suc h.1)

-- the field of two consoles whose own fields are x and y: 0 where one is absent, else 1 more than the meet of their heads, if they have one
abbrev pub pair_field : List ℕ → ℕ → ℕ → ℕ
pair_field rows zero y = 0
pair_field rows (suc u) zero = 0
pair_field rows (suc u) (suc v) = meet_field rows u v

-- one is absent, or their heads have a meet
abbrev pub pair_meets : List ℕ → ℕ → ℕ → Bool
pair_meets rows zero y = true
pair_meets rows (suc u) zero = true
pair_meets rows (suc u) (suc v) = not (eqb (meet_field rows u v) 0)

-- the table with the fields of console c against the consoles below d written, and whether these meet
unfoldable pub with_pairs : List ℕ → List ℕ → ℕ → ℕ → List ℕ
with_pairs rows t c zero = t
with_pairs rows t c (suc d) = put_common (with_pairs rows t c d) c d (pair_field rows (common_in t c c) (common_in t d d))

unfoldable pub console_meets : List ℕ → List ℕ → ℕ → ℕ → Bool
console_meets rows t c zero = true
console_meets rows t c (suc d) = console_meets rows t c d && pair_meets rows (common_in t c c) (common_in t d d)

-- the same for all pairs of consoles below c
unfoldable pub with_consoles : List ℕ → List ℕ → ℕ → List ℕ
with_consoles rows t zero = t
with_consoles rows t (suc c) = with_pairs rows (with_consoles rows t c) c c

unfoldable pub table_meets : List ℕ → List ℕ → ℕ → Bool
table_meets rows t zero = true
table_meets rows t (suc c) = table_meets rows t c && console_meets rows t c c
