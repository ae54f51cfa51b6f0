-- "one record per version from 1 upward; one head record per present console, consoles rising": the records of a store's tape, one version and
-- one console at a time.
use Rattle.std.specs.Prelude.{ℕ, ◌+◌, ◌*◌, List, [], ◌∷◌, take}
use Rattle.command.specs.Code.{console_count}
use Rattle.room.specs.Room.{Room, head_of}
use Rattle.room.specs.Sound.{max_capacity}
use Rattle.store.specs.Layout.{node_in, versions_in}
use Rattle.tape.specs.Record.{version_bytes, longest_record}
use Rattle.tape.specs.Tape.{version_records, head_records}

-- the record of version v of a store's bytes
abbrev pub version_piece : List ℕ → ℕ → List ℕ
version_piece s v = version_bytes (node_in s v)

-- the records of versions 1 to n
unfoldable pub version_pieces : List ℕ → ℕ → List ℕ
version_pieces s n = version_records (versions_in s n)

-- the head record of console c; nothing where it is absent
unfoldable pub head_piece : Room → ℕ → List ℕ
head_piece r c = head_records c (head_of r c ∷ [])

-- the head records of the first n consoles
unfoldable pub head_pieces : Room → ℕ → List ℕ
head_pieces r n = head_records 0 (take n r.heads)

-- what no tape of a store exceeds: the start, the hub's record and the end together are shorter than one record of a version, and version 0
-- has none
abbrev pub longest_tape : ℕ
longest_tape = longest_record * (max_capacity + console_count)
