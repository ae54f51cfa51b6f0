-- Rows of versions where they stand: in the blocks of a store, one behind the other, or at any place and distance.
use Rattle.std.specs.Prelude.{ℕ, ◌+◌, ◌*◌, ◌≤◌, List, length}
use Rattle.buffer.specs.Field.{part}
use Rattle.store.specs.declared.rows.Rows.{Rows}
use Rattle.store.specs.declared.rows.Rows.TheVariants.{InBlocks, InSequence, Apart}
use Rattle.store.specs.Layout.{row_size, row_at}

-- the row of version v
abbrev pub row_of : Rows → ℕ → List ℕ
row_of (InBlocks store) v = part store.now (row_at v) row_size
row_of (InSequence rows) v = part rows.now (row_size * v) row_size
row_of (Apart bytes first stride) v = part bytes.now (first + stride * v) row_size

-- it lies inside
abbrev pub HasRow : Rows → ℕ → Type 0
HasRow (InBlocks store) v = row_at v + row_size ≤ length store.now
HasRow (InSequence rows) v = row_size * v + row_size ≤ length rows.now
HasRow (Apart bytes first stride) v = first + stride * v + row_size ≤ length bytes.now
