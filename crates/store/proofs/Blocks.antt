-- Where the parts of a store's encoding stand in it and how long each is: the header with its fields, its row and its table, and the
-- block of each version with its node, its row and its board.
-- Assumes nothing.
use mathlib.Core.Path.{◌≡◌, refl, subst₂}
use mathlib.Core.List.{List, ◌++◌}
use mathlib.Core.Option.{Option, none, some}
use Prim.Native.Nat.{ℕ, zero, suc, ◌+◌, ◌-◌, ◌*◌, ◌<◌}
use native.Mathlib.Nat.{not-suc-le-zero, zero-add}
use native.Mathlib.Decide.{ℕ_discrete}
use native.Mathlib.Omega.{arith}
use lib.ListN.{length, length-append}
use Rattle.buffer.specs.Field.{word, zeros}
use Rattle.buffer.specs.Row.{row}
use Rattle.buffer.proofs.Fields.{zeros_length}
use Rattle.buffer.proofs.Stands.{Stands, stands_left, stands_right}
use Rattle.buffer.proofs.Rows.{row_from-length}
use Rattle.graph.specs.declared.Node.{Node}
use Rattle.graph.specs.declared.Node.TheVariants.{Entry, Merge}
use Rattle.graph.specs.Graph.{Graph, version_count, ancestor, is_entry, node_of}
use Rattle.command.specs.Code.{console_count}
use Rattle.room.specs.Room.{Room}
use Rattle.room.specs.Boards.{board_of}
use Rattle.room.proofs.Lengths.{board_of-length}
use Rattle.store.specs.Layout.{header_size, node_size, row_size, block_size, settings_at, count_at, spare_at, entries_at, commons_at, commons_end, common_at, block_at, row_at, board_at, common_field, common_fields, common_table, settings_bytes, header, node_bytes, block, blocks, encode}

pub common_fields-length : (r : Room) (c d n : ℕ) → length (common_fields r c d n) ≡ 2 * n
unfolding common_fields
common_fields-length r c d zero = refl
common_fields-length r c d (suc n) = rw (common_fields-length r c (suc d) n) (omega arith)

pub common_table-length : (r : Room) (c n : ℕ) → length (common_table r c n) ≡ 2 * console_count * n
unfolding common_table
common_table-length r c zero = refl
common_table-length r c (suc n) =
    rw (length-append, common_fields-length r c 0 console_count, common_table-length r (suc c) n) (omega arith)

pub header_length : (r : Room) → length (header r) ≡ header_size
unfolding header
header_length r =
    simp (length-append, zeros_length, row_from-length (is_entry r.versions) 0 row_size, common_table-length r 0 console_count)

pub node_bytes-length : (g : Graph) (n : Option Node) → length (node_bytes g n) ≡ node_size
unfolding node_bytes
node_bytes-length g none = refl
node_bytes-length g (some (Entry p code strip operand)) = refl
node_bytes-length g (some (Merge p q)) = refl

pub block_length : (g : Graph) (v : ℕ) → length (block g v) ≡ block_size
unfolding block
block_length g v =
    simp (length-append, node_bytes-length g (node_of g v), row_from-length (λ u. ancestor g u v) 0 row_size, board_of-length g v)

pub blocks_length : (g : Graph) (n : ℕ) → length (blocks g n) ≡ block_size * n
unfolding blocks
blocks_length g zero = refl
blocks_length g (suc n) = rw (length-append, blocks_length g n, block_length g n) (omega arith)

-- a field of a row of the table, a row of the table, a block of the blocks: each stands where its number says
stands_in_row : {s : List ℕ} {at : ℕ} (r : Room) (c d n k : ℕ) → Stands s at (common_fields r c d n) → k < n
    → Stands s (at + 2 * k) (word (common_field r c (d + k)))
unfolding common_fields
stands_in_row r c d zero k h l = absurd (not-suc-le-zero l)
stands_in_row {s} {at} r c d (suc n) zero h l =
    subst₂ (λ (i j : ℕ). Stands s i (word (common_field r c j))) (omega arith) (omega arith)
    (stands_left (word (common_field r c d)) (common_fields r c (suc d) n) h)
stands_in_row {s} {at} r c d (suc n) (suc k) h l =
    subst₂ (λ (i j : ℕ). Stands s i (word (common_field r c j))) (omega arith) (omega arith)
    (stands_in_row {at = at + 2} r c (suc d) n k (stands_right (word (common_field r c d)) (common_fields r c (suc d) n) h refl) (omega arith))

stands_in_rows : {s : List ℕ} {at : ℕ} (r : Room) (c n k : ℕ) → Stands s at (common_table r c n) → k < n
    → Stands s (at + 2 * console_count * k) (common_fields r (c + k) 0 console_count)
unfolding common_table
stands_in_rows r c zero k h l = absurd (not-suc-le-zero l)
stands_in_rows {s} {at} r c (suc n) zero h l =
    subst₂ (λ (i j : ℕ). Stands s i (common_fields r j 0 console_count)) (omega arith) (omega arith)
    (stands_left (common_fields r c 0 console_count) (common_table r (suc c) n) h)
stands_in_rows {s} {at} r c (suc n) (suc k) h l =
    subst₂ (λ (i j : ℕ). Stands s i (common_fields r j 0 console_count)) (omega arith) (omega arith)
    (stands_in_rows {at = at + 2 * console_count} r (suc c) n k
    (stands_right (common_fields r c 0 console_count) (common_table r (suc c) n) h (rw common_fields-length)) (omega arith))

-- a field of a table that stands anywhere
pub table_field : {s : List ℕ} (r : Room) (at : ℕ) → Stands s at (common_table r 0 console_count) → (c d : ℕ) → c < console_count → d < console_count
    → Stands s (at + 2 * (console_count * c + d)) (word (common_field r c d))
table_field {s} r at h c d i j =
    subst₂ (λ (k e : ℕ). Stands s k (word (common_field r c e))) (omega arith) (zero-add d)
    (stands_in_row r c 0 console_count d (rw zero-add at (stands_in_rows r 0 console_count c h i)) j)

stands_in_blocks : {s : List ℕ} {at : ℕ} (g : Graph) (n v : ℕ) → Stands s at (blocks g n) → v < n
    → Stands s (at + block_size * v) (block g v)
unfolding blocks
stands_in_blocks g zero v h l = absurd (not-suc-le-zero l)
stands_in_blocks {s} {at} g (suc n) v h l =
    elim (ℕ_discrete v n) [
      | yes e ↦ rw e (stands_right (blocks g n) (block g n) h (rw blocks_length))
      | no ne ↦ stands_in_blocks g n v (stands_left (blocks g n) (block g n) h) (omega arith)
    ]

-- the parts of a block that stands
module _ {s : List ℕ} (g : Graph) (v : ℕ) (h : Stands s (block_at v) (block g v)) where
  abbrev lineage : List ℕ
  lineage = row (λ u. ancestor g u v) row_size

  abbrev node : List ℕ
  node = node_bytes g (node_of g v)

  stands_ahead : Stands s (block_at v) (node ++ lineage)
  unfolding block
  stands_ahead = stands_left (node ++ lineage) (board_of g v) h

  block_node : Stands s (block_at v) (node_bytes g (node_of g v))
  block_node = stands_left node lineage stands_ahead

  pub block_row : Stands s (row_at v) (row (λ u. ancestor g u v) row_size)
  block_row = stands_right node lineage stands_ahead (rw node_bytes-length)

  pub block_board : Stands s (board_at v) (board_of g v)
  unfolding block
  block_board =
      stands_right (node ++ lineage) (board_of g v) h
      (simp (length-append, node_bytes-length, row_from-length) (omega arith))

-- the unused parts of a header; its start, up to the row of the entry versions; that row; the table; the blocks of the versions, and those
-- that are free
abbrev pub spare : List ℕ
spare = zeros (entries_at - spare_at)

abbrev pub header_rest : List ℕ
header_rest = zeros (header_size - commons_end)

abbrev pub start_of : Room → List ℕ
start_of r = settings_bytes r.settings ++ word (version_count r.versions) ++ spare

abbrev pub entries_of : Room → List ℕ
entries_of r = row (is_entry r.versions) row_size

abbrev pub table_of : Room → List ℕ
table_of r = common_table r 0 console_count

abbrev pub filled_of : Room → List ℕ
filled_of r = blocks r.versions (version_count r.versions)

abbrev pub free_of : Room → List ℕ
free_of r = zeros (block_size * (r.settings.capacity - version_count r.versions))

-- bytes at whose front the encoding of a room stands
module _ {s : List ℕ} (r : Room) (h : Stands s 0 (encode r)) where
  stands_used : Stands s 0 (header r ++ filled_of r)
  unfolding encode
  stands_used = stands_left (header r ++ filled_of r) (free_of r) h

  stands_header : Stands s 0 (header r)
  stands_header = stands_left (header r) (filled_of r) stands_used

  stands_fields : Stands s 0 (start_of r ++ entries_of r ++ table_of r)
  unfolding header
  stands_fields = stands_left (start_of r ++ entries_of r ++ table_of r) header_rest stands_header

  stands_start : Stands s 0 (start_of r)
  stands_start = stands_left (start_of r) (entries_of r) (stands_left (start_of r ++ entries_of r) (table_of r) stands_fields)

  pub stands_settings : Stands s settings_at (settings_bytes r.settings)
  stands_settings =
      stands_left (settings_bytes r.settings) (word (version_count r.versions) ++ spare) stands_start

  pub stands_count : Stands s count_at (word (version_count r.versions))
  stands_count =
      stands_left (word (version_count r.versions)) spare
      (stands_right (settings_bytes r.settings) (word (version_count r.versions) ++ spare) stands_start refl)

  pub stands_entries : Stands s entries_at (entries_of r)
  stands_entries = stands_right (start_of r) (entries_of r) (stands_left (start_of r ++ entries_of r) (table_of r) stands_fields) refl

  stands_table : Stands s commons_at (table_of r)
  stands_table =
      stands_right (start_of r ++ entries_of r) (table_of r) stands_fields
      (simp row_from-length)

  -- the unused parts
  pub stands_spare : Stands s spare_at spare
  stands_spare =
      stands_right (settings_bytes r.settings ++ word (version_count r.versions)) spare stands_start refl

  pub stands_rest : Stands s commons_end header_rest
  unfolding header
  stands_rest =
      stands_right (start_of r ++ entries_of r ++ table_of r) header_rest stands_header
      (simp (length-append, row_from-length, common_table-length))

  pub stands_free : Stands s (block_at (version_count r.versions)) (free_of r)
  unfolding encode
  stands_free =
      stands_right (header r ++ filled_of r) (free_of r) h
      (simp (length-append, header_length, blocks_length) (omega arith))

  -- the field of two consoles
  pub stands_common : (c d : ℕ) → c < console_count → d < console_count → Stands s (common_at c d) (word (common_field r c d))
  stands_common = table_field r commons_at stands_table

  -- the block of a version, and what it is made of
  pub stands_block : (v : ℕ) → v < version_count r.versions → Stands s (block_at v) (block r.versions v)
  stands_block v l =
      stands_in_blocks r.versions (version_count r.versions) v
      (stands_right (header r) (filled_of r) stands_used (rw header_length)) l

  module _ (v : ℕ) (l : v < version_count r.versions) where
    pub stands_node : Stands s (block_at v) (node_bytes r.versions (node_of r.versions v))
    stands_node = block_node r.versions v (stands_block v l)

    pub stands_row : Stands s (row_at v) (row (λ u. ancestor r.versions u v) row_size)
    stands_row = block_row r.versions v (stands_block v l)

    pub stands_board : Stands s (board_at v) (board_of r.versions v)
    stands_board = block_board r.versions v (stands_block v l)
