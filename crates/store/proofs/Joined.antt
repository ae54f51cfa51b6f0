-- The encoding of a room stands at the front of bytes where each of its parts stands in its place, and nowhere else.
-- Assumes nothing.
use mathlib.Core.Path.{refl, subst, subst₂}
use mathlib.Core.List.{List, [], ◌++◌}
use Prim.Native.Nat.{ℕ, zero, suc, ◌+◌, ◌*◌, ◌<◌}
use native.Mathlib.Nat.{zero-add}
use native.Mathlib.Omega.{arith}
use lib.ListN.{length-append}
use Rattle.buffer.specs.Field.{word}
use Rattle.buffer.proofs.Rows.{row_from-length}
use Rattle.buffer.proofs.Stands.{Stands}
use Rattle.buffer.proofs.Parts.{stands_join}
use Rattle.graph.specs.Graph.{Graph, version_count, node_of}
use Rattle.command.specs.Code.{console_count}
use Rattle.room.specs.Room.{Room}
use Rattle.room.specs.Boards.{board_of}
use Rattle.store.specs.Layout.{header_size, settings_at, count_at, spare_at, entries_at, commons_at, commons_end, common_at, block_at, row_at, board_at, common_field, common_fields, common_table, settings_bytes, header, node_bytes, block, blocks, encode}
use Rattle.store.proofs.Blocks.{common_fields-length, common_table-length, header_length, node_bytes-length, blocks_length, stands_settings, stands_count, stands_entries, stands_common, stands_block, stands_spare, stands_rest, stands_free, spare, header_rest, start_of, entries_of, table_of, filled_of, free_of}
use Rattle.store.proofs.Lineage.{lineage}

nothing_stands : {s : List ℕ} {at : ℕ} → Stands s at []
nothing_stands = record { read = λ i p. absurd (omega arith) }

-- a row of the table, the table, the blocks
join_fields : {s : List ℕ} {at : ℕ} (r : Room) (c d n : ℕ) → ((k : ℕ) → k < n → Stands s (at + 2 * k) (word (common_field r c (d + k))))
    → Stands s at (common_fields r c d n)
unfolding common_fields
join_fields r c d zero h = nothing_stands
join_fields {s} {at} r c d (suc n) h =
    stands_join {to = at + 2} (word (common_field r c d)) (common_fields r c (suc d) n)
    (subst₂ (λ (i j : ℕ). Stands s i (word (common_field r c j))) (omega arith) (omega arith) (h 0 (omega arith)))
    (join_fields {at = at + 2} r c (suc d) n
    (λ k l. subst₂ (λ (i j : ℕ). Stands s i (word (common_field r c j))) (omega arith) (omega arith) (h (suc k) (omega arith))))
    refl

join_table : {s : List ℕ} {at : ℕ} (r : Room) (c n : ℕ) → ((k : ℕ) → k < n → Stands s (at + 2 * console_count * k) (common_fields r (c + k) 0 console_count))
    → Stands s at (common_table r c n)
unfolding common_table
join_table r c zero h = nothing_stands
join_table {s} {at} r c (suc n) h =
    stands_join {to = at + 2 * console_count} (common_fields r c 0 console_count) (common_table r (suc c) n)
    (subst₂ (λ (i j : ℕ). Stands s i (common_fields r j 0 console_count)) (omega arith) (omega arith) (h 0 (omega arith)))
    (join_table {at = at + 2 * console_count} r (suc c) n
    (λ k l. subst₂ (λ (i j : ℕ). Stands s i (common_fields r j 0 console_count)) (omega arith) (omega arith) (h (suc k) (omega arith))))
    (rw common_fields-length)

join_blocks : {s : List ℕ} (g : Graph) (n : ℕ) → ((v : ℕ) → v < n → Stands s (block_at v) (block g v)) → Stands s header_size (blocks g n)
unfolding blocks
join_blocks g zero h = nothing_stands
join_blocks g (suc n) h =
    stands_join (blocks g n) (block g n) (join_blocks g n (λ v l. h v (omega arith))) (h n (omega arith)) (rw blocks_length)

pub join_block : {s : List ℕ} (g : Graph) (v : ℕ) → Stands s (block_at v) (node_bytes g (node_of g v)) → Stands s (row_at v) (lineage g v)
    → Stands s (board_at v) (board_of g v) → Stands s (block_at v) (block g v)
unfolding block
join_block g v a b c =
    stands_join (node_bytes g (node_of g v) ++ lineage g v) (board_of g v)
    (stands_join (node_bytes g (node_of g v)) (lineage g v) a b (rw node_bytes-length)) c
    (simp (length-append, node_bytes-length, row_from-length) (omega arith))

-- the parts of an encoding, each in its place
pub record Placed (s : List ℕ) (r : Room) : Type 0 where
  pub settings : Stands s settings_at (settings_bytes r.settings)
  pub count : Stands s count_at (word (version_count r.versions))
  pub gap : Stands s spare_at spare
  pub entries : Stands s entries_at (entries_of r)
  pub commons : (c d : ℕ) → c < console_count → d < console_count → Stands s (common_at c d) (word (common_field r c d))
  pub rest : Stands s commons_end header_rest
  pub versions : (v : ℕ) → v < version_count r.versions → Stands s (block_at v) (block r.versions v)
  pub free : Stands s (block_at (version_count r.versions)) (free_of r)

module _ {s : List ℕ} (r : Room) where
  pub join_commons_lem : (at : ℕ) → ((c d : ℕ) → c < console_count → d < console_count → Stands s (at + 2 * (console_count * c + d)) (word (common_field r c d)))
      → Stands s at (common_table r 0 console_count)
  join_commons_lem at h =
      join_table r 0 console_count
      (λ c i. join_fields r (0 + c) 0 console_count
      (λ d j. rw (zero-add c, zero-add d) (subst (λ (k : ℕ). Stands s k (word (common_field r c d))) (omega arith) (h c d i j))))

  join_header : Placed s r → Stands s 0 (header r)
  unfolding header
  join_header p =
      stands_join (start_of r ++ entries_of r ++ table_of r) header_rest
      (stands_join (start_of r ++ entries_of r) (table_of r)
      (stands_join (start_of r) (entries_of r)
      (stands_join (settings_bytes r.settings) (word (version_count r.versions) ++ spare) p.settings
      (stands_join (word (version_count r.versions)) spare p.count p.gap refl) refl)
      p.entries refl)
      (join_commons_lem commons_at p.commons) (simp row_from-length))
      p.rest (simp (length-append, row_from-length, common_table-length))

  pub join_encode : Placed s r → Stands s 0 (encode r)
  unfolding encode
  join_encode p =
      stands_join (header r ++ filled_of r) (free_of r)
      (stands_join (header r) (filled_of r) (join_header p) (join_blocks r.versions (version_count r.versions) p.versions) (rw header_length))
      p.free
      (simp (length-append, header_length, blocks_length) (omega arith))

  -- each part in its place again
  pub placed : Stands s 0 (encode r) → Placed s r
  placed h =
      record {
        settings = stands_settings r h;
        count = stands_count r h;
        gap = stands_spare r h;
        entries = stands_entries r h;
        commons = stands_common r h;
        rest = stands_rest r h;
        versions = stands_block r h;
        free = stands_free r h;
      }
