-- The heads of a tape in range, judged: the table that they make, whether every two have a meet, and what the table then is.
-- Assumes nothing.
use mathlib.Core.Path.{◌≡◌, sym, ap, subst, ◌∙◌}
use mathlib.Core.Bool.{Bool, true, not, ◌&&◌, ◌||◌}
use mathlib.Core.List.{List}
use Prim.Native.Nat.{ℕ, pred, ◌+◌, ◌*◌, ◌≤◌, ◌<◌}
use native.Mathlib.Omega.{arith}
use lib.Dec.{ltb}
use lib.ListN.{length}
use Rattle.buffer.specs.Field.{part, same}
use Rattle.buffer.specs.Row.{row}
use Rattle.buffer.proofs.Stands.{stands_word}
use Rattle.buffer.proofs.Parts.{part_stands}
use Rattle.graph.specs.Graph.{version_count, ancestor}
use Rattle.command.specs.Code.{console_count}
use Rattle.room.specs.Room.{head_of, present, head}
use Rattle.room.specs.Sound.{heads_meet, all_behind_heads, hub_is_right, max_capacity}
use Rattle.store.specs.Layout.{header_size, row_size, commons_at, commons_size, head_from, common_field, common_table}
use Rattle.store.specs.Check.{common_in, behind_heads, commons_in_row}
use Rattle.store.proofs.Blocks.{common_table-length, table_field}
use Rattle.store.proofs.Reading.{field_below}
use Rattle.store.proofs.HubTold.{hub_told}
use Rattle.store.proofs.Behind.{behind_row, behind_judged}
use Rattle.tape.specs.Tape.{Content, room_of, consoles_rise, heads_named}
use Rattle.resume.specs.Rows.{RowsOf}
use Rattle.resume.specs.Heads.{head_table, with_consoles, table_meets}
use Rattle.resume.proofs.HeadSlots.{head_field, head_from_lem, field_head, Diagonal, diagonal_read, heads_diagonal}
use Rattle.resume.proofs.HeadMeets.{table_judged, table_filled, table_diagonal}

module _ (t : Content) (rise : consoles_rise t.heads ≡ true) (named : heads_named t.versions t.heads ≡ true)
    {header : List ℕ} (made : header ≡ head_table t.heads) where
  diagonal : Diagonal (room_of t) header
  diagonal = subst (Diagonal (room_of t)) (sym made) (heads_diagonal t rise named)

  pub heads_long : length header ≡ header_size
  heads_long = diagonal.long

  module _ (small : version_count t.versions ≤ max_capacity) where
    pub heads_low : (k : ℕ) → k < console_count → common_in header k k ≤ max_capacity
    heads_low k l = omega (arith, diagonal_read small diagonal k l, diagonal.named k l)

    pub heads_judged : {rows after : List ℕ} {r : Bool} → RowsOf rows t.versions → r ≡ table_meets rows header console_count → after ≡ with_consoles rows header console_count
        → (r ≡ heads_meet (room_of t)) × (r ≡ true → part after commons_at commons_size ≡ common_table (room_of t) 0 console_count)
    heads_judged {rows} shown er ea =
        let met = er ∙ table_judged (room_of t) rows shown small diagonal in
        (met, λ h. ap (λ (u : List ℕ). part u commons_at commons_size) ea ∙ table_filled (room_of t) rows shown small diagonal (sym met ∙ h))

-- a header with the table of the tape's room, and the versions behind its heads
module _ (t : Content) (rise : consoles_rise t.heads ≡ true) (named : heads_named t.versions t.heads ≡ true)
    (small : version_count t.versions ≤ max_capacity) {rows : List ℕ} (shown : RowsOf rows t.versions)
    (header : List ℕ) (long : length header ≡ header_size) (written : part header commons_at commons_size ≡ common_table (room_of t) 0 console_count) where
  filled : Diagonal (room_of t) header
  filled = table_diagonal (room_of t) (heads_diagonal t rise named).named header long written

  own : (k : ℕ) → k < console_count → common_in header k k ≡ head_field (head_of (room_of t) k)
  own = diagonal_read small filled

  pub rows_inside : (k : ℕ) → k < console_count → 0 < common_in header k k → row_size * pred (common_in header k k) + row_size ≤ length rows
  rows_inside k l p = let all = shown.long in omega (arith, own k l, filled.named k l)

  pub behind_told : {n : ℕ} {r : Bool} → n ≡ version_count t.versions
      → r ≡ same (behind_heads header (λ v. part rows (row_size * v) row_size) console_count) (row (λ v. ltb v n) row_size)
      → r ≡ all_behind_heads (room_of t)
  behind_told {n} e er =
      let heads : (c : ℕ) → c < console_count → head_of (room_of t) c ≡ head_from (common_in header c c) =
      λ c l. sym (ap head_from (own c l) ∙ head_from_lem (head_of (room_of t) c)) in
      let lines : (v : ℕ) → v < version_count t.versions → part rows (row_size * v) row_size ≡ row (λ u. ancestor t.versions u v) row_size =
      λ v l. shown.shown v l in
      er
      ∙ rw e
      (behind_judged (room_of t) small
      (behind_row header (room_of t) heads (λ v. part rows (row_size * v) row_size) lines (λ c l. omega (arith, own c l, filled.named c l))))

  -- the fields are the room's, so that the test of the hub says of the tape's room whether console 0 could be made the hub
  fields : (c d : ℕ) → c < console_count → d < console_count → common_in header c d ≡ common_field (room_of t) c d
  fields c d i j =
      stands_word {s = header} (common_field (room_of t) c d)
      (table_field {s = header} (room_of t) commons_at (part_stands commons_size written (common_table-length (room_of t) 0 console_count)) c d i j)
      (omega (arith, field_below (present (room_of t) c && present (room_of t) d) (room_of t) c d))

  pub fields_low : (c d : ℕ) → c < console_count → d < console_count → common_in header c d ≤ max_capacity
  fields_low c d i j = omega (arith, fields c d i j, field_below (present (room_of t) c && present (room_of t) d) (room_of t) c d)

  pub hub_judged : {hub r : Bool} → hub ≡ t.settings.hub → r ≡ (not hub || commons_in_row header (part rows (row_size * pred (common_in header 0 0)) row_size))
      → r ≡ hub_is_right (room_of t)
  hub_judged eh er =
      let first : pred (common_in header 0 0) ≡ head (room_of t) 0 = ap pred (own 0 (omega arith)) ∙ field_head (head_of (room_of t) 0) in
      let line = shown.shown (pred (common_in header 0 0)) (omega (arith, own 0 (omega arith), filled.named 0 (omega arith))) in
      er ∙ rw (eh, line, first) (ap (λ (can : Bool). not t.settings.hub || can) (hub_told header (room_of t) small fields))
