-- The heads of a tape on the diagonal of a table: at each console stands its head, or 0.
-- Assumes nothing.
use mathlib.Core.Path.{◌≡◌, refl, ◌∙◌}
use mathlib.Core.Bool.{true, ◌&&◌}
use mathlib.Core.List.{List, [], ◌∷◌}
use mathlib.Core.Option
use mathlib.Core.Option.{Option, none, some}
use Prim.Native.Nat.{ℕ, suc, pred, ◌+◌, ◌≤◌, ◌<◌}
use native.Mathlib.Decide.{ℕ_discrete}
use native.Mathlib.Omega.{arith}
use lib.Dec.{ltb}
use lib.ListN.{length, get_or, get_or-replicate}
use lib.Seq.{get_or-set_same, get_or-set_other}
use borrow.Author.Tests.{eqb-true, ltb-true}
use Rattle.laws.proofs.Logic.{and_l, and_r}
use Rattle.buffer.specs.Field.{word}
use Rattle.buffer.proofs.Fields.{zeros_length}
use Rattle.buffer.proofs.Stands.{Stands, stands_kept, stands_word}
use Rattle.buffer.proofs.Parts.{stands_one, stands_join, put_stands}
use Rattle.buffer.proofs.Writes.{put_length, put_other_lem}
use Rattle.graph.specs.Graph.{Graph, version_count}
use Rattle.command.specs.Code.{console_count, is_console}
use Rattle.room.specs.Room.{Room, head_of}
use Rattle.store.specs.Layout.{header_size, common_at, head_from}
use Rattle.store.specs.Check.{common_in}
use Rattle.tape.specs.Tape.{Content, head_slots, room_of, consoles_rise, heads_named}
use Rattle.tape.proofs.Heads.{length_slots}
use Rattle.room.specs.Sound.{max_capacity}
use Rattle.resume.specs.Heads.{head_table}

-- the field of a head: 0 where there is none, else 1 more than the version
abbrev pub head_field : Option ℕ → ℕ
head_field none = 0
head_field (some v) = suc v

pub head_from_lem : (o : Option ℕ) → head_from (head_field o) ≡ o
head_from_lem none = refl
head_from_lem (some v) = refl

pub field_head : (o : Option ℕ) → pred (head_field o) ≡ Option.get_or o 0
field_head none = refl
field_head (some v) = refl

-- the heads of a room stand on the diagonal, and name versions
pub record Diagonal (r : Room) (t : List ℕ) : Type 0 where
  pub long : length t ≡ header_size
  pub slot : (c : ℕ) → c < console_count → Stands t (common_at c c) (word (head_field (head_of r c)))
  pub named : (c : ℕ) → c < console_count → head_field (head_of r c) ≤ version_count r.versions

pub diagonal_read : {r : Room} {t : List ℕ} → version_count r.versions ≤ max_capacity → Diagonal r t → (c : ℕ) → c < console_count
    → common_in t c c ≡ head_field (head_of r c)
diagonal_read {r} small d c l = stands_word (head_field (head_of r c)) (d.slot c l) (omega (arith, d.named c l))

-- heads of consoles that there are, and of the first n versions
pub data Listed (n : ℕ) : List (ℕ × ℕ) → Type 0 where
  no_heads : Listed n []
  one_head_lem : {h : ℕ × ℕ} {before : List (ℕ × ℕ)} → h.0 < console_count → h.1 < n → Listed n before → Listed n (h ∷ before)

pub heads_listed : (g : Graph) (heads : List (ℕ × ℕ)) → consoles_rise heads ≡ true → heads_named g heads ≡ true → Listed (version_count g) heads
unfolding consoles_rise heads_named
heads_listed g [] c n = no_heads
heads_listed g (h ∷ []) c n =
    one_head_lem {h = h} (omega (arith, eqb-true h.0 0 c)) (ltb-true h.1 (version_count g) (and_l (ltb h.1 (version_count g)) _ n)) no_heads
heads_listed g (h ∷ (b ∷ rest)) c n =
    one_head_lem {h = h}
    (ltb-true h.0 console_count (and_r (ltb b.0 h.0) (is_console h.0) (and_l (ltb b.0 h.0 && is_console h.0) _ c)))
    (ltb-true h.1 (version_count g) (and_l (ltb h.1 (version_count g)) _ n))
    (heads_listed g (b ∷ rest) (and_r (ltb b.0 h.0 && is_console h.0) _ c) (and_r (ltb h.1 (version_count g)) _ n))

table_length : (heads : List (ℕ × ℕ)) → length (head_table heads) ≡ header_size
unfolding head_table
table_length [] = zeros_length header_size
table_length (h ∷ before) = put_length (head_table before) (common_at h.0 h.0) (suc h.1) ∙ table_length before

module _ {n : ℕ} where
  table_slot : {heads : List (ℕ × ℕ)} → Listed n heads → (c : ℕ) → c < console_count
      → Stands (head_table heads) (common_at c c) (word (head_field (get_or (head_slots heads) c none)))
  unfolding head_table head_slots
  table_slot no_heads c l =
      rw (get_or-replicate {A = Option ℕ} console_count c none none l)
      (stands_join (0 ∷ []) (0 ∷ [])
      (stands_one (get_or-replicate header_size (common_at c c) 0 0 (omega arith)))
      (stands_one {at = common_at c c + 1} (get_or-replicate header_size (common_at c c + 1) 0 0 (omega arith))) refl)
  table_slot (one_head_lem {h = h} {before = before} a b rest) c l =
      let size = table_length before in
      elim (ℕ_discrete c h.0) [
        | yes e ↦
            rw (e, get_or-set_same (head_slots before) h.0 (some h.1) none (omega (arith, length_slots before)))
            (put_stands (head_table before) (common_at h.0 h.0) (suc h.1) (omega arith))
        | no d ↦
            rw (get_or-set_other (head_slots before) h.0 c (some h.1) none d)
            (stands_kept (table_slot rest c l)
            (λ i from to. put_other_lem (head_table before) (common_at h.0 h.0) (suc h.1) i (λ e. omega arith) (λ e. omega arith)))
      ]

  slot_named : {heads : List (ℕ × ℕ)} → Listed n heads → (c : ℕ) → c < console_count → head_field (get_or (head_slots heads) c none) ≤ n
  unfolding head_slots
  slot_named no_heads c l = rw (get_or-replicate {A = Option ℕ} console_count c none none l) (omega arith)
  slot_named (one_head_lem {h = h} {before = before} a b rest) c l =
      elim (ℕ_discrete c h.0) [
        | yes e ↦ rw (e, get_or-set_same (head_slots before) h.0 (some h.1) none (omega (arith, length_slots before))) b
        | no d ↦ rw (get_or-set_other (head_slots before) h.0 c (some h.1) none d) (slot_named rest c l)
      ]

-- the heads of a tape in range
pub heads_diagonal : (t : Content) → consoles_rise t.heads ≡ true → heads_named t.versions t.heads ≡ true
    → Diagonal (room_of t) (head_table t.heads)
heads_diagonal t rise named =
    let listed = heads_listed t.versions t.heads rise named in
    record { long = table_length t.heads; slot = table_slot listed; named = slot_named listed }
