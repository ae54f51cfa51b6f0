-- A buffer cleared and given the parts of a fresh room holds the fresh room's store.
-- Assumes nothing.
use mathlib.Core.Path.{◌≡◌, refl, sym, ap, ◌∙◌, subst}
use mathlib.Core.Bool.{false, ◌&&◌, true}
use mathlib.Core.List.{List, [], ◌∷◌, ◌++◌}
use mathlib.Core.Option.{none}
use Prim.Native.Nat.{ℕ, zero, suc, ◌+◌, ◌-◌, ◌*◌, ◌≤◌, ◌<◌}
use native.Mathlib.Omega.{arith}
use lib.ListN.{length, get_or, set, take, drop, length-append, length-drop, length-replicate, get_or-replicate, get_or-append}
use lib.Seq.{length-take-le, get_or-drop, get_or-append-add}
use Rattle.buffer.specs.Field.{word, zeros, put_word, with_part, overwrite}
use Rattle.buffer.proofs.Fields.{zeros_length}
use Rattle.buffer.proofs.Stands.{Stands}
use Rattle.buffer.proofs.Parts.{stands_join}
use Rattle.buffer.proofs.Patches.{set_part, with_length, with_outside, with_stands, with_kept, word_part}
use Rattle.graph.specs.Graph.{node_of, is_some}
use Rattle.graph.proofs.Meet.{meet_number-self}
use Rattle.command.specs.Code.{console_count}
use Rattle.room.specs.Room.{Room, present, common, fresh_room}
use Rattle.room.specs.declared.Settings.{Settings}
use Rattle.room.specs.Sound.{settings_in_range}
use Rattle.room.specs.Boards.{board_of}
use Rattle.room.proofs.Sound.{capacity_range}
use Rattle.room.proofs.Steps.{fresh_sound}
use Rattle.store.specs.Layout.{header_size, node_size, row_size, block_size, store_size, settings_at, settings_end, count_at, spare_at, entries_at, commons_end, common_at, head_at, block_at, row_at, board_at, common_field, settings_bytes, node_bytes, block, encode}
use Rattle.board.specs.Board.{board_size}
use Rattle.store.proofs.Behind.{empty_row}
use Rattle.store.proofs.Lineage.{root_lineage}
use Rattle.store.proofs.Joined.{Placed, join_block, join_encode}
use Rattle.store.proofs.Overwritten.{overwritten}

-- no byte of the parts that are written
abbrev Unwritten : ℕ → Type 0
Unwritten k =
    (settings_at ≤ k → k < settings_end → ⊥) × (count_at ≤ k → k < count_at + 2 → ⊥) × (head_at 0 ≤ k → k < head_at 0 + 2 → ⊥)
    × (row_at 0 ≤ k → k < row_at 0 + 1 → ⊥)

-- the bytes of a fresh store: these parts, zero elsewhere, and behind the store the old ones
record Opened (s t : List ℕ) (settings : Settings) : Type 0 where
  long : length t ≡ length s
  set_to : Stands t settings_at (settings_bytes settings)
  one : Stands t count_at (word 1)
  field : Stands t (head_at 0) (word 1)
  own : Stands t (row_at 0) (1 ∷ [])
  none : (k : ℕ) → Unwritten k → k < store_size settings.capacity → get_or t k 0 ≡ 0
  kept : (k : ℕ) → store_size settings.capacity ≤ k → get_or t k 0 ≡ get_or s k 0

module _ {s t : List ℕ} {settings : Settings} (room : 1 ≤ settings.capacity) (o : Opened s t settings) where
  abbrev r : Room
  r = fresh_room settings

  -- a run of zeros that meets none of those parts
  zeros_stand : (at n : ℕ) → at + n ≤ store_size settings.capacity → ((k : ℕ) → at ≤ k → k < at + n → Unwritten k) → Stands t at (zeros n)
  zeros_stand at n high apart =
      record {
        read = λ i l.
            let l' : i < n = rw (zeros_length n) at l in
            o.none (at + i) (apart (at + i) (omega arith) (omega arith)) (omega arith) ∙ sym (get_or-replicate n i 0 0 l');
      }

  away : (c : ℕ) → 0 < c → c < console_count → present r c ≡ false
  away zero l k = absurd (omega arith)
  away (suc c) l k = ap is_some (get_or-replicate (console_count - 1) c none none (omega arith))

  -- the table: console 0 alone is present, on version 0
  no_field : (c d : ℕ) → present r c && present r d ≡ false → 0 < c + d → c < console_count → d < console_count
      → Stands t (common_at c d) (word (common_field r c d))
  no_field c d e l i j = rw e (zeros_stand (common_at c d) 2 (omega (arith, room)) (λ k a b. omega arith))

  fields : (c d : ℕ) → c < console_count → d < console_count → Stands t (common_at c d) (word (common_field r c d))
  unfolding common
  fields zero zero i j = rw (meet_number-self [] 0 (omega arith)) o.field
  fields zero (suc d) i j = no_field zero (suc d) (rw (away (suc d) (omega arith) j)) (omega arith) i j
  fields (suc c) d i j = no_field (suc c) d (rw (away (suc c) (omega arith) i)) (omega arith) i j

  -- the block of version 0
  root : Stands t (block_at 0) (block [] 0)
  unfolding node_bytes node_of board_of
  root =
      join_block [] 0
      (zeros_stand (block_at 0) node_size (omega (arith, room)) (λ k a b. omega arith))
      (subst (Stands t (row_at 0)) root_lineage
      (stands_join (1 ∷ []) (zeros (row_size - 1)) o.own (zeros_stand (row_at 0 + 1) (row_size - 1) (omega (arith, room)) (λ k a b. omega arith)) refl))
      (zeros_stand (board_at 0) board_size (omega (arith, room)) (λ k a b. omega arith))

  placed : Placed t r
  unfolding node_of
  placed =
      record {
        settings = o.set_to;
        count = o.one;
        gap = zeros_stand spare_at (entries_at - spare_at) (omega arith) (λ k a b. omega arith);
        entries = subst (Stands t entries_at) empty_row (zeros_stand entries_at row_size (omega arith) (λ k a b. omega arith));
        commons = fields;
        rest = zeros_stand commons_end (header_size - commons_end) (omega arith) (λ k a b. omega arith);
        versions = λ v l. let e : v ≡ 0 = omega arith in rw e root;
        free = zeros_stand (block_at 1) (block_size * (settings.capacity - 1)) (omega (arith, room)) (λ k a b. omega arith);
      }

-- a list with the parts of a fresh room, one written after the other
module _ (l : List ℕ) (settings : Settings) where
  abbrev first : List ℕ
  first = with_part l settings_at (settings_bytes settings)

  abbrev second : List ℕ
  second = with_part first count_at (word 1)

  abbrev third : List ℕ
  third = with_part second (head_at 0) (word 1)

  abbrev filled : List ℕ
  filled = with_part third (row_at 0) (1 ∷ [])

  module _ (long : block_at 1 ≤ length l) where
    first_long : length first ≡ length l
    first_long = with_length l (settings_bytes settings) settings_at (omega arith)

    second_long : length second ≡ length l
    second_long = with_length first (word 1) count_at (omega (arith, first_long)) ∙ first_long

    third_long : length third ≡ length l
    third_long = with_length second (word 1) (head_at 0) (omega (arith, second_long)) ∙ second_long

    others : (k : ℕ) → Unwritten k → get_or filled k 0 ≡ get_or l k 0
    others k e =
        with_outside third (1 ∷ []) (row_at 0) (omega (arith, third_long)) k e.3
        ∙ with_outside second (word 1) (head_at 0) (omega (arith, second_long)) k e.2
        ∙ with_outside first (word 1) count_at (omega (arith, first_long)) k e.1
        ∙ with_outside l (settings_bytes settings) settings_at (omega arith) k e.0

    -- what the later writes leave standing
    past_third : {at : ℕ} {xs : List ℕ} → Stands third at xs → at + length xs ≤ row_at 0 → Stands filled at xs
    past_third h b = with_kept third (1 ∷ []) (row_at 0) (omega (arith, third_long)) h (λ k x y. omega arith)

    past_second : {at : ℕ} {xs : List ℕ} → Stands second at xs → at + length xs ≤ head_at 0 → Stands filled at xs
    past_second h b =
        past_third (with_kept second (word 1) (head_at 0) (omega (arith, second_long)) h (λ k x y. omega arith)) (omega arith)

    filled_opened : (s : List ℕ) → length l ≡ length s → ((k : ℕ) → k < store_size settings.capacity → get_or l k 0 ≡ 0)
        → ((k : ℕ) → store_size settings.capacity ≤ k → get_or l k 0 ≡ get_or s k 0) → 1 ≤ settings.capacity → Opened s filled settings
    filled_opened s e clear kept room =
        let there = with_stands l (settings_bytes settings) settings_at (omega arith) in
        record {
          long = with_length third (1 ∷ []) (row_at 0) (omega (arith, third_long)) ∙ third_long ∙ e;
          set_to = past_second (with_kept first (word 1) count_at (omega (arith, first_long)) there (λ k x y. omega arith)) (omega arith);
          one = past_second (with_stands first (word 1) count_at (omega (arith, first_long))) (omega arith);
          field = past_third (with_stands second (word 1) (head_at 0) (omega (arith, second_long))) (omega arith);
          own = with_stands third (1 ∷ []) (row_at 0) (omega (arith, third_long));
          none = λ k a b. others k a ∙ clear k b;
          kept = λ k a. others k (omega arith) ∙ kept k a;
        }

-- a cleared front, and the bytes behind it
module _ (s : List ℕ) (n : ℕ) (fits : n ≤ length s) where
  abbrev cleared : List ℕ
  cleared = zeros n ++ drop n s

  cleared_length : length cleared ≡ length s
  cleared_length = simp (length-append, length-replicate, length-drop) (omega arith)

  cleared_front : (k : ℕ) → k < n → get_or cleared k 0 ≡ 0
  cleared_front k l = get_or-append (zeros n) (drop n s) 0 k (rw (zeros_length n) l) ∙ get_or-replicate n k 0 0 l

  cleared_rest : (k : ℕ) → n ≤ k → get_or cleared k 0 ≡ get_or s k 0
  cleared_rest k l =
      let at : length (zeros n) + (k - n) ≡ k = rw (zeros_length n) (omega arith) in
      let past : n + (k - n) ≡ k = omega arith in
      ap (λ (i : ℕ). get_or cleared i 0) (sym at) ∙ get_or-append-add (zeros n) (drop n s) (k - n) 0 ∙ get_or-drop n s (k - n) 0
      ∙ ap (λ (i : ℕ). get_or s i 0) past

filled_fresh : (s : List ℕ) (settings : Settings) → settings_in_range settings ≡ true → (fits : store_size settings.capacity ≤ length s)
    → filled (cleared s (store_size settings.capacity) fits) settings ≡ overwrite (encode (fresh_room settings)) s
filled_fresh s settings range fits =
    let n = store_size settings.capacity in
    let room = (capacity_range settings range).0 in
    let long = cleared_length s n fits in
    let o = filled_opened (cleared s n fits) settings (omega arith) s long (cleared_front s n fits) (cleared_rest s n fits) room in
    overwritten s _ (fresh_room settings) (fresh_sound settings range) (join_encode (fresh_room settings) (placed room o)) fits o.long o.kept

-- the same, write by write
pub opened : (s x a b d : List ℕ) (settings : Settings) (end : ℕ) → settings_in_range settings ≡ true → store_size settings.capacity ≤ length s
    → end ≡ store_size settings.capacity → x ≡ zeros (length (take end s)) → a ≡ with_part (x ++ drop end s) settings_at (settings_bytes settings)
    → b ≡ put_word a count_at 1 → d ≡ put_word b (head_at 0) 1 → set d (row_at 0) 1 ≡ overwrite (encode (fresh_room settings)) s
opened s x a b d settings end range fits there front e₁ e₂ e₃ =
    let n = store_size settings.capacity in
    let room = (capacity_range settings range).0 in
    let l : List ℕ = cleared s n fits in
    let long : block_at 1 ≤ length l = omega (arith, cleared_length s n fits) in
    let is₁ : a ≡ first l settings = rw (e₁, front, there, length-take-le n s fits) in
    let is₂ : b ≡ second l settings = e₂ ∙ rw is₁ (word_part (first l settings) count_at 1 (omega (arith, first_long l settings long))) in
    let is₃ : d ≡ third l settings = e₃ ∙ rw is₂ (word_part (second l settings) (head_at 0) 1 (omega (arith, second_long l settings long))) in
    rw is₃ (set_part (third l settings) (row_at 0) 1 (omega (arith, third_long l settings long))) ∙ filled_fresh s settings range fits
