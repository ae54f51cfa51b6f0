-- The test of the hub says of any table of a room's common versions, and of the row of its console 0's head, whether console 0 can be the hub.
-- Assumes nothing.
use mathlib.Core.Path.{◌≡◌, refl}
use mathlib.Core.Bool.{Bool, true, false, cond, not, ◌&&◌, ◌||◌}
use mathlib.Core.List.{List}
use Prim.Native.Nat.{ℕ, suc, pred, ◌≤◌, ◌<◌}
use native.Mathlib.Omega.{arith}
use lib.Dec.{eqb, leb, ltb, eqb-suc-zero}
use lib.ListN.{length}
use borrow.Author.Tests.{eqb-true, leb-true, ltb-true}
use Rattle.laws.proofs.Logic.{and_l, and_r}
use Rattle.buffer.specs.Row.{row, member}
use Rattle.buffer.proofs.Rows.{member_row}
use Rattle.graph.specs.Below.{every_below}
use Rattle.graph.specs.Graph.{version_count, ancestor}
use Rattle.graph.proofs.Below.{at, every_ext}
use Rattle.graph.proofs.Meet.{meet_number-below}
use Rattle.command.specs.Code.{console_count}
use Rattle.room.specs.Room.{Room, present, head, common}
use Rattle.room.specs.Sound.{max_capacity, common_behind_hub, can_make_hub}
use Rattle.store.specs.Layout.{row_size, store_size, block_at, field_where, common_field}
use Rattle.store.specs.Check.{common_in, pair_right, console_right, common_in_row, commons_in_row, contents_right}

-- a table with the fields of a room, whose versions fit a row
module _ (s : List ℕ) (r : Room) (small : version_count r.versions ≤ max_capacity) where
  abbrev lineage : List ℕ
  lineage = row (λ u. ancestor r.versions u (head r 0)) row_size

  pair_told : (c d : ℕ) → common_in s c d ≡ common_field r c d → common_in_row s lineage c d ≡ common_behind_hub r c d
  unfolding common
  pair_told c d e = rw e (go (present r c) (present r d))
    where
      go : (p q : Bool) → (eqb (field_where (p && q) r c d) 0 || member lineage (pred (field_where (p && q) r c d)))
          ≡ (not p || not q || ancestor r.versions (common r c d) (head r 0))
      go true true =
          rw eqb-suc-zero
          (member_row (λ u. ancestor r.versions u (head r 0)) row_size (common r c d) (omega (arith, meet_number-below r.versions (head r c) (head r d))))
      go true false = refl
      go false q = refl

  pub hub_told : ((c d : ℕ) → c < console_count → d < console_count → common_in s c d ≡ common_field r c d) → commons_in_row s lineage ≡ can_make_hub r
  unfolding commons_in_row can_make_hub
  hub_told fields =
      every_ext console_count _ _ (λ c l. every_ext c _ _ (λ d m. pair_told c d (fields c d l (omega arith))))

-- in bytes that pass the tests before it, the fields are those of versions, and the block of the head lies inside
pub fields_small : (s : List ℕ) (capacity n : ℕ) → contents_right s capacity n ≡ true → (c d : ℕ) → c < console_count → d < c → common_in s c d ≤ n
unfolding contents_right console_right pair_right
fields_small s capacity n h c d l m =
    let consoles : every_below console_count (console_right s n) ≡ true = search (and_l, and_r) depth 12 in
    let pairs = and_r (leb (common_in s c c) n) _ (at console_count (console_right s n) consoles c l) in
    field (eqb (common_in s c c) 0 || eqb (common_in s d d) 0) _ (and_r (eqb (common_in s d c) (common_in s c d)) _ (at c (pair_right s n c) pairs d m))
  where
    field : (away : Bool) (rows : Bool) → cond away (eqb (common_in s c d) 0) (ltb 0 (common_in s c d) && leb (common_in s c d) n && rows) ≡ true → common_in s c d ≤ n
    field true rows t = omega (arith, eqb-true (common_in s c d) 0 t)
    field false rows t = leb-true (common_in s c d) n (search (and_l, and_r))

pub contents_fit : (s : List ℕ) (capacity n : ℕ) → contents_right s capacity n ≡ true → n ≤ capacity
unfolding contents_right
contents_fit s capacity n h = leb-true n capacity (search (and_l, and_r) depth 12)

pub head_inside : (s : List ℕ) (capacity n : ℕ) → contents_right s capacity n ≡ true → store_size capacity ≤ length s
    → block_at (suc (pred (common_in s 0 0))) ≤ length s
unfolding contents_right console_right
head_inside s capacity n h room =
    let consoles : every_below console_count (console_right s n) ≡ true = search (and_l, and_r) depth 12 in
    let fits = contents_fit s capacity n h in
    let low = leb-true (common_in s 0 0) n (and_l _ _ (at console_count (console_right s n) consoles 0 (omega arith))) in
    let some = ltb-true 0 (common_in s 0 0) (search (and_l, and_r) depth 12) in
    omega arith
