-- The number of members of a row of bits is the number of versions that it shows; so the members that a head's row has in common with the
-- row of the entries are the entries that the console has heard.
-- Assumes nothing.
use mathlib.Core.Path.{◌≡◌, refl, ap, ap₂, ◌∙◌}
use mathlib.Core.Bool.{Bool, true, false, cond, ◌&&◌}
use mathlib.Core.List.{List}
use Prim.Native.Nat.{ℕ, zero, suc, ◌+◌, ◌*◌, ◌<◌}
use native.Mathlib.Nat.{zero-add}
use native.Mathlib.Omega.{arith}
use lib.Count.{ones}
use Rattle.buffer.specs.Row.{bit, row_byte, row_from, row, intersection, member_count}
use Rattle.buffer.proofs.Ones.{byte_members}
use Rattle.buffer.proofs.Sets.{row_intersection}
use Rattle.graph.specs.Below.{count_below}
use Rattle.graph.specs.Graph.{version_count, is_entry, ancestor}
use Rattle.graph.proofs.Below.{count_past}
use Rattle.room.specs.Room.{head, heard_count}
use Rattle.room.specs.Sound.{max_capacity}
use Rattle.store.specs.Layout.{row_size, room_in, holds_store}
use Rattle.store.specs.Check.{row_part, entries_part}
use Rattle.store.proofs.Shown.{no_entry}
use Rattle.store.proofs.Whole.{whole_small, whole_entries, whole_held}

one_more : (f : ℕ → Bool) (v n : ℕ) → n ≡ suc v → count_below n f ≡ count_below v f + bit (f v)
unfolding count_below
one_more f v n e = rw e (ap (λ (k : ℕ). count_below v f + k) (weight (f v)))
  where
    weight : (b : Bool) → cond b 1 0 ≡ bit b
    weight true = refl
    weight false = refl

eight_more : (f : ℕ → Bool) (v : ℕ) → count_below (v + 8) f ≡ count_below v f + ones (row_byte f v)
eight_more f v =
    omega (
      arith,
      byte_members f v,
      one_more f v (v + 1) (omega arith),
      one_more f (v + 1) (v + 2) (omega arith),
      one_more f (v + 2) (v + 3) (omega arith),
      one_more f (v + 3) (v + 4) (omega arith),
      one_more f (v + 4) (v + 5) (omega arith),
      one_more f (v + 5) (v + 6) (omega arith),
      one_more f (v + 6) (v + 7) (omega arith),
      one_more f (v + 7) (v + 8) (omega arith),
    )

members_from : (f : ℕ → Bool) (v n : ℕ) → count_below v f + member_count (row_from f v n) ≡ count_below (v + 8 * n) f
unfolding row_from member_count
members_from f v zero = let e : v + 8 * 0 ≡ v = omega arith in rw e (omega arith)
members_from f v (suc n) =
    let e : v + 8 * suc n ≡ v + 8 + 8 * n = omega arith in
    rw e (omega (arith, eight_more f v, members_from f (v + 8) n))

row_members : (f : ℕ → Bool) (n : ℕ) → member_count (row f n) ≡ count_below (8 * n) f
unfolding count_below
row_members f n = omega (arith, rw (zero-add (8 * n)) at (members_from f 0 n))

module _ (s : List ℕ) (t : holds_store s ≡ true) where
  pub heard_answer : (c v : ℕ) → v ≡ head (room_in s) c → v < version_count (room_in s).versions
      → member_count (intersection (entries_part s) (row_part s v)) ≡ heard_count (room_in s) c
  unfolding heard_count
  heard_answer c v e l =
      let g = (room_in s).versions in
      ap member_count
      (ap₂ intersection (whole_entries s t) ((whole_held s t).told v l).line
      ∙ row_intersection (is_entry g) (λ u. ancestor g u v) row_size)
      ∙ row_members (λ u. is_entry g u && ancestor g u v) row_size
      ∙ count_past (version_count g) max_capacity (λ u. is_entry g u && ancestor g u v) (whole_small s t) (λ u k. rw (no_entry g u k))
      ∙ ap (λ (h : ℕ). count_below (version_count g) (λ u. is_entry g u && ancestor g u h)) e
