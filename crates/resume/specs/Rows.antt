-- The ancestry rows of a tape's versions in an array of their own, one behind the other, and what two rows have in common.
use Rattle.std.specs.Prelude.{ℕ, suc, ◌*◌, ◌<◌, ◌≡◌, Bool, true, false, ◌&&◌, List, length}
use Rattle.std.proofs.Math.Option.{get_or}
use Rattle.buffer.specs.Field.{part, same}
use Rattle.buffer.specs.Row.{row, member, intersection}
use Rattle.graph.specs.Below.{highest_below}
use Rattle.graph.specs.Graph.{Graph, version_count, ancestor}
use Rattle.room.specs.Sound.{max_capacity}
use Rattle.store.specs.Layout.{row_size}

-- the highest member that two rows have in common; 0 where there is none
abbrev pub highest_common : List ℕ → List ℕ → ℕ
highest_common p q = get_or (highest_below max_capacity (λ v. member p v && member q v)) 0

-- the bytes of the rows of all versions that a store may hold
abbrev pub rows_size : ℕ
rows_size = row_size * max_capacity

-- row v
abbrev pub own_row : List ℕ → ℕ → List ℕ
own_row t v = part t (row_size * v) row_size

-- the rows of all versions of a graph stand in t; the bytes past the last are left free
pub record RowsOf (t : List ℕ) (g : Graph) : Type 0 where
  pub long : length t ≡ rows_size
  pub shown : (v : ℕ) → v < version_count g → own_row t v ≡ row (λ u. ancestor g u v) row_size

-- 1 more than a version, or 0
abbrev pub field_when : Bool → ℕ → ℕ
field_when true v = suc v
field_when false v = 0

-- 1 more than the meet of two versions, whose row is the intersection of theirs; 0 where they have none
unfoldable pub meet_field : List ℕ → ℕ → ℕ → ℕ
meet_field t u v =
    field_when
    (same (own_row t (highest_common (own_row t u) (own_row t v))) (intersection (own_row t u) (own_row t v)))
    (highest_common (own_row t u) (own_row t v))
