-- Ancestry rows: the row of a new entry or merge is made of its parents' rows, and a version is the meet of two exactly when its row is the
-- intersection of theirs.
-- Assumes nothing.
use mathlib.Core.Path.{◌≡◌, refl, sym, ◌∙◌, ap}
use mathlib.Core.Bool.{◌&&◌, ◌||◌}
use mathlib.Core.List.{List, []}
use Prim.Native.Nat.{ℕ, ◌≤◌, ◌<◌}
use native.Mathlib.Omega.{arith}
use lib.Dec.{eqb}
use Rattle.laws.proofs.Logic.{and_l, and_r, and_i}
use Rattle.buffer.specs.Field.{zeros}
use Rattle.buffer.specs.Row.{row, row_from, with_member, union, intersection}
use Rattle.buffer.proofs.Sets.{row_union, row_intersection, row_same, row_ext, row_with}
use Rattle.graph.specs.Graph.{Graph, version_count, ancestor}
use Rattle.graph.proofs.Ancestor.{ancestor_below, ancestor_self}
use Rattle.graph.proofs.Meet.{Meet}
use Rattle.graph.proofs.Growth.{meet_entries}
use Rattle.room.specs.Sound.{max_capacity}
use Rattle.store.specs.Layout.{row_size}

-- the row of a version
abbrev pub lineage : Graph → ℕ → List ℕ
lineage g v = row (λ u. ancestor g u v) row_size

-- of version 0 alone, of a new entry, of a new merge
pub root_lineage : with_member (zeros row_size) 0 ≡ lineage [] 0
unfolding ancestor row_from
root_lineage = refl

pub entry_lineage : (g : Graph) (p v : ℕ) → v < max_capacity → with_member (lineage g p) v ≡ row (λ u. eqb u v || ancestor g u p) row_size
entry_lineage g p v h = row_with (λ u. ancestor g u p) row_size v h

pub merge_lineage : (g : Graph) (p q v : ℕ) → v < max_capacity
    → with_member (union (lineage g p) (lineage g q)) v ≡ row (λ u. eqb u v || (ancestor g u p || ancestor g u q)) row_size
merge_lineage g p q v h =
    ap (λ (s : List ℕ). with_member s v) (row_union (λ u. ancestor g u p) (λ u. ancestor g u q) row_size)
    ∙ row_with (λ u. ancestor g u p || ancestor g u q) row_size v h

pub meet_lineage : {g : Graph} {p q l : ℕ} → Meet g p q l → lineage g l ≡ intersection (lineage g p) (lineage g q)
meet_lineage {g} {p} {q} {l} m =
    row_ext (λ u. ancestor g u l) (λ u. ancestor g u p && ancestor g u q) row_size (meet_entries m)
    ∙ sym (row_intersection (λ u. ancestor g u p) (λ u. ancestor g u q) row_size)

pub lineage_meet : (g : Graph) (p q l : ℕ) → version_count g ≤ max_capacity → l < version_count g
    → lineage g l ≡ intersection (lineage g p) (lineage g q) → Meet g p q l
lineage_meet g p q l small named e =
    let both : (w : ℕ) → w < version_count g → ancestor g w l ≡ (ancestor g w p && ancestor g w q) =
    λ w m.
    row_same (λ u. ancestor g u l) (λ u. ancestor g u p && ancestor g u q) row_size
    (e ∙ row_intersection (λ u. ancestor g u p) (λ u. ancestor g u q) row_size) w (omega arith) in
    let self = sym (both l named) ∙ ancestor_self g l named in
    record {
      first = and_l (ancestor g l p) (ancestor g l q) self;
      second = and_r (ancestor g l p) (ancestor g l q) self;
      lowest = λ w a b. both w (ancestor_below g w p a) ∙ and_i (ancestor g w p) (ancestor g w q) a b;
    }
