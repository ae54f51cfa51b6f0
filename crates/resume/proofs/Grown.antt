-- The rows of a graph in their array, one version after the other: version 0's, and the row of an entry or a merge behind those of the
-- versions before it.
-- Assumes nothing.
use mathlib.Core.Path.{◌≡◌, sym, ap, ap₂, ◌∙◌}
use mathlib.Core.Bool.{◌||◌}
use mathlib.Core.List.{List, [], ◌∷◌}
use Prim.Native.Nat.{ℕ, ◌*◌, ◌<◌}
use native.Mathlib.Decide.{ℕ_discrete}
use native.Mathlib.Omega.{arith}
use lib.Dec.{eqb}
use lib.ListN.{length}
use Rattle.buffer.specs.Field.{zeros, with_part}
use Rattle.buffer.specs.Row.{with_member, union}
use Rattle.buffer.proofs.Rows.{row_from-length}
use Rattle.buffer.proofs.Sets.{row_ext}
use Rattle.buffer.proofs.Patches.{with_length, with_here, with_part_lem}
use Rattle.graph.specs.declared.Node.{Node}
use Rattle.graph.specs.Graph.{Graph, entry, merge, version_count, ancestor}
use Rattle.graph.proofs.Ancestor.{ancestor_new, ancestor_old}
use Rattle.store.specs.Layout.{row_size}
use Rattle.store.proofs.Lineage.{lineage, root_lineage, entry_lineage, merge_lineage}
use Rattle.room.specs.Sound.{max_capacity}
use Rattle.resume.specs.Rows.{rows_size, own_row, RowsOf}

pub rows_root : (t : List ℕ) → length t ≡ rows_size → RowsOf (with_part t 0 (with_member (zeros row_size) 0)) []
rows_root t long =
    let size : length (with_member (zeros row_size) 0) ≡ row_size = ap length root_lineage ∙ row_from-length (λ u. ancestor [] u 0) 0 row_size in
    record {
      long = with_length t (with_member (zeros row_size) 0) 0 (omega arith) ∙ long;
      shown = λ v l. let z : v ≡ 0 = omega arith in rw z (with_here t (with_member (zeros row_size) 0) 0 (omega arith) row_size size ∙ root_lineage);
    }

-- a row written behind those of a graph
rows_next : {t : List ℕ} {g : Graph} (n : Node) (new : List ℕ) → RowsOf t g → version_count g < max_capacity → new ≡ lineage (n ∷ g) (version_count g)
    → RowsOf (with_part t (row_size * version_count g) new) (n ∷ g)
rows_next {t} {g} n new r small e =
    let at : ℕ = row_size * version_count g in
    let size : length new ≡ row_size = rw e (row_from-length (λ u. ancestor (n ∷ g) u (version_count g)) 0 row_size) in
    let long = r.long in
    record {
      long = with_length t new at (omega arith) ∙ long;
      shown = λ v l.
          elim (ℕ_discrete v (version_count g)) [
            | yes z ↦ rw z (with_here t new at (omega arith) row_size size ∙ e)
            | no d ↦
                with_part_lem t new at (omega arith) (row_size * v) row_size (omega arith) (λ k a b c. omega arith)
                ∙ r.shown v (omega arith)
                ∙ row_ext (λ u. ancestor g u v) (λ u. ancestor (n ∷ g) u v) row_size (λ u. sym (ancestor_old n g u v (omega arith)))
          ];
    }

pub rows_entry : {t : List ℕ} {g : Graph} (p code strip operand : ℕ) → RowsOf t g → version_count g < max_capacity → p < version_count g
    → RowsOf (with_part t (row_size * version_count g) (with_member (own_row t p) (version_count g))) (entry p code strip operand ∷ g)
rows_entry {t} {g} p code strip operand r small l =
    let n = entry p code strip operand in
    rows_next n _ r small
    (ap (λ (s : List ℕ). with_member s (version_count g)) (r.shown p l)
    ∙ entry_lineage g p (version_count g) small
    ∙ row_ext (λ u. eqb u (version_count g) || ancestor g u p) (λ u. ancestor (n ∷ g) u (version_count g)) row_size (λ u. sym (ancestor_new n g u)))

pub rows_merge : {t : List ℕ} {g : Graph} (p q : ℕ) → RowsOf t g → version_count g < max_capacity → p < version_count g → q < version_count g
    → RowsOf (with_part t (row_size * version_count g) (with_member (union (own_row t p) (own_row t q)) (version_count g))) (merge p q ∷ g)
rows_merge {t} {g} p q r small a b =
    let n = merge p q in
    rows_next n _ r small
    (ap₂ (λ (s o : List ℕ). with_member (union s o) (version_count g)) (r.shown p a) (r.shown q b)
    ∙ merge_lineage g p q (version_count g) small
    ∙ row_ext (λ u. eqb u (version_count g) || (ancestor g u p || ancestor g u q)) (λ u. ancestor (n ∷ g) u (version_count g)) row_size (λ u. sym (ancestor_new n g u)))
