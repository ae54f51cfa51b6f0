-- The meet of two versions is their highest common ancestor, and it is told by rows: the row of the highest version that two rows have in
-- common is their intersection exactly when the two versions have a meet.
-- Assumes nothing.
use mathlib.Core.Path.{◌≡◌, refl, sym, ap, ap₂, ◌∙◌}
use mathlib.Core.Bool.{Bool, true, false, not, ◌&&◌, and-true, and-false}
use mathlib.Core.List.{List}
use mathlib.Core.Logic.{inl, inr}
use mathlib.Core.Option.{Option, none, some, get_or}
use Prim.Native.Nat.{ℕ, zero, suc, ◌≤◌, ◌<◌}
use native.Mathlib.Omega.{arith}
use lib.Dec.{eqb}
use Rattle.laws.proofs.Logic.{decide, refuted, clash, and_l, and_r, and_i}
use Rattle.buffer.specs.Field.{same}
use Rattle.buffer.specs.Row.{member, intersection}
use Rattle.buffer.proofs.Fields.{same_true}
use Rattle.buffer.proofs.Parts.{same_of}
use Rattle.buffer.proofs.Rows.{member_row}
use Rattle.graph.specs.Below.{highest_below}
use Rattle.graph.specs.Graph.{Graph, merge, version_count, ancestor, common_ancestor, meet, serves_as_base, merge_has_base}
use Rattle.graph.proofs.Below.{highest_of, highest_some}
use Rattle.graph.proofs.Ancestor.{ancestor_below, ancestor_le}
use Rattle.graph.proofs.Meet.{Meet, meet_is, meet_found}
use Rattle.store.specs.Layout.{row_size, head_from}
use Rattle.store.specs.Rules.{is_base}
use Rattle.store.proofs.Lineage.{lineage, meet_lineage, lineage_meet}
use Rattle.room.specs.Sound.{max_capacity}
use Rattle.resume.specs.Rows.{highest_common, own_row, RowsOf, field_when, meet_field}

highest_ext : (n : ℕ) (f g : ℕ → Bool) → ((k : ℕ) → k < n → f k ≡ g k) → highest_below n f ≡ highest_below n g
unfolding highest_below
highest_ext zero f g h = refl
highest_ext (suc n) f g h = cc (highest_ext n f g (λ k l. h k (omega arith)), h n (omega arith))

-- the meet of two versions is the highest of their common ancestors
meet_highest : {g : Graph} {u v m : ℕ} → Meet g u v m → (n : ℕ) → version_count g ≤ n → highest_below n (common_ancestor g u v) ≡ some m
meet_highest {g} {u} {v} {m} h n l =
    highest_of n (common_ancestor g u v) m (omega (arith, ancestor_below g m u h.first))
    (and_i (ancestor g m u) (ancestor g m v) h.first h.second)
    (λ k a b.
    refuted (common_ancestor g u v k)
    (λ t. omega (arith, ancestor_le g k m (h.lowest k (and_l (ancestor g k u) (ancestor g k v) t) (and_r (ancestor g k u) (ancestor g k v) t)))))

module _ (g : Graph) (small : version_count g ≤ max_capacity) (u v : ℕ) where
  -- on the rows of the two
  abbrev highest : ℕ
  highest = highest_common (lineage g u) (lineage g v)

  rows_common : highest_below max_capacity (λ w. member (lineage g u) w && member (lineage g v) w) ≡ highest_below max_capacity (common_ancestor g u v)
  rows_common =
      highest_ext max_capacity (λ w. member (lineage g u) w && member (lineage g v) w) (common_ancestor g u v)
      (λ w l. ap₂ ◌&&◌ (member_row (λ x. ancestor g x u) row_size w l) (member_row (λ x. ancestor g x v) row_size w l))

  highest_named : highest < version_count g
  highest_named = rw rows_common (go (highest_below max_capacity (common_ancestor g u v)) refl)
    where
      go : (o : Option ℕ) → highest_below max_capacity (common_ancestor g u v) ≡ o → get_or o 0 < version_count g
      go none e = omega arith
      go (some m) e = ancestor_below g m u (and_l (ancestor g m u) (ancestor g m v) (highest_some max_capacity (common_ancestor g u v) m e).1)

  highest_meet : {m : ℕ} → Meet g u v m → highest ≡ m
  highest_meet h = ap (λ (o : Option ℕ). get_or o 0) (rows_common ∙ meet_highest h max_capacity small)

  -- the meet, by the rows
  meet_by_rows : meet g u v ≡ head_from (field_when (same (lineage g highest) (intersection (lineage g u) (lineage g v))) highest)
  meet_by_rows =
      elim (decide (same (lineage g highest) (intersection (lineage g u) (lineage g v)))) [
        | inl t ↦ rw t (meet_found (lineage_meet g u v highest small highest_named (same_true _ _ t)))
        | inr t ↦ rw t (go (meet g u v) refl t)
      ]
    where
      go : (o : Option ℕ) → meet g u v ≡ o → same (lineage g highest) (intersection (lineage g u) (lineage g v)) ≡ false → o ≡ none
      go none e t = refl
      go (some m) e t =
          let h = meet_is g u v m e in
          clash (same_of _ _ (rw (highest_meet h) (meet_lineage h))) t

-- the same where the rows of a graph stand
pub meet_shown : {t : List ℕ} {g : Graph} → RowsOf t g → version_count g ≤ max_capacity → (u v : ℕ) → u < version_count g → v < version_count g
    → head_from (meet_field t u v) ≡ meet g u v
unfolding meet_field
meet_shown {t} {g} r small u v a b =
    rw (r.shown u a, r.shown v b, r.shown (highest g small u v) (highest_named g small u v)) (sym (meet_by_rows g small u v))

pub base_shown : {t : List ℕ} {g : Graph} → RowsOf t g → version_count g ≤ max_capacity → (p q : ℕ) → p < version_count g → q < version_count g
    → serves_as_base p q (head_from (meet_field t p q)) ≡ merge_has_base g (merge p q)
base_shown r small p q a b = ap (serves_as_base p q) (meet_shown r small p q a b)

-- what the code finds, step by step
pub field_told : (t : List ℕ) (u v : ℕ) {p q m : List ℕ} {h : ℕ} {b : Bool} → p ≡ own_row t u → q ≡ own_row t v → h ≡ highest_common p q → m ≡ own_row t h
    → b ≡ same m (intersection p q) → field_when b h ≡ meet_field t u v
unfolding meet_field
field_told t u v {p} {q} {m} {h} {b} e f k n s = rw (s, n, k, e, f)

pub serves_when : (b : Bool) (h p q : ℕ) → not (eqb h p) && not (eqb h q) && b ≡ serves_as_base p q (head_from (field_when b h))
serves_when true h p q = and-true (not (eqb h p) && not (eqb h q))
serves_when false h p q = and-false (not (eqb h p) && not (eqb h q))

pub base_told : (t : List ℕ) (p q : ℕ) {mine given base : List ℕ} {h : ℕ} {b : Bool} → mine ≡ own_row t p → given ≡ own_row t q
    → h ≡ highest_common mine given → base ≡ own_row t h → b ≡ is_base h p q base mine given → b ≡ serves_as_base p q (head_from (meet_field t p q))
base_told t p q {h = h} e f k n s = s ∙ serves_when _ h p q ∙ ap (λ x. serves_as_base p q (head_from x)) (field_told t p q e f k n refl)
