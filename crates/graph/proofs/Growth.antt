-- In a well_formed graph a later version holds an entry that an ancestor of it does not, and two versions that have a meet and the same
-- entries are one version.
-- Assumes nothing.
use Prim.Native.Nat.{ℕ, ◌<◌}
use mathlib.Core.Path.{◌≡◌, refl, sym, ◌∙◌}
use mathlib.Core.Bool.{true, false, not, ◌&&◌}
use mathlib.Core.List.{[], ◌∷◌}
use mathlib.Core.Option.{Option, none, some}
use native.Mathlib.Omega.{arith}
use native.Mathlib.Decide.{ℕ_discrete}
use lib.Dec.{eqb}
use borrow.Author.Tests.{eqb-false}
use Rattle.laws.proofs.Logic.{clash, refuted, and_l, and_r, and_i, not_e, bool_ext}
use Rattle.graph.specs.declared.Node.{Node}
use Rattle.graph.specs.Graph.{merge, Graph, version_count, ancestor, is_entry, meet, every_version, parents_lower, serves_as_base, merge_has_base}
use Rattle.graph.proofs.Parent.{Parent, sole, receiver, giver}
use Rattle.graph.proofs.Ancestor.{every_new, every_old, is_entry-new, is_entry-old, is_entry-named, ancestor_first, same, above, before, ways, ancestor_same, ancestor_above, ancestor_old, ancestor_le, ancestor_below, ancestor_trans}
use Rattle.graph.proofs.Meet.{Meet, meet_is, meet_sym}

-- parents are lower numbers, and the parents of each merge have a meet that is neither of them
pub record WellFormed (g : Graph) : Type 0 where
  pub lower : every_version parents_lower g ≡ true
  pub based : every_version merge_has_base g ≡ true

pub well_formed-old : {n : Node} {g : Graph} → WellFormed (n ∷ g) → WellFormed g
well_formed-old {n} {g} w = record { lower = every_old parents_lower n g w.lower; based = every_old merge_has_base n g w.based }

-- the base of a merge
pub merge_base : {p q : ℕ} {g : Graph} → WellFormed (merge p q ∷ g) → (l : ℕ) × Meet g p q l × (l ≡ p → ⊥) × (l ≡ q → ⊥)
merge_base {p} {q} {g} w = go (meet g p q) refl (every_new merge_has_base (merge p q) g w.based)
  where
    go : (o : Option ℕ) → meet g p q ≡ o → serves_as_base p q o ≡ true → (l : ℕ) × Meet g p q l × (l ≡ p → ⊥) × (l ≡ q → ⊥)
    go none e h = clash h refl
    go (some l) e h = (
      l,
      meet_is g p q l e,
      eqb-false l p (not_e (eqb l p) (and_l (not (eqb l p)) (not (eqb l q)) h)),
      eqb-false l q (not_e (eqb l q) (and_r (not (eqb l p)) (not (eqb l q)) h)),
    )

-- an entry that version a holds and version m does not
abbrev pub Grown : Graph → ℕ → ℕ → Type 0
Grown g m a = (e : ℕ) × (is_entry g e ≡ true) × (ancestor g e a ≡ true) × (ancestor g e m ≡ false)

-- with a new version, for an older m
grown_new : (n : Node) (g : Graph) (m a e : ℕ) → m < version_count g → is_entry g e ≡ true → ancestor (n ∷ g) e a ≡ true → ancestor g e m ≡ false → Grown (n ∷ g) m a
grown_new n g m a e l i t o = (e, is_entry-old n g e (is_entry-named g e i).1 ∙ i, t, ancestor_old n g e m l ∙ o)

module _ (g : Graph) (m : ℕ) (older : (l y : ℕ) → ancestor g l y ≡ true → (l ≡ y → ⊥) → Grown g l y) where
  -- at a merge, over an ancestor of the parent x: the entry that the other parent y holds and the base does not
  grown_merge : {n : Node} {x y l : ℕ} → ancestor g m x ≡ true → Parent n y → Meet g x y l → (l ≡ y → ⊥) → Grown (n ∷ g) m (version_count g)
  grown_merge {n} {x} {y} {l} t s b d =
      let r = older l y b.second d in
      let e = r.0 in
      let out : ancestor g e m ≡ true → ⊥ = λ h. clash (b.lowest e (ancestor_trans g e m x h t) r.2) r.3 in
      grown_new n g m (version_count g) e (ancestor_below g m x t) r.1 (ancestor_above g e s r.2) (refuted (ancestor g e m) out)

  -- at the newest version, over an ancestor of a parent of it
  grown_parent : {n : Node} {x : ℕ} → WellFormed (n ∷ g) → Parent n x → ancestor g m x ≡ true → Grown (n ∷ g) m (version_count g)
  grown_parent {n} {x} w sole t = (
    version_count g,
    is_entry-new n g,
    ancestor_same n g,
    refuted (ancestor (n ∷ g) (version_count g) m) (λ h. omega (arith, ancestor_below g m x t, ancestor_le (n ∷ g) (version_count g) m h)),
  )
  grown_parent w receiver t = let r = merge_base w in grown_merge t giver r.1 r.3
  grown_parent w giver t = let r = merge_base w in grown_merge t receiver (meet_sym r.1) r.2

pub strict_growth : (g : Graph) (m a : ℕ) → WellFormed g → ancestor g m a ≡ true → (m ≡ a → ⊥) → Grown g m a
strict_growth [] m a w h d = let r = ancestor_first m a h in absurd (omega arith)
strict_growth (n ∷ g) m a w h d = elim (ways n g m a h) [
  | same b c ↦ absurd (d (b ∙ sym c))
  | above r t b ↦ rw b (grown_parent g m (λ l y. strict_growth g l y (well_formed-old w)) w r t)
  | before t l ↦
      let r = strict_growth g m a (well_formed-old w) t d in
      grown_new n g m a r.0 (ancestor_below g m a t) r.1 (ancestor_old n g r.0 a l ∙ r.2) r.3
]

-- if v holds the entries of u, then their meet is u
meet_holds : {g : Graph} {u v m : ℕ} → WellFormed g → Meet g u v m → ((e : ℕ) → is_entry g e ≡ true → ancestor g e u ≡ true → ancestor g e v ≡ true) → m ≡ u
meet_holds {g} {u} {v} {m} w b h =
    elim (ℕ_discrete m u) [
      | yes e ↦ e
      | no d ↦ let r = strict_growth g m u w b.first d in clash (b.lowest r.0 r.2 (h r.0 r.1 r.2)) r.3
    ]

pub same_entries : {g : Graph} {u v m : ℕ} → WellFormed g → Meet g u v m → ((e : ℕ) → is_entry g e ≡ true → ancestor g e u ≡ ancestor g e v) → u ≡ v
same_entries w b h = sym (meet_holds w b (λ e i t. sym (h e i) ∙ t)) ∙ meet_holds w (meet_sym b) (λ e i t. h e i ∙ t)

-- the meet holds what both hold
pub meet_entries : {g : Graph} {u v m : ℕ} → Meet g u v m → (e : ℕ) → ancestor g e m ≡ (ancestor g e u && ancestor g e v)
meet_entries {g} {u} {v} {m} b e =
    let to : ancestor g e m ≡ true → ancestor g e u && ancestor g e v ≡ true = λ h. and_i (ancestor g e u) (ancestor g e v) (ancestor_trans g e m u h b.first) (ancestor_trans g e m v h b.second) in
    bool_ext (ancestor g e m) (ancestor g e u && ancestor g e v) to (λ h. b.lowest e (and_l (ancestor g e u) (ancestor g e v) h) (and_r (ancestor g e u) (ancestor g e v) h))
