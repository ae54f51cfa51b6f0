-- How many versions of a kind a version has behind it: one more or none at an entry, and at a merge the sum over the parents less the base's.
-- Assumes nothing.
use Prim.Native.Nat.{ℕ, ◌+◌, ◌≤◌, ◌<◌}
use mathlib.Core.Path.{◌≡◌}
use mathlib.Core.Bool.{Bool, false, cond, ◌&&◌, ◌||◌, and-true, and-false, and-or_distrib_left}
use mathlib.Core.List.{◌∷◌}
use native.Mathlib.Omega.{arith}
use lib.ListN.{length}
use borrow.Author.Tests.{ne_eqb}
use Rattle.laws.proofs.Logic.{refuted, and_both}
use Rattle.graph.specs.Below.{count_below}
use Rattle.graph.specs.declared.Node.{Node}
use Rattle.graph.specs.Graph.{merge, entry, Graph, version_count, some_parent, ancestor}
use Rattle.graph.proofs.Below.{count_ext, count_more, count_lt, inclusion_exclusion}
use Rattle.graph.proofs.Ancestor.{ancestor_new, ancestor_old, ancestor_same, ancestor_le}
use Rattle.graph.proofs.Meet.{Meet}
use Rattle.graph.proofs.Growth.{meet_entries}

-- how many of the versions that pass the test are ancestors of v
unfoldable pub held : (ℕ → Bool) → Graph → ℕ → ℕ
held f g v = count_below (version_count g) (λ e. f e && ancestor g e v)

module _ (f : ℕ → Bool) where
  pub held_old : (n : Node) (g : Graph) (v : ℕ) → v < version_count g → held f (n ∷ g) v ≡ held f g v
  unfolding held
  held_old n g v l =
      let out : ancestor g (version_count g) v ≡ false = refuted (ancestor g (version_count g) v) (λ h. omega (arith, ancestor_le g (version_count g) v h)) in
      let last : f (version_count g) && ancestor (n ∷ g) (version_count g) v ≡ false = cc (ancestor_old n g (version_count g) v l, and-false (f (version_count g))) in
      omega (arith, count_more (version_count g) (λ e. f e && ancestor (n ∷ g) e v) (λ e. f e && ancestor g e v) false (λ e _. cc (ancestor_old n g e v l)) last)

  -- the newest version
  held_new : (n : Node) (g : Graph) → held f (n ∷ g) (version_count g) ≡ count_below (version_count g) (λ e. f e && some_parent (ancestor g e) n) + cond (f (version_count g)) 1 0
  unfolding held
  held_new n g =
      let old : (e : ℕ) → e < version_count g → f e && ancestor (n ∷ g) e (version_count g) ≡ f e && some_parent (ancestor g e) n = λ e l. cc (ancestor_new n g e, ne_eqb e (version_count g) (omega arith)) in
      let last : f (version_count g) && ancestor (n ∷ g) (version_count g) (version_count g) ≡ f (version_count g) = cc (ancestor_same n g, and-true (f (version_count g))) in
      count_more (version_count g) (λ e. f e && ancestor (n ∷ g) e (version_count g)) (λ e. f e && some_parent (ancestor g e) n) (f (version_count g)) old last

  pub held_entry : (p code strip operand : ℕ) (g : Graph) → held f (entry p code strip operand ∷ g) (version_count g) ≡ held f g p + cond (f (version_count g)) 1 0
  unfolding held
  held_entry p code strip operand g = held_new (entry p code strip operand) g

  pub held_merge : {p q l : ℕ} {g : Graph} → Meet g p q l → f (version_count g) ≡ false → held f (merge p q ∷ g) (version_count g) + held f g l ≡ held f g p + held f g q
  unfolding held
  held_merge {p} {q} {l} {g} b o =
      let left : ℕ → Bool = λ e. f e && ancestor g e p in
      let right : ℕ → Bool = λ e. f e && ancestor g e q in
      let distrib : (e : ℕ) → f e && (ancestor g e p || ancestor g e q) ≡ left e || right e = λ e. and-or_distrib_left (f e) (ancestor g e p) (ancestor g e q) in
      let common : (e : ℕ) → f e && ancestor g e l ≡ left e && right e = λ e. cc (meet_entries b e, and_both (f e) (ancestor g e p) (ancestor g e q)) in
      let either = count_ext (version_count g) (λ e. f e && (ancestor g e p || ancestor g e q)) (λ e. left e || right e) (λ e _. distrib e) in
      let both = count_ext (version_count g) (λ e. f e && ancestor g e l) (λ e. left e && right e) (λ e _. common e) in
      let itself : cond {A = ℕ} (f (version_count g)) 1 0 ≡ 0 = cc in
      omega (arith, held_new (merge p q) g, inclusion_exclusion (version_count g) left right)

  pub held_bound : (g : Graph) (v : ℕ) → f 0 ≡ false → held f g v ≤ length g
  unfolding held
  held_bound g v o = omega (arith, count_lt (version_count g) (λ e. f e && ancestor g e v) 0 (omega arith) (cc))
