-- When two versions are apart.
-- Assumes nothing.
use Prim.Native.Nat.{ℕ, ◌≤◌, ◌<◌}
use mathlib.Core.Path.{◌≡◌, sym, subst}
use mathlib.Core.Logic.{inl, inr}
use mathlib.Core.Bool.{true, not, and-true}
use native.Mathlib.Omega.{arith}
use Rattle.laws.proofs.Logic.{decide, refuted}
use Rattle.graph.specs.Graph.{ancestor}
use Rattle.graph.proofs.Ancestor.{ancestor_le}
use Rattle.room.specs.Room.{Room}
use Rattle.room.specs.Step.{apart}

-- of two versions only the lower can be an ancestor of the other, so that one test says whether they are apart
module _ (r : Room) (u v : ℕ) where
  pub lower_apart : u < v → apart r u v ≡ not (ancestor r.versions u v)
  lower_apart l =
      let above-not = refuted (ancestor r.versions v u) (λ t. absurd (omega (arith, ancestor_le r.versions v u t))) in
      rw above-not (and-true (not (ancestor r.versions u v)))

  pub higher_apart : v ≤ u → apart r u v ≡ not (ancestor r.versions v u)
  higher_apart l =
      elim (decide (ancestor r.versions u v)) [
        | inl t ↦
            let same : u ≡ v = omega (arith, ancestor_le r.versions u v t) in
            let back = subst (λ w. ancestor r.versions w u ≡ true) same (subst (λ w. ancestor r.versions u w ≡ true) (sym same) t) in
            rw (t, back)
        | inr f ↦ rw f
      ]
