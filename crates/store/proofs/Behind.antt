-- The row of the versions behind the heads of the first consoles is the union of the heads' rows, and it holds just the versions that there
-- are exactly when every version is an ancestor of a head.
-- Assumes nothing.
use mathlib.Core.Path.{◌≡◌, refl, sym, ◌∙◌, ap₂}
use mathlib.Core.Bool.{Bool, true, false, ◌&&◌, ◌||◌}
use mathlib.Core.List.{List}
use mathlib.Core.Logic.{inl, inr}
use Prim.Native.Nat.{ℕ, zero, suc, pred, ◌≤◌, ◌<◌}
use native.Mathlib.Omega.{arith}
use lib.Dec.{eqb, ltb}
use borrow.Author.Tests.{eqb-false, ltb-true, lt-ltb}
use Rattle.laws.proofs.Logic.{clash, decide, refuted, and_l, and_r, bool_ext, cond_true, cond_false}
use Rattle.buffer.specs.Field.{zeros, same}
use Rattle.buffer.specs.Row.{row_from, row, union}
use Rattle.buffer.proofs.Fields.{same_true}
use Rattle.buffer.proofs.Parts.{same_of}
use Rattle.buffer.proofs.Sets.{row_union, row_same, row_ext}
use Rattle.graph.specs.Below.{every_below, some_below}
use Rattle.graph.specs.Graph.{version_count, ancestor}
use Rattle.graph.proofs.Below.{at, of, some_at}
use Rattle.graph.proofs.Ancestor.{ancestor_below}
use Rattle.command.specs.Code.{console_count}
use Rattle.room.specs.Room.{Room, head_of, present, head}
use Rattle.room.specs.Sound.{max_capacity, behind_head, all_behind_heads}
use Rattle.store.specs.Layout.{row_size, head_from}
use Rattle.store.specs.Check.{common_in, behind_heads}
use Rattle.store.proofs.Commons.{head_is, there, not_zero}

or_false : (a b : Bool) → b ≡ false → a || b ≡ a
or_false true b h = refl
or_false false b h = h

pub empty_row : zeros row_size ≡ row (λ v. false) row_size
unfolding row_from
empty_row = refl

-- where row_of gives the rows of the versions
module _ (s : List ℕ) (r : Room) (heads : (c : ℕ) → c < console_count → head_of r c ≡ head_from (common_in s c c))
    (row_of : ℕ → List ℕ) (lines : (v : ℕ) → v < version_count r.versions → row_of v ≡ row (λ u. ancestor r.versions u v) row_size)
    (named : (c : ℕ) → c < console_count → common_in s c c ≤ version_count r.versions) where
  -- v is an ancestor of the head of console c
  abbrev behind_one : ℕ → ℕ → Bool
  behind_one v c = present r c && ancestor r.versions v (head r c)

  heads_row : (c : ℕ) → c ≤ console_count → behind_heads s row_of c ≡ row (λ v. some_below c (behind_one v)) row_size
  unfolding behind_heads some_below
  heads_row zero l = empty_row
  heads_row (suc c) l =
      let before = heads_row c (omega arith) in
      elim (decide (eqb (common_in s c c) 0)) [
        | inl a ↦
            cond_true _ _ _ a ∙ before
            ∙ row_ext _ _ row_size
            (λ v. sym (or_false _ _ (refuted (behind_one v c) (λ t. clash a (not_zero s r heads c l (and_l (present r c) _ t))))))
        | inr a ↦
            let x = pred (common_in s c c) in
            let xp = eqb-false (common_in s c c) 0 a in
            let xn : x < version_count r.versions = omega (arith, named c l) in
            cond_false _ _ _ a ∙ ap₂ union before (lines x xn)
            ∙ row_union (λ v. some_below c (behind_one v)) (λ v. ancestor r.versions v x) row_size
            ∙ row_ext _ _ row_size (λ v. rw (there s r heads c l a, head_is s r heads c l))
      ]

  pub behind_row : behind_heads s row_of console_count ≡ row (behind_head r) row_size
  behind_row = heads_row console_count (omega arith)

pub row_behind : (r : Room) → version_count r.versions ≤ max_capacity
    → row (behind_head r) row_size ≡ row (λ v. ltb v (version_count r.versions)) row_size
    → (v : ℕ) → v < version_count r.versions → behind_head r v ≡ true
row_behind r small e v l = row_same (behind_head r) (λ v. ltb v (version_count r.versions)) row_size e v (omega arith) ∙ lt-ltb v (version_count r.versions) l

pub behind_all : (r : Room) → ((v : ℕ) → v < version_count r.versions → behind_head r v ≡ true)
    → row (behind_head r) row_size ≡ row (λ v. ltb v (version_count r.versions)) row_size
behind_all r h =
    row_ext _ _ row_size
    (λ v. bool_ext _ _
    (λ t. let k = some_at console_count _ t in lt-ltb v (version_count r.versions) (ancestor_below r.versions v (head r k.0) (and_r (present r k.0) _ k.2)))
    (λ t. h v (ltb-true v (version_count r.versions) t)))

-- the test says whether every version is an ancestor of a head
pub behind_judged : (r : Room) → version_count r.versions ≤ max_capacity → {told : List ℕ} → told ≡ row (behind_head r) row_size
    → same told (row (λ v. ltb v (version_count r.versions)) row_size) ≡ all_behind_heads r
unfolding all_behind_heads
behind_judged r small {told} e =
    rw e
    (bool_ext (same (row (behind_head r) row_size) (row (λ v. ltb v (version_count r.versions)) row_size)) (every_below (version_count r.versions) (behind_head r))
    (λ h. of (version_count r.versions) (behind_head r) (row_behind r small (same_true _ _ h)))
    (λ h. same_of _ _ (behind_all r (at (version_count r.versions) (behind_head r) h))))
