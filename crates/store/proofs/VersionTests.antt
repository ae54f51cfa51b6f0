-- What the parts of the test of a version say together, over plain lists and tests.
-- Assumes nothing.
use Prim.Native.Nat.{ℕ, zero, suc, ◌+◌, ◌<◌, ◌≤◌}
use mathlib.Core.Path.{◌≡◌, sym, ◌∙◌}
use mathlib.Core.Bool.{Bool, true, false}
use mathlib.Core.List.{List}
use native.Mathlib.Omega.{arith}
use native.Mathlib.Decide.{ℕ_discrete}
use native.Mathlib.Numerals.{add-one}
use lib.Dec.{ltb}
use borrow.Author.Tests.{ltb-true}
use Rattle.laws.proofs.Logic.{and_l, and_r, and_i, and_none, clash, refuted}
use Rattle.board.specs.Board.{strip_count}
use Rattle.graph.specs.declared.Version.{Version}
use Rattle.graph.specs.declared.Strip.{Strip}
use Rattle.graph.specs.declared.Node.{Node}
use Rattle.graph.specs.declared.Node.TheVariants.{Entry, Merge}
use Rattle.store.specs.Layout.{node_in}
use Rattle.store.specs.Rules.{entry_ranges, both_below, node_in_range}
use Rattle.store.specs.Check.{root_right, node_parts, version_right, versions_right}

-- the numbers of a version in range, where it is an entry and where it is a merge
pub entry_ranged : {v : ℕ} {node : Node} {p : Version} {code : ℕ} {strip : Strip} {operand : ℕ} → node ≡ Entry p code strip operand → node_in_range v node ≡ true
    → (p.0 < v) × (strip.0 < strip_count)
entry_ranged {v} {p = p} {code = code} {strip = strip} {operand = operand} e h =
    let t : entry_ranges v p.0 code strip.0 operand ≡ true = rw e at h in
    (ltb-true p.0 v (search (and_l, and_r)), ltb-true strip.0 strip_count (search (and_l, and_r)))

pub merge_ranged : {v : ℕ} {node : Node} {p q : Version} → node ≡ Merge p q → node_in_range v node ≡ true → (p.0 < v) × (q.0 < v)
merge_ranged {v} {p = p} {q = q} e h =
    let t : both_below v p.0 q.0 ≡ true = rw e at h in
    (ltb-true p.0 v (and_l (ltb p.0 v) (ltb q.0 v) t), ltb-true q.0 v (and_r (ltb p.0 v) (ltb q.0 v) t))

-- a version whose numbers are in their ranges is right by its parts, and another is wrong
module _ (s : List ℕ) (v : ℕ) (node : Node) (e : node ≡ node_in s v) (r : Bool) (er : r ≡ node_in_range v node) where
  pub version_told : r ≡ true → (o : Bool) → o ≡ node_parts s v node → o ≡ version_right s v
  unfolding version_right
  version_told t o h = rw (← e, sym er ∙ t) h

  pub version_refused : r ≡ false → false ≡ version_right s v
  unfolding version_right
  version_refused f = rw (← e, sym er ∙ f)

-- the versions, one by one
fails : (s : List ℕ) (k n : ℕ) → k ≤ n → versions_right s k ≡ false → versions_right s n ≡ false
unfolding versions_right
fails s k zero h f = let e : k ≡ zero = omega arith in rw e at f
fails s k (suc m) h f =
    elim (ℕ_discrete k (suc m)) [ yes e ↦ rw e at f | no ne ↦ and_none (versions_right s m) (version_right s (suc m)) (fails s k m (omega arith) f) ]

versions_start : (s : List ℕ) (r : Bool) → r ≡ root_right s → r ≡ true → versions_right s 0 ≡ true
unfolding versions_right
versions_start s r e t = sym e ∙ t

pub versions_none : (s : List ℕ) (n : ℕ) (r : Bool) → r ≡ root_right s → r ≡ false → false ≡ versions_right s n
unfolding versions_right
versions_none s n r e f = sym (fails s 0 n (omega arith) (sym e ∙ f))

more : (s : List ℕ) (k : ℕ) → versions_right s k ≡ true → version_right s (suc k) ≡ true → versions_right s (suc k) ≡ true
unfolding versions_right
more s k h t = and_i (versions_right s k) (version_right s (suc k)) h t

less : (s : List ℕ) (k : ℕ) → version_right s (suc k) ≡ false → versions_right s (suc k) ≡ false
unfolding versions_right
less s k f = refuted (versions_right s (suc k)) (λ h. clash (and_r (versions_right s k) (version_right s (suc k)) h) f)

versions_more : (s : List ℕ) (k : ℕ) (r : Bool) → versions_right s k ≡ true → r ≡ version_right s (k + 1) → r ≡ true → versions_right s (k + 1) ≡ true
versions_more s k r h e t = rw (add-one k) (more s k h (rw (add-one k) at (sym e ∙ t)))

pub versions_less : (s : List ℕ) (k n : ℕ) (r : Bool) → k + 1 ≤ n → r ≡ version_right s (k + 1) → r ≡ false → false ≡ versions_right s n
versions_less s k n r h e f = sym (fails s (suc k) n (omega arith) (less s k (rw (add-one k) at (sym e ∙ f))))

-- the versions up to k are right, on the way to n
pub record Passed (s : List ℕ) (n k : ℕ) : Type 0 where
  below : k ≤ n
  right : versions_right s k ≡ true

pub passed_none : (s : List ℕ) (n : ℕ) (r : Bool) → r ≡ root_right s → r ≡ true → Passed s n 0
passed_none s n r e t = record { below = omega arith; right = versions_start s r e t }

pub passed_more : {s : List ℕ} {n k : ℕ} (r : Bool) → Passed s n k → k < n → r ≡ version_right s (k + 1) → r ≡ true → Passed s n (k + 1)
passed_more {s} {n} {k} r i h e t = record { below = omega arith; right = versions_more s k r i.right e t }

pub passed_all : {s : List ℕ} {n k : ℕ} → Passed s n k → n ≤ k → true ≡ versions_right s n
passed_all {s} {n} {k} i h = let b = i.below in let e : k ≡ n = omega arith in sym (rw e at i.right)
