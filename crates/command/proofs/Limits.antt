-- Ranges of numbers, what holds of each number of a range, and how large an entry's code, strip and operand can be.
-- Assumes nothing.
use Prim.Native.Nat.{ℕ, zero, suc, ◌+◌, ◌≤◌, ◌<◌}
use mathlib.Core.Path.{◌≡◌, subst}
use mathlib.Core.Bool.{Bool, true, false, cond, ◌&&◌}
use native.Mathlib.Omega.{arith}
use native.Mathlib.Decide.{ℕ_discrete}
use lib.Dec.{eqb, leb, ltb}
use borrow.Author.Tests.{eqb-true, leb-true, ltb-true, le-leb}
use mathlib.Core.Logic.{◌≢◌}
use Rattle.laws.proofs.Logic.{and_l, and_r, and_i, refuted}
use Rattle.board.specs.Board.{strip_count, mark_count}
use Rattle.command.specs.Code.{within, is_entry_code, is_strip, is_operand}

pub within_true : (low high x : ℕ) → within low high x ≡ true → (low ≤ x) × (x ≤ high)
within_true low high x h = (leb-true low x (and_l _ _ h), leb-true x high (and_r (leb low x) _ h))

pub within_i : (low high x : ℕ) → low ≤ x → x ≤ high → within low high x ≡ true
within_i low high x p q = and_i _ _ (le-leb low x p) (le-leb x high q)

pub within_false : (low high x : ℕ) → (low ≤ x → x ≤ high → ⊥) → within low high x ≡ false
within_false low high x h = refuted _ (λ t. h (within_true low high x t).0 (within_true low high x t).1)

-- what holds of each of n numbers from low on
abbrev pub Each : (ℕ → Type 0) → ℕ → ℕ → Type 0
Each P low zero = Unit {0}
Each P low (suc n) = P low × Each P (suc low) n

pub each : (P : ℕ → Type 0) (low n x : ℕ) → Each P low n → low ≤ x → x < low + n → P x
each P low zero x h p q = absurd (omega arith)
each P low (suc n) x h p q =
    elim (ℕ_discrete low x) [
      | yes e ↦ subst P e h.0
      | no ne ↦ each P (suc low) n x h.1 (omega arith) (omega arith)
    ]

-- below and above the code 01, at which a match over the codes begins
pub below_one : (x : ℕ) → x < 1 → x ≡ 0
below_one x l = omega arith

pub above_one : (x : ℕ) → 1 ≤ x → x ≢ 1 → 2 ≤ x
above_one x l ne = omega arith

-- what holds of the codes 02 to 08 holds of every code that makes an entry
pub each_entry : (P : ℕ → Type 0) → P 2 → P 3 → P 4 → P 5 → P 6 → P 7 → P 8 → (code : ℕ) → is_entry_code code ≡ true → P code
each_entry P h₂ h₃ h₄ h₅ h₆ h₇ h₈ code e =
    let range = within_true 2 8 code e in
    each P 2 7 code (h₂, (h₃, (h₄, (h₅, (h₆, (h₇, (h₈, tt))))))) range.0 (omega arith)

-- whichever range an operand must be in, it is at most 600
pub operand_below : (code x : ℕ) → is_operand code x ≡ true → x ≤ 600
unfolding is_operand
operand_below code x h = go (eqb code 0x02) (eqb code 0x03) (within 0x04 0x05 code) h
  where
    go : (a b c : Bool) → cond a (leb x 600) (cond b (leb x 360) (cond c (ltb x mark_count) (eqb x 0))) ≡ true → x ≤ 600
    go true b c h = leb-true x 600 h
    go false true c h = omega (arith, leb-true x 360 h)
    go false false true h = omega (arith, ltb-true x mark_count h)
    go false false false h = omega (arith, eqb-true x 0 h)

pub entry_below : (code strip operand : ℕ) → is_entry_code code && is_strip strip && is_operand code operand ≡ true
    → (code ≤ 8) × (strip < strip_count) × (operand ≤ 600)
entry_below code strip operand h =
    let c : is_entry_code code ≡ true = search (and_l, and_r) in
    let k : is_strip strip ≡ true = search (and_l, and_r) in
    let x : is_operand code operand ≡ true = search (and_l, and_r) in
    ((within_true 2 8 code c).1, ltb-true strip strip_count k, operand_below code operand x)
