-- Bytes written one behind the other from a place on: what stands there so far, where it ends, and what one more piece adds.
-- Assumes nothing.
use mathlib.Core.Path.{◌≡◌, refl, sym, ap, ◌∙◌}
use mathlib.Core.List.{List, [], ◌++◌}
use Prim.Native.Nat.{ℕ, ◌+◌, ◌≤◌}
use native.Mathlib.Nat.{add-zero}
use native.Mathlib.Omega.{arith}
use lib.ListN.{length, length-append, take-append-drop}
use Rattle.buffer.specs.Field.{with_part}
use Rattle.buffer.proofs.Patches.{with_length, with_next}

-- a piece was written at a place, and this is where it ends
abbrev pub Put : List ℕ → ℕ → List ℕ → List ℕ → ℕ → Type 0
Put s at new t end = (end ≡ at + length new) × (t ≡ with_part s at new)

-- the same, where the piece had room there
pub record Laid (s : List ℕ) (at : ℕ) (new t : List ℕ) (end : ℕ) : Type 0 where
  pub fits : at + length new ≤ length s
  pub kept : length t ≡ length s
  pub put : Put s at new t end

pub laid_none : (s : List ℕ) (at : ℕ) → at ≤ length s → Laid s at [] s at
unfolding with_part
laid_none s at l =
    record { fits = omega arith; kept = refl; put = (sym (add-zero at), rw (add-zero at) (sym (take-append-drop at s))) }

pub laid_one : {s t : List ℕ} {at end : ℕ} (new : List ℕ) → at + length new ≤ length s → Put s at new t end → Laid s at new t end
laid_one {s} {t} {at} new l p = record { fits = l; kept = rw p.1 (with_length s new at l); put = p }

pub laid_more : {s new t t' : List ℕ} {at to end : ℕ} (next : List ℕ) → Laid s at new t to → to + length next ≤ length s → Put t to next t' end
    → Laid s at (new ++ next) t' end
laid_more {s} {new} {t} {t'} {at} {to} next g l p =
    let there = g.put.0 in
    let long = length-append new next in
    laid_one (new ++ next) (omega arith)
    (omega arith, p.1 ∙ ap (λ (u : List ℕ). with_part u to next) g.put.1 ∙ with_next s new at g.fits to next (sym there))
