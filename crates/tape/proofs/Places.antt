-- The record at a place and the place past it, test by test, over plain lists.
-- Assumes nothing.
use Prim.Native.Nat.{ℕ, ◌+◌, ◌-◌, ◌≤◌, ◌<◌}
use mathlib.Core.Path.{◌≡◌, refl, ◌∙◌, ap}
use mathlib.Core.List.{List, [], ◌∷◌}
use native.Mathlib.Omega.{arith}
use lib.ListN.{length, get_or, take, drop, length-drop}
use borrow.Author.Tests.{lt-ltb, le-ltb}
use Rattle.laws.proofs.Lists.{rest_all}
use Rattle.std.specs.Prelude.{Option, None}
use Rattle.command.specs.declared.Widths.{Widths}
use Rattle.command.specs.declared.Operands.{Operands}
use Rattle.command.specs.Code.{shape_of, operands_of}
use Rattle.tape.specs.declared.Record.{Record}
use Rattle.tape.specs.Record.{record_length, record_from, record_in}
use Rattle.tape.specs.Reader.{place_after}

pub no_code : (t : List ℕ) → length t ≡ 0 → 0 ≡ get_or t 0 0
no_code [] h = refl
no_code (x ∷ t) h = absurd (omega arith)

module _ (t : List ℕ) (n : ℕ) (long : n ≡ record_length t) where
  pub record_short : length t < n → None ≡ record_in t
  unfolding record_in
  record_short h = rw (lt-ltb (length t) (record_length t) (omega arith))

  pub record_found : n ≤ length t → (code : ℕ) → code ≡ get_or t 0 0 → (shape : Option Widths) → shape ≡ shape_of code → (o : Operands) → o ≡ operands_of shape t
      → (x : Option Record) → x ≡ record_from code o → x ≡ record_in t
  unfolding record_in
  record_found h code e shape widths o in_place x made =
      rw (le-ltb (length t) (record_length t) (omega arith))
      (let same : record_from code o ≡ record_from (get_or t 0 0) (operands_of (shape_of (get_or t 0 0)) t) = cc in made ∙ same)

-- the place past the one that stands at a place, within the tape
abbrev pub Past : List ℕ → ℕ → ℕ → Type 0
Past t at next = (next ≡ place_after t at) × (next ≤ length t)

module _ (t : List ℕ) (at : ℕ) (fits : at ≤ length t) (n : ℕ) (long : n ≡ record_length (take (length t - at) (drop at t))) where
  same_length_lem : n ≡ record_length (drop at t)
  same_length_lem = rw (rest_all t at) at long

  pub place_stays : length t - at < n → Past t at at
  place_stays h = (rw (lt-ltb (length (drop at t)) (record_length (drop at t)) (omega (arith, same_length_lem, length-drop at t))), fits)

  pub place_moves : n ≤ length t - at → Past t at (at + n)
  place_moves h = (
    rw (le-ltb (length (drop at t)) (record_length (drop at t)) (omega (arith, same_length_lem, length-drop at t))) (ap (λ (k : ℕ). at + k) same_length_lem),
    omega arith,
  )
