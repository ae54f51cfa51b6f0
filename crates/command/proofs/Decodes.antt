-- What a byte string decodes to, test by test, over plain lists.
-- Assumes nothing.
use Prim.Native.Nat.{ℕ}
use mathlib.Core.Path.{◌≡◌, refl, ◌∙◌, ap}
use mathlib.Core.Bool.{false, not}
use mathlib.Core.List.{List, [], ◌∷◌}
use native.Mathlib.Omega.{arith}
use lib.ListN.{length}
use borrow.Author.Tests.{eqb-true, eq-eqb, ne_eqb, not-false}
use Rattle.laws.proofs.Logic.{not_i}
use Rattle.command.specs.declared.Kind.{Kind}
use Rattle.std.specs.Prelude.{Option, Some, None, Ok, Err}
use Rattle.command.specs.declared.Widths.{Widths}
use Rattle.command.specs.declared.Operands.{Operands}
use Rattle.refusal.specs.Refusal.{first_refusal}
use Rattle.refusal.proofs.Refusals.{given_here, given_later, none_given}
use Rattle.command.specs.Code.{kind_of, kind_refusal, shape_of, length_of, operands_of}
use Rattle.command.specs.Decode.{code_in, is_command_code, operands_in, number_tests, code_tests, command_refusal, command_of, decoded_by, decode}

refused_by : (k : Option Kind) (s : List ℕ) (n : ℕ) → (n ≡ 0 → ⊥) → n ≡ command_refusal s → Err n ≡ decoded_by k s
refused_by None s n given h = ap Err h
refused_by (Some k) s n given h = rw (← h, ne_eqb n 0 given)

refused : (s : List ℕ) (n : ℕ) → (n ≡ 0 → ⊥) → n ≡ command_refusal s → Err n ≡ decode s
unfolding decode
refused s n given h = refused_by (kind_of (code_in s)) s n given h

-- an empty command has no code
empty_code : (s : List ℕ) → length s ≡ 0 → is_command_code (code_in s) ≡ false
unfolding kind_of
empty_code [] h = refl
empty_code (x ∷ s) h = absurd (omega arith)

pub refused_empty : (s : List ℕ) → length s ≡ 0 → Err 1 ≡ decode s
unfolding command_refusal
refused_empty s h = refused s 1 (omega arith) (given_here 1 _ _ (not_i _ (empty_code s h)))

-- the refusals 3 to 6, where 1 and 2 do not apply
numbers_left : (s : List ℕ) → kind_refusal (kind_of (code_in s)) ≡ 0 → length s ≡ length_of (shape_of (code_in s))
    → first_refusal (code_tests (kind_of (code_in s)) (code_in s) (operands_in s)) ≡ command_refusal s
unfolding command_refusal
numbers_left s z l = given_later 1 _ _ _ (ap not (eq-eqb _ _ z)) (given_later 2 _ _ _ (ap not (eq-eqb _ _ l)) refl)

-- a command that is not refused has a command's code, the code's length, and numbers of which none is refused
pub passed : (s : List ℕ) → command_refusal s ≡ 0
    → (kind_refusal (kind_of (code_in s)) ≡ 0)
    × (length s ≡ length_of (shape_of (code_in s)))
    × (first_refusal (code_tests (kind_of (code_in s)) (code_in s) (operands_in s)) ≡ 0)
unfolding command_refusal
passed s h =
    let code = none_given 1 _ _ (omega arith) h in
    let long = none_given 2 _ _ (omega arith) code.1 in
    (eqb-true _ _ (not-false _ code.0), eqb-true _ _ (not-false _ long.0), long.1)

-- with the code at the front, its kind, its shape and its length in hand
module _ (s : List ℕ) (code : ℕ) (e : code ≡ code_in s) where
  pub refused_code : kind_of code ≡ None → Err 1 ≡ decode s
  unfolding command_refusal
  refused_code none = refused s 1 (omega arith) (given_here 1 _ _ (let z : kind_of (code_in s) ≡ None = cc in rw z))

  module _ (kind : Kind) (k : kind_of code ≡ Some kind) (shape : Option Widths) (widths : shape ≡ shape_of code) (m : ℕ) (long : m ≡ length_of shape) where
    there : kind_of (code_in s) ≡ Some kind
    there = cc

    known : kind_refusal (kind_of (code_in s)) ≡ 0
    known = rw there

    pub refused_length : (length s ≡ m → ⊥) → Err 2 ≡ decode s
    unfolding command_refusal
    refused_length l =
        let right : m ≡ length_of (shape_of (code_in s)) = cc in
        refused s 2 (omega arith) (given_later 1 _ _ _ (ap not (eq-eqb _ _ known)) (given_here 2 _ _ (not_i _ (ne_eqb _ _ (rw right at l)))))

    module _ (l : length s ≡ m) (o : Operands) (in_place : o ≡ operands_of shape s) (r : ℕ) (tests : r ≡ first_refusal (number_tests kind code o)) where
      numbers : r ≡ command_refusal s
      numbers =
          let same : first_refusal (code_tests (Some kind) code o) ≡ first_refusal (code_tests (kind_of (code_in s)) (code_in s) (operands_in s)) = cc in
          tests ∙ same ∙ numbers_left s known (cc)

      pub refused_numbers : (r ≡ 0 → ⊥) → Err r ≡ decode s
      refused_numbers given = refused s r given numbers

      pub decoded : r ≡ 0 → Ok (command_of kind code o) ≡ decode s
      unfolding decode
      decoded none =
          let z : command_refusal s ≡ 0 = cc numbers in
          let c : command_of kind code o ≡ command_of kind (code_in s) (operands_in s) = cc in
          rw (there, z, c)
