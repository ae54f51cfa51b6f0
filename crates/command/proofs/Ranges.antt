-- A command that is decoded whole names consoles, strips and operands in range, and two different consoles where it names two.
-- Assumes nothing.
use Prim.Native.Nat.{ℕ, ◌<◌}
use mathlib.Core.Path.{◌≡◌, refl, sym, subst, ◌∙◌}
use mathlib.Core.Bool.{Bool, true, false, cond, not, ◌&&◌}
use mathlib.Core.List.{List}
use native.Mathlib.Omega.{arith}
use borrow.Author.Tests.{eqb-true, eqb-false, ltb-true, not-false}
use lib.Dec.{eqb}
use Rattle.laws.proofs.Logic.{or_none_l, or_none_r, and_i}
use Rattle.refusal.specs.Refusal.{first_refusal}
use Rattle.refusal.proofs.Refusals.{none_applies}
use Rattle.command.specs.declared.Kind.{Kind}
use Rattle.command.specs.declared.Kind.TheVariants as kind_is
use Rattle.command.specs.declared.Operands.{Operands}
use Rattle.command.specs.declared.Command.{Command}
use Rattle.std.specs.Prelude.{Option, Some, None, Ok, Err}
use Rattle.command.specs.Code.{console_count, is_entry_code, kind_of, kind_refusal, is_console, is_strip, is_operand}
use Rattle.command.specs.Decode.{code_in, operands_in, two_console_tests, entry_number_tests, leave_number_tests, code_tests, command_refusal, command_of, decoded_by, decode}
use Rattle.command.specs.Decoding.{TwoConsoles, InRange}
use Rattle.command.proofs.CodeKinds.{Says, kind_says}
use Rattle.command.proofs.Decodes.{passed}

pub two_consoles : (o : Operands) → first_refusal (two_console_tests o) ≡ 0 → TwoConsoles o.first o.second
two_consoles o h =
    let three = none_applies _ refl h in (
      ltb-true _ _ (not-false _ (or_none_l _ _ three.0)),
      ltb-true _ _ (not-false _ (or_none_r (not (is_console o.first)) _ three.0)),
      eqb-false _ _ three.1.0,
    )

one_console : (code : ℕ) (o : Operands) → is_entry_code code ≡ true → first_refusal (entry_number_tests code o) ≡ 0
    → (o.first < console_count) × (is_entry_code code && is_strip o.second && is_operand code o.third ≡ true)
one_console code o e h =
    let three = none_applies _ refl h in
    let four = three.1 in (
      ltb-true _ _ (not-false _ three.0),
      and_i _ _ (and_i _ _ e (not-false _ four.0)) (not-false _ four.1.0),
    )

leaving_console : (o : Operands) → first_refusal (leave_number_tests o) ≡ 0 → (o.first < console_count) × (0 < o.first)
leaving_console o h =
    let three = none_applies _ refl h in
    (ltb-true _ _ (not-false _ three.0), omega (arith, eqb-false o.first 0 three.1.0))

-- the command of a code and its operands, by its kind; where there is none what a fast-forward gives
abbrev pub command_by : Option Kind → ℕ → Operands → Command
command_by None code o = command_of kind_is.FastForward code o
command_by (Some k) code o = command_of k code o

in_range_lem : (k : Option Kind) (code : ℕ) (o : Operands) → Says code k → kind_refusal k ≡ 0 → first_refusal (code_tests k code o) ≡ 0
    → InRange (command_by k code o)
in_range_lem (Some kind_is.Fork) code o e z h = two_consoles o h
in_range_lem (Some kind_is.Entry) code o e z h = one_console code o e h
in_range_lem (Some kind_is.Merge) code o e z h = two_consoles o h
in_range_lem (Some kind_is.FastForward) code o e z h = two_consoles o h
in_range_lem (Some kind_is.Leave) code o e z h = leaving_console o h
in_range_lem (Some kind_is.MakeHub) code o e z h = tt
in_range_lem None code o e z h = absurd (omega arith)

-- the command at the front of a list of bytes, by its code
abbrev pub command_in : List ℕ → Command
command_in s = command_by (kind_of (code_in s)) (code_in s) (operands_in s)

-- it is of any bytes: where the code is no command's, one of two consoles that makes no version
pub command_unknown : (s : List ℕ) → kind_of (code_in s) ≡ None → command_in s ≡ command_of kind_is.FastForward (code_in s) (operands_in s)
command_unknown s e = rw e refl

-- where the code is no command's, it is refused with 1
kind_missing : (s : List ℕ) → kind_of (code_in s) ≡ None → command_refusal s ≡ 1
unfolding command_refusal first_refusal
kind_missing s e = rw e

-- what is decoded, by whether anything is refused
pub decode_told : (s : List ℕ) → decode s ≡ cond (eqb (command_refusal s) 0) (Ok (command_in s)) (Err (command_refusal s))
unfolding decode
decode_told s = go (kind_of (code_in s)) refl
  where
    go : (k : Option Kind) → kind_of (code_in s) ≡ k
        → decoded_by k s ≡ cond (eqb (command_refusal s) 0) (Ok (command_by k (code_in s) (operands_in s))) (Err (command_refusal s))
    go None e = rw (kind_missing s e)
    go (Some k) e = refl

-- a whole command: nothing is refused, and the command is that of the code and the operands
told : (s : List ℕ) (c : Command) (t : Bool) → eqb (command_refusal s) 0 ≡ t → cond t (Ok (command_in s)) (Err (command_refusal s)) ≡ Ok c
    → (command_refusal s ≡ 0) × (command_in s ≡ c)
told s c true e h = (eqb-true _ _ e, cc)
told s c false e h = absurd (let z : ◌≡◌ {A = ℕ} 0 1 = cc in omega arith)

pub whole_told : (s : List ℕ) (c : Command) → decode s ≡ Ok c → (command_refusal s ≡ 0) × (command_in s ≡ c)
whole_told s c h = told s c _ refl (sym (decode_told s) ∙ h)

-- a byte string that is refused is refused with a number that is not 0
number_told : (s : List ℕ) (n : ℕ) (t : Bool) → eqb (command_refusal s) 0 ≡ t → Err n ≡ cond t (Ok (command_in s)) (Err (command_refusal s))
    → 0 < n
number_told s n true e h = absurd (let z : ◌≡◌ {A = ℕ} 0 1 = cc in omega arith)
number_told s n false e h =
    let same : n ≡ command_refusal s = cc in
    let given = eqb-false (command_refusal s) 0 e in
    omega arith

pub refused_told : (s : List ℕ) (n : ℕ) → Err n ≡ decode s → 0 < n
refused_told s n h = number_told s n _ refl (h ∙ decode_told s)

pub decode_range : (s : List ℕ) (c : Command) → decode s ≡ Ok c → InRange c
decode_range s c h =
    let w = whole_told s c h in
    let p = passed s w.0 in
    subst InRange w.1 (in_range_lem (kind_of (code_in s)) (code_in s) (operands_in s) (kind_says (code_in s)) p.0 p.2)
