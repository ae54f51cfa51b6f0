-- How long a command can be: 1 to 5 bytes.
-- Assumes nothing.
use Prim.Native.Nat.{ℕ, ◌≤◌}
use mathlib.Core.Path.{◌≡◌, refl}
use mathlib.Core.Bool.{true, false, cond}
use native.Mathlib.Omega.{arith}
use borrow.Author.Tests.{eqb-true}
use Rattle.std.specs.Prelude.{Option, Some, None}
use Rattle.command.specs.declared.Kind.{Kind}
use Rattle.command.specs.declared.Kind.TheVariants as kind_is
use Rattle.command.specs.Code.{kind_of, kind_refusal, shape_of, length_of}
use Rattle.command.specs.Decode.{is_command_code}
use Rattle.command.proofs.Limits.{each_entry}
use Rattle.command.proofs.CodeKinds.{Says, kind_says}

abbrev Bound : ℕ → Type 0
Bound code = (1 ≤ length_of (shape_of code)) × (length_of (shape_of code) ≤ 5)

kind_bound : (k : Option Kind) (code : ℕ) → Says code k → kind_refusal k ≡ 0 → Bound code
unfolding length_of shape_of
kind_bound (Some kind_is.Fork) code e z = rw e (omega arith)
kind_bound (Some kind_is.Entry) code e z =
    each_entry Bound (omega arith) (omega arith) (omega arith) (omega arith) (omega arith) (omega arith) (omega arith) code e
kind_bound (Some kind_is.Merge) code e z = rw e (omega arith)
kind_bound (Some kind_is.FastForward) code e z = rw e (omega arith)
kind_bound (Some kind_is.Leave) code e z = rw e (omega arith)
kind_bound (Some kind_is.MakeHub) code e z = rw e (omega arith)
kind_bound None code e z = absurd (omega arith)

-- the answers for a command's code and for any other
abbrev pub Length : ℕ → ℕ → Type 0
Length code n = (n ≡ cond (is_command_code code) (length_of (shape_of code)) 1) × (1 ≤ n) × (n ≤ 5)

pub length_known : (code : ℕ) {n : ℕ} → is_command_code code ≡ true → n ≡ length_of (shape_of code) → Length code n
length_known code h e =
    let b = kind_bound (kind_of code) code (kind_says code) (eqb-true _ _ h) in
    rw (e, h) (refl, b.0, b.1)

pub length_unknown : (code : ℕ) → is_command_code code ≡ false → Length code 1
length_unknown code h = rw h (refl, omega arith, omega arith)
