-- What the kind of a code says of the code.
-- Assumes nothing.
use Prim.Native.Nat.{ℕ, ◌<◌}
use mathlib.Core.Path.{◌≡◌, refl}
use mathlib.Core.Bool.{true}
use mathlib.Core.Logic.{◌≢◌}
use native.Mathlib.Omega.{arith}
use lib.Dec.{eqb}
use borrow.Author.Tests.{eqb-true, ne_eqb}
use Rattle.laws.proofs.Logic.{either}
use Rattle.board.specs.Board.{level_entry, alert_off_entry}
use Rattle.std.specs.Prelude.{Option, Some, None}
use Rattle.command.specs.declared.Kind.{Kind}
use Rattle.command.specs.declared.Kind.TheVariants as kind_is
use Rattle.command.specs.Code.{fork_command, merge_command, fast_forward_command, leave_command, make_hub_command, is_entry_code, kind_of, kind_refusal}
use Rattle.command.proofs.Limits.{within_false, each_entry}

abbrev pub Says : ℕ → Option Kind → Type 0
Says code (Some kind_is.Fork) = code ≡ fork_command
Says code (Some kind_is.Entry) = is_entry_code code ≡ true
Says code (Some kind_is.Merge) = code ≡ merge_command
Says code (Some kind_is.FastForward) = code ≡ fast_forward_command
Says code (Some kind_is.Leave) = code ≡ leave_command
Says code (Some kind_is.MakeHub) = code ≡ make_hub_command
Says code None = Unit {0}

pub kind_says : (code : ℕ) → Says code (kind_of code)
unfolding kind_of
kind_says code =
    either (Says code) (eqb code fork_command) (eqb-true code fork_command)
    (either (Says code) (is_entry_code code) (λ h. h)
    (either (Says code) (eqb code merge_command) (eqb-true code merge_command)
    (either (Says code) (eqb code fast_forward_command) (eqb-true code fast_forward_command)
    (either (Says code) (eqb code leave_command) (eqb-true code leave_command)
    (either (Says code) (eqb code make_hub_command) (eqb-true code make_hub_command) tt)))))

pub kind_entry : (code : ℕ) → is_entry_code code ≡ true → Some kind_is.Entry ≡ kind_of code
unfolding kind_of
kind_entry = each_entry (λ k. Some kind_is.Entry ≡ kind_of k) refl refl refl refl refl refl refl

pub kind_none : (code : ℕ) → alert_off_entry < code → code ≢ fork_command → code ≢ merge_command → code ≢ fast_forward_command → code ≢ leave_command → code ≢ make_hub_command → None ≡ kind_of code
unfolding kind_of
kind_none code high fork merge forward leave hub =
    rw (ne_eqb code fork_command fork, within_false level_entry alert_off_entry code (λ p q. omega arith), ne_eqb code merge_command merge, ne_eqb code fast_forward_command forward, ne_eqb code leave_command leave, ne_eqb code make_hub_command hub)

-- the refusal of a kind, where there is one, is 1
pub kind_one : (k : Option Kind) → (kind_refusal k ≡ 0 → ⊥) → kind_refusal k ≡ 1
kind_one None h = refl
kind_one (Some k) h = absurd (h refl)
