-- The shapes of codes: a command's code has one, and every shape is narrow.
-- Assumes nothing.
use Prim.Native.Nat.{ℕ, ◌+◌, ◌≤◌, ◌<◌}
use mathlib.Core.Path.{◌≡◌, refl}
use mathlib.Core.Bool.{true}
use mathlib.Core.Logic.{◌≢◌}
use native.Mathlib.Omega.{arith}
use lib.Dec.{eqb}
use borrow.Author.Tests.{eqb-true, ne_eqb}
use Rattle.laws.proofs.Logic.{either}
use Rattle.board.specs.Board.{level_entry, heading_entry, mark_put_entry, mark_taken_entry, call_entry, alert_off_entry}
use Rattle.command.specs.declared.Kind.{Kind}
use Rattle.command.specs.declared.Kind.TheVariants as kind_is
use Rattle.std.specs.Prelude.{Option, Some, None}
use Rattle.command.specs.declared.Widths.{Widths}
use Rattle.command.specs.Code.{within, fork_command, merge_command, fast_forward_command, leave_command, make_hub_command, start_record, entry_record, merge_record, head_record, end_record, hub_record, kind_of, kind_refusal, widths, shape_of, shape_refusal, length_of}
use Rattle.command.specs.Decode.{is_command_code}
use Rattle.command.specs.Decoding.{narrow}
use Rattle.command.proofs.Limits.{within_false, each_entry}
use Rattle.command.proofs.CodeKinds.{Says, kind_says}

-- a code behind the commands that is no record's; each of a match's single codes is a test of its own, for the checker's bound on case splits
pub shape_none : (code : ℕ) → fast_forward_command < code → code ≢ leave_command → code ≢ make_hub_command → code ≢ start_record → code ≢ entry_record → code ≢ merge_record → code ≢ head_record → code ≢ end_record → code ≢ hub_record → None ≡ shape_of code
unfolding shape_of
shape_none code high leave make-hub start entry merge head end hub =
    rw (
      ne_eqb code fork_command (omega arith),
      within_false level_entry heading_entry code (λ p q. omega arith),
      within_false mark_put_entry mark_taken_entry code (λ p q. omega arith),
      within_false call_entry alert_off_entry code (λ p q. omega arith),
      within_false merge_command fast_forward_command code (λ p q. omega arith),
      ne_eqb code leave_command leave,
      ne_eqb code make_hub_command make-hub,
      ne_eqb code start_record start,
      ne_eqb code entry_record entry,
      ne_eqb code merge_record merge,
      ne_eqb code head_record head,
      ne_eqb code end_record end,
      ne_eqb code hub_record hub,
    )

-- a code that has a kind has a shape
pub kind_shape : (k : Option Kind) (code : ℕ) → Says code k → kind_refusal k ≡ 0 → shape_refusal 1 (shape_of code) ≡ 0
unfolding shape_of
kind_shape (Some kind_is.Fork) code h z = rw h
kind_shape (Some kind_is.Entry) code h z = each_entry (λ n. shape_refusal 1 (shape_of n) ≡ 0) refl refl refl refl refl refl refl code h
kind_shape (Some kind_is.Merge) code h z = rw h
kind_shape (Some kind_is.FastForward) code h z = rw h
kind_shape (Some kind_is.Leave) code h z = rw h
kind_shape (Some kind_is.MakeHub) code h z = rw h
kind_shape None code h z = absurd (omega arith)

-- the shape of a code, which is known where the code is a command's
pub shape_told : (code : ℕ) (shape : Option Widths) → shape ≡ shape_of code → (shape ≡ shape_of code) × (is_command_code code ≡ true → shape_refusal 1 shape ≡ 0)
shape_told code shape e = (e, λ h. rw e (kind_shape (kind_of code) code (kind_says code) (eqb-true _ _ h)))

-- whichever code it is, what follows is narrow
pub narrow_shape : (code : ℕ) → narrow (shape_of code)
unfolding shape_of
narrow_shape code =
    either narrow (eqb code fork_command) (λ h. omega arith)
    (either narrow (within level_entry heading_entry code) (λ h. omega arith)
    (either narrow (within mark_put_entry mark_taken_entry code) (λ h. omega arith)
    (either narrow (within call_entry alert_off_entry code) (λ h. omega arith)
    (either narrow (within merge_command fast_forward_command code) (λ h. omega arith)
    (either narrow (eqb code leave_command) (λ h. omega arith)
    (either narrow (eqb code make_hub_command) (λ h. omega arith)
    (either narrow (eqb code start_record) (λ h. omega arith)
    (either narrow (eqb code entry_record) (λ h. omega arith)
    (either narrow (eqb code merge_record) (λ h. omega arith)
    (either narrow (eqb code head_record) (λ h. omega arith)
    (either narrow (eqb code end_record) (λ h. omega arith)
    (either narrow (eqb code hub_record) (λ h. omega arith) tt))))))))))))

-- what a length and narrow widths say of a known shape
pub known_fits : {shape : Option Widths} {a b c d n : ℕ} → shape ≡ widths a b c d → narrow shape × (length_of shape ≤ n)
    → narrow (widths a b c d) × (1 + a + b + c + d ≤ n)
unfolding length_of
known_fits e h = rw e at h
