-- What commands and resume count: an accepted merge its clashes, at most 64, and everything else 0.
-- Assumes nothing.
use Prim.Native.Nat.{ℕ, ◌≤◌}
use mathlib.Core.Path.{◌≡◌, refl, sym, ◌∙◌, ap}
use mathlib.Core.List.{List, [], ◌∷◌}
use mathlib.Core.Option.{Option, none, some}
use native.Mathlib.Omega.{arith}
use borrow.Author.Tests.{eqb-true}
use lib.Dec.{eqb}
use Rattle.laws.proofs.Logic.{either}
use Rattle.board.proofs.Clashes.{board_counted}
use Rattle.refusal.specs.Refusal.{first_refusal}
use Rattle.command.specs.declared.Command.TheVariants.{Merge}
use Rattle.std.specs.Prelude.{Option as Found, Some, None, Result, Ok, Err}
use Rattle.command.specs.declared.Command.{Command}
use Rattle.command.specs.declared.Kind.{Kind}
use Rattle.command.specs.declared.Kind.TheVariants as kind_is
use Rattle.command.specs.declared.Operands.{Operands}
use Rattle.command.specs.Code.{merge_command, kind_of, shape_of, operands_of, number_at}
use Rattle.command.specs.Decode.{code_in, operands_in, decode}
use Rattle.command.proofs.CodeKinds.{Says, kind_says}
use Rattle.command.proofs.Ranges.{command_by, whole_told, refused_told}
use Rattle.room.specs.Room.{Room, common}
use Rattle.room.specs.Step.{clash_count}
use Rattle.room.proofs.Clashes.{few_counted}
use Rattle.store.specs.Layout.{room_in}
use Rattle.tape.specs.Tape.{Content, content_of}
use Rattle.unit.specs.Calls.{command_tests, step_outcome, command_outcome, resume_tests, resumed, resume_outcome}
use Rattle.claims.specs.Clashes.{clashes_between, ClashesCounted}

-- only the command of a merge's code counts
only_merges : (r : Room) (k : Found Kind) (code : ℕ) (o : Operands) → Says code k → (code ≡ merge_command → ⊥) → clash_count r (command_by k code o) ≡ 0
unfolding clash_count
only_merges r (Some kind_is.Fork) code o says other = refl
only_merges r (Some kind_is.Entry) code o says other = refl
only_merges r (Some kind_is.Merge) code o says other = absurd (other says)
only_merges r (Some kind_is.FastForward) code o says other = refl
only_merges r (Some kind_is.Leave) code o says other = refl
only_merges r (Some kind_is.MakeHub) code o says other = refl
only_merges r None code o says other = refl

module _ (store : List ℕ) where
  within64 : (d : Result Command ℕ) → (step_outcome store d).reply.count ≤ 64
  unfolding step_outcome
  within64 (Err n) = either (λ x. x ≤ 64) (eqb n 0) (λ _. omega arith) (omega arith)
  within64 (Ok c) = either (λ x. x ≤ 64) (eqb (first_refusal (command_tests store c)) 0) (λ _. few_counted (room_in store) c refl) (omega arith)

  others : (s : List ℕ) (d : Result Command ℕ) → decode s ≡ d → (code_in s ≡ merge_command → (step_outcome store d).reply.answer ≡ 0 → ⊥) → (step_outcome store d).reply.count ≡ 0
  unfolding step_outcome
  others s (Err n) e other = either (λ x. x ≡ 0) (eqb n 0) (λ _. refl) refl
  others s (Ok c) e other =
      either (λ x. x ≡ 0) (eqb (first_refusal (command_tests store c)) 0)
      (λ t. ap (clash_count (room_in store)) (sym (whole_told s c e).1)
      ∙ only_merges (room_in store) (kind_of (code_in s)) (code_in s) (operands_in s) (kind_says (code_in s)) (λ nine. other nine (eqb-true _ 0 t))) refl

  merge_counted : (c d : ℕ) (k : Result Command ℕ) → decode (merge_command ∷ c ∷ d ∷ []) ≡ k → (step_outcome store k).reply.answer ≡ 0
      → (step_outcome store k).reply.count ≡ clashes_between store c d
  unfolding step_outcome kind_of shape_of operands_of number_at clash_count common
  merge_counted c d (Err n) e h = absurd (omega (arith, refused_told (merge_command ∷ c ∷ d ∷ []) n (sym e)))
  merge_counted c d (Ok k) e h =
      let same : Merge (record { 0 = c }) (record { 0 = d }) ≡ k = (whole_told (merge_command ∷ c ∷ d ∷ []) k e).1 in
      rw (h, ← same) (board_counted _ _ _)

  resume_none : (o : Option Content) → (resumed o store).reply.count ≡ 0
  unfolding resumed
  resume_none none = either (λ x. x ≡ 0) (eqb (first_refusal (resume_tests none store)) 0) (λ _. refl) refl
  resume_none (some t) = either (λ x. x ≡ 0) (eqb (first_refusal (resume_tests (some t) store)) 0) (λ _. refl) refl

  pub clashes_counted : ClashesCounted store
  unfolding command_outcome resume_outcome
  clashes_counted = record {
    counted = λ c d. merge_counted c d (decode (merge_command ∷ c ∷ d ∷ [])) refl;
    within64 = λ s. within64 (decode s);
    others_count_none = λ s. others s (decode s) refl;
    resume_counts_none = λ t. resume_none (content_of t);
  }
