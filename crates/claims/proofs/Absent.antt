-- What the calls answer for a console that is absent: 12 to every question, and its number can be forked.
-- Assumes nothing.
use Prim.Native.Nat.{ℕ, ◌<◌}
use mathlib.Core.Path.{◌≡◌, refl, sym, ap}
use mathlib.Core.Bool.{true, false, not, ◌||◌}
use mathlib.Core.List.{List, [], ◌∷◌}
use borrow.Author.Tests.{lt-ltb}
use Rattle.laws.proofs.Logic.{clash, or_r}
use Rattle.board.specs.Board.{strip_count, cell_count}
use Rattle.board.specs.declared.Viewer.{Viewer}
use Rattle.refusal.specs.Refusal.{first_refusal}
use Rattle.command.specs.declared.Command.TheVariants.{Fork}
use Rattle.command.specs.Code.{console_count, fork_command}
use Rattle.command.specs.Decode.{command_bytes}
use Rattle.command.specs.Decoding.{InRange}
use Rattle.room.specs.Step.{beside_hub, clash_count}
use Rattle.room.specs.Room.{present}
use Rattle.room.proofs.Sound.{present_console}
use Rattle.room.proofs.Accepted.{fork_accepts}
use Rattle.store.specs.Layout.{room_in, holds_store}
use Rattle.store.proofs.Whole.{whole_sound}
use Rattle.unit.specs.Calls.{Outcome, replied, command_outcome, pane_outcome, heard_reply, common_reply, origin_reply, view_part, view_at_reply, view_refusal_reply}
use Rattle.unit.specs.View.{view_of, refused_view}
use Rattle.claims.specs.Absent.{Absent}
use Rattle.unit.proofs.Commanded.{carried_out}

module _ (store : List ℕ) (held : holds_store store ≡ true) (c : ℕ) (cl : c < console_count) (away : present (room_in store) c ≡ false) where
  no_common_lem : (d : ℕ) → d < console_count → (common_reply store c d ≡ replied 12 0) × (common_reply store d c ≡ replied 12 0)
  unfolding common_reply first_refusal
  no_common_lem d dl =
      let late : not (present (room_in store) d) || true ≡ true = or_r (not (present (room_in store) d)) true refl in (
        rw (lt-ltb c console_count cl, lt-ltb d console_count dl, held, away),
        rw (lt-ltb c console_count cl, lt-ltb d console_count dl, held, away, late),
      )

  no_pane_lem : (viewer : Viewer) (output : List ℕ) → pane_outcome viewer store c output ≡ record { reply = replied 12 0; buffer = output }
  unfolding pane_outcome first_refusal
  no_pane_lem viewer output = rw (lt-ltb c console_count cl, held, away)

  no_heard_lem : heard_reply store c ≡ replied 12 0
  unfolding heard_reply first_refusal
  no_heard_lem = rw (lt-ltb c console_count cl, held, away)

  no_origin_lem : (k cell : ℕ) → k < strip_count → cell < cell_count → origin_reply store c k cell ≡ replied 12 0
  unfolding origin_reply first_refusal
  no_origin_lem k cell kl l = rw (lt-ltb c console_count cl, lt-ltb k strip_count kl, lt-ltb cell cell_count l, held, away)

  no_view_lem : (other : List ℕ) → (view_of store other c 0 ≡ refused_view 12) × (view_of other store c 1 ≡ refused_view 12)
  unfolding view_part view_at_reply view_refusal_reply first_refusal
  no_view_lem other = rw (lt-ltb c console_count cl, held, away) (refl, refl)

  forkable : (old : ℕ) → present (room_in store) old ≡ true → beside_hub (room_in store) old ≡ false
      → (command_outcome store (fork_command ∷ c ∷ old ∷ [])).reply ≡ replied 0 0
  unfolding command_bytes clash_count
  forkable old here hub =
      let range : InRange (Fork (record { 0 = c }) (record { 0 = old })) = (cl, present_console (room_in store) old (whole_sound store held).sixteen here, λ e. clash (rw (sym e) at here) away) in
      ap (λ (o : Outcome). o.reply)
      (carried_out store (Fork (record { 0 = c }) (record { 0 = old })) range held (fork_accepts (room_in store) (record { 0 = c }) (record { 0 = old }) away here hub))

  pub absent_console : Absent store c
  absent_console = record { no_common = no_common_lem; no_pane = no_pane_lem; no_heard = no_heard_lem; no_origin = no_origin_lem; no_view = no_view_lem; forkable = forkable }
