-- A view and the store that it lies in: what holds where it is not refused, what it shows and where, and the claim about it.
-- Assumes nothing.
use Prim.Native.Nat.{ℕ, ◌+◌, ◌^◌, ◌≤◌, ◌<◌}
use mathlib.Core.Path.{◌≡◌, refl, sym, ◌∙◌, ap, subst}
use mathlib.Core.Logic.{◌≢◌}
use mathlib.Core.Bool.{Bool, true, false, cond, not}
use mathlib.Core.List.{List, ◌∷◌}
use native.Mathlib.Omega.{arith}
use native.Mathlib.Decide.{ℕ_discrete}
use lib.ListN.{length}
use borrow.Author.Tests.{ltb-true, le-ltb, ne_eqb, not-false}
use Rattle.buffer.specs.Field.{part, address_of, overwrite}
use Rattle.board.specs.Board.{board_size}
use Rattle.graph.specs.Graph.{version_count}
use Rattle.refusal.specs.Refusal.{◌when◌, first_refusal}
use Rattle.refusal.proofs.Refusals.{none_applies}
use Rattle.command.specs.Code.{console_count, is_console}
use Rattle.room.specs.Room.{present, head}
use Rattle.room.proofs.Lengths.{board_of-length}
use Rattle.room.proofs.Steps.{common_self}
use Rattle.store.specs.Layout.{board_at, encode, room_in, holds_store}
use Rattle.store.proofs.RoundTrip.{room_over, holds_over, holds_sound}
use Rattle.store.proofs.Whole.{whole_sound, whole_small, whole_block}
use Rattle.query.proofs.Answers.{head_answer, board_answer}
use Rattle.unit.specs.Calls.{Outcome, buffer_tests, console_state_tests, console_tests, board_shown, pane_outcome, chosen, is_choice, view_tests, view_part, view_at_reply, view_address, view_refusal_reply}
use Rattle.unit.specs.View.{view_of, refused_view, shown_view, Told, AsPaused, Viewed}
use Rattle.unit.proofs.Answered.{Allowed, pair_answered}
use Rattle.unit.proofs.RoundTrip.{pause_allowed, store_over, paused_resumes}

-- a buffer lies where its first byte does, and so does the empty part that a refused view is; in `room_view` the check finds it by itself
address_front : (pointer : ℕ × ℕ) → pointer ≡ address_of pointer 0
address_front pointer =
    let front : pointer.1 ≡ 0 + pointer.1 = omega arith in
    λ i. (pointer.0, front i)

-- what holds where a view is not refused
pub view_allowed : (live frozen : List ℕ) (console choice : ℕ) {n : ℕ} → n ≡ first_refusal (view_tests live frozen console choice) → n ≡ 0
    → Allowed (chosen choice live frozen) console console
view_allowed live frozen console choice e z =
    let store = chosen choice live frozen in
    let n = none_applies (view_tests live frozen console choice) refl (sym e ∙ z) in
    let named = ltb-true console console_count (not-false (is_console console) n.0) in
    let here = not-false (present (room_in store) console) n.1.1.1.0 in
    record { first = named; second = named; held = not-false (holds_store store) n.1.1.0; here = here; there = here }

-- the board of a console's head
module _ (store : List ℕ) (console : ℕ) (a : Allowed store console console) where
  head_low : head (room_in store) console < version_count (room_in store).versions
  head_low = rw (head_answer store a.held console a.first).0 at (head_answer store a.held console a.first).1

  pub place_low : board_at (head (room_in store) console) < 2 ^ 32
  place_low = omega (arith, whole_small store a.held, head_low)

  board_inside : board_at (head (room_in store) console) + board_size ≤ length store
  board_inside = omega (arith, whole_block store a.held (head (room_in store) console) head_low)

  board_stands : part store (board_at (head (room_in store) console)) board_size ≡ board_shown (room_in store) console
  board_stands = board_answer store a.held (head (room_in store) console) head_low

-- a view that is refused, and one that is not
module _ (live frozen : List ℕ) (console choice : ℕ) where
  refused_view_lem : first_refusal (view_tests live frozen console choice) ≢ 0
      → view_of live frozen console choice ≡ refused_view (first_refusal (view_tests live frozen console choice))
  unfolding view_part view_at_reply view_refusal_reply
  refused_view_lem given = rw (ne_eqb (first_refusal (view_tests live frozen console choice)) 0 given)

  shown_view_lem : first_refusal (view_tests live frozen console choice) ≡ 0
      → view_of live frozen console choice ≡ shown_view (room_in (chosen choice live frozen)) console
  unfolding view_part view_at_reply view_refusal_reply
  shown_view_lem none = rw none

  pub view_done : (view_at_reply live frozen console choice).answer ≡ 0
      → ((view_at_reply live frozen console choice).count + board_size ≤ length (chosen choice live frozen))
      × (view_part live frozen console choice ≡ part (chosen choice live frozen) (view_at_reply live frozen console choice).count board_size)
  unfolding view_at_reply view_part
  view_done none =
      let store = chosen choice live frozen in
      let a = view_allowed live frozen console choice refl none in
      rw none (board_inside store console a, sym (board_stands store console a))

  -- as the code meets them: a part of the store chosen, none of it or its board
  module _ (p q : ℕ × ℕ) {base pointer : ℕ × ℕ} {bytes : List ℕ} (chose : base ≡ chosen choice p q) where
    pub view_placed : {store : List ℕ} {at : ℕ} → store ≡ chosen choice live frozen → (view_at_reply live frozen console choice).answer ≡ 0
        → at ≡ (view_at_reply live frozen console choice).count → bytes ≡ part store at board_size → pointer ≡ address_of base at
        → (bytes ≡ view_part live frozen console choice) × (pointer ≡ view_address p q live frozen console choice)
    view_placed from none counted shown lies = (rw (from, counted) at shown ∙ sym (view_done none).1, rw (chose, counted) at lies)

-- what is said of a store's own view
module _ (store other : List ℕ) (console : ℕ) where
  abbrev number : ℕ
  number = first_refusal (view_tests store other console 0)

  -- a board copied out has the same tests, and 19
  board_number : (output : List ℕ) → board_size ≤ length output → first_refusal (buffer_tests (console_tests store console) output board_size) ≡ number
  unfolding first_refusal
  board_number output fits = rw (le-ltb (length output) board_size fits)

  shown_told : number ≡ 0 → Told store console (shown_view (room_in store) console)
  unfolding pane_outcome
  shown_told none =
      let a = view_allowed store other console 0 refl none in
      let r = room_in store in
      let l = board_of-length r.versions (head r console) in
      record {
        answer = refl;
        no_count = refl;
        size = l;
        place = rw (pair_answered store console console a, common_self r (whole_sound store a.held) console a.here) refl;
        inside = rw l (board_inside store console a);
        stands = rw l (sym (board_stands store console a));
        copied = λ output fits. rw (board_number output fits, none);
      }

  refused_told : number ≢ 0 → Told store console (refused_view number)
  unfolding pane_outcome
  refused_told given =
      let e = ne_eqb number 0 given in
      record {
        answer = refl;
        no_count = rw e;
        size = rw e;
        place = rw e;
        inside = rw e (omega arith);
        stands = refl;
        copied = λ output fits. rw (board_number output fits, e);
      }

  own_told : Told store console (view_of store other console 0)
  own_told =
      elim (ℕ_discrete number 0) [
        | yes none ↦ subst (Told store console) (sym (shown_view_lem store other console 0 none)) (shown_told none)
        | no given ↦ subst (Told store console) (sym (refused_view_lem store other console 0 given)) (refused_told given)
      ]

-- a choice that names no store
three_or_five : (b c : Bool) (later : List (ℕ × Bool)) → c ≡ false
    → let n : ℕ = first_refusal (3 when not b ∷ 5 when not c ∷ later) in (n ≡ cond b 5 3) × (n ≢ 0)
unfolding first_refusal
three_or_five true c later e = rw e (refl, λ z. absurd (omega (arith, z)))
three_or_five false c later e = (refl, λ z. absurd (omega (arith, z)))

no_choice_lem : (live frozen : List ℕ) (console choice : ℕ) → 2 ≤ choice → view_of live frozen console choice ≡ refused_view (cond (is_console console) 5 3)
no_choice_lem live frozen console choice high =
    let n = three_or_five (is_console console) (is_choice choice) (console_state_tests (chosen choice live frozen) console) (le-ltb choice 2 high) in
    refused_view_lem live frozen console choice n.1 ∙ ap refused_view n.0

-- a view says nothing of a store but whether it is sound, and what its room shows
same_view : (s t live other : List ℕ) (console : ℕ) → holds_store s ≡ holds_store t → room_in s ≡ room_in t
    → view_of live s console 1 ≡ view_of t other console 0
unfolding view_part view_at_reply view_refusal_reply
same_view s t live other console held room = rw (held, room)

as_paused_lem : AsPaused
as_paused_lem store output lent paused fits live other console =
    let held = (pause_allowed store output paused).0 in
    let s = holds_sound store held in
    let frozen = ap (λ (o : Outcome). o.buffer) (paused_resumes store output lent paused fits) ∙ sym (store_over store held lent) in
    rw frozen
    (same_view (overwrite (encode (room_in store)) lent) store live other console (holds_over (room_in store) lent s ∙ sym held)
    (room_over (room_in store) lent s))

pub viewed : Viewed
unfolding view_part view_at_reply view_refusal_reply
viewed = record {
  alone = λ store other another console. refl;
  told = own_told;
  no_choice = no_choice_lem;
  as_paused = as_paused_lem;
}
