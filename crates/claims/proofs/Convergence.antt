-- Demand 3: consoles that heard the same entries show the same board, a common version holds what both have heard and every version common
-- to both leads to it, the call counters and heard counts are what was heard, and an origin is an entry that was heard.
-- Assumes nothing.
use Prim.Native.Nat.{ℕ, suc, ◌≤◌, ◌<◌}
use mathlib.Core.Path.{◌≡◌, refl, sym, ◌∙◌, ap, subst}
use mathlib.Core.Bool.{Bool, true, ◌&&◌}
use mathlib.Core.List.{List, map}
use mathlib.Core.Option
use mathlib.Core.Option.{Option, none, some}
use native.Mathlib.Omega.{arith}
use borrow.Author.Tests.{lt-ltb, le-ltb}
use lib.ListN.{length, length-map}
use Rattle.laws.proofs.Logic.{and_l, and_r, and_both}
use Rattle.buffer.specs.Field.{word_at}
use Rattle.buffer.proofs.Fields.{word_at-left}
use Rattle.board.specs.Board.{strip_count, board_size, calls_at, call_entry, cell_count, cell_of}
use Rattle.board.specs.declared.Viewer.{Viewer}
use Rattle.graph.specs.Below.{count_below}
use Rattle.graph.specs.Graph.{version_count, ancestor, is_entry}
use Rattle.graph.proofs.Below.{count_ext}
use Rattle.graph.proofs.Counting.{held}
use Rattle.graph.proofs.Growth.{WellFormed, same_entries, meet_entries}
use Rattle.refusal.specs.Refusal.{first_refusal}
use Rattle.command.specs.Code.{console_count, is_console}
use Rattle.room.specs.Room.{Room, head, heard_count}
use Rattle.room.specs.Boards.{board_of}
use Rattle.room.specs.Origin.{origin}
use Rattle.room.proofs.Sound.{Sound, versions_small, present_console, present_head}
use Rattle.room.proofs.Steps.{common_meet}
use Rattle.room.proofs.Counters.{tally, calls_tally}
use Rattle.room.proofs.Origins.{origin_heard, origin_wrote}
use Rattle.room.proofs.Lengths.{board_of-length}
use Rattle.store.specs.Layout.{room_in, holds_store}
use Rattle.store.proofs.RoundTrip.{holds_sound}
use Rattle.store.proofs.Whole.{whole_sound}
use Rattle.unit.specs.Calls.{replied, written, board_shown, pane_outcome, board_outcome, heard_reply}
use Rattle.claims.specs.Journal.{Journal, Made, entered, merged, made_by, is_present, head_number, leads, made_as, was_entered, holds, has_heard, entries_heard, call_of, calls_heard}
use Rattle.claims.specs.Convergence.{Common, Origin, Converged, Demand3}
use Rattle.claims.proofs.Reading.{leads_ancestor, made_node, entered_entry, call_entry_lem}
use Rattle.claims.proofs.Matched.{journal_of, matched}
use Rattle.unit.proofs.Answered.{Allowed, pair_answered, Askable, origin_answered}
use Rattle.claims.proofs.Absent.{absent_console}

-- what the journal of a room says is what the room says
holds_ancestor : (r : Room) (v e : ℕ) → holds (journal_of r) v e ≡ (is_entry r.versions e && ancestor r.versions e v)
holds_ancestor r v e = cc (entered_entry r.versions e, leads_ancestor r.versions e v)

entries_count : (r : Room) (c : ℕ) → entries_heard (journal_of r) c ≡ heard_count r c
unfolding heard_count
entries_count r c =
    ap (λ (n : ℕ). count_below (suc n) (has_heard (journal_of r) c)) (length-map r.versions made_by)
    ∙ count_ext (version_count r.versions) _ _ (λ e _. holds_ancestor r (head r c) e)

-- a call that leads to a head is an entry heard
call_heard : (k : ℕ) (o : Option Made) (b : Bool) → call_of k o && (was_entered o && b) ≡ call_of k o && b
call_heard k none b = refl
call_heard k (some (entered p code strip)) b = refl
call_heard k (some (merged p q)) b = refl

calls_count : (r : Room) (c k : ℕ) → calls_heard (journal_of r) c k ≡ tally call_entry k r.versions (head r c)
unfolding held
calls_count r c k =
    let g = r.versions in
    let made = map made_by g in
    ap (λ (n : ℕ). count_below (suc n) (λ e. call_of k (made_as made e) && has_heard (journal_of r) c e)) (length-map g made_by)
    ∙ count_ext (version_count g) _ _
    (λ e _. cc (call_heard k (made_as made e) (leads made e (head r c)), call_entry_lem g k e, leads_ancestor g e (head r c)))

-- the journal of the room that a store holds
abbrev journal_in : List ℕ → Journal
journal_in store = journal_of (room_in store)

module _ (store : List ℕ) (h : holds_store store ≡ true) where
  s : Sound (room_in store)
  s = whole_sound store h

  well_formed : WellFormed (room_in store).versions
  well_formed = record { lower = s.lower; based = s.based }

  console : (c : ℕ) → is_present (journal_in store) c ≡ true → is_console c ≡ true
  console c p = lt-ltb c console_count (present_console (room_in store) c s.sixteen p)

  both_there : (c d : ℕ) → is_present (journal_in store) c ≡ true → is_present (journal_in store) d ≡ true → Allowed store c d
  both_there c d p q =
      let l = s.sixteen in
      record { first = present_console (room_in store) c l p; second = present_console (room_in store) d l q; held = h; here = p; there = q }

  module _ (c d : ℕ) (p : is_present (journal_in store) c ≡ true) (q : is_present (journal_in store) d ≡ true) where
    same_head : ((e : ℕ) → has_heard (journal_in store) c e ≡ has_heard (journal_in store) d e)
        → head_number (journal_in store) c ≡ head_number (journal_in store) d
    same_head f =
        let r = room_in store in
        same_entries well_formed (s.meets c d p q).1
        (λ e i. cc (f e, holds_ancestor r (head r c) e, holds_ancestor r (head r d) e))

    same_pane : head_number (journal_in store) c ≡ head_number (journal_in store) d
        → (viewer : Viewer) (output : List ℕ) → pane_outcome viewer store c output ≡ pane_outcome viewer store d output
    unfolding pane_outcome
    same_pane e viewer output = cc (console c p, console d q)

    common_version_lem : (m : ℕ) × Common store (journal_in store) c d m
    common_version_lem =
        let r = room_in store in
        let g = r.versions in
        let m = s.meets c d p q in (
          m.0,
          record {
            answered = pair_answered store c d (both_there c d p q) ∙ ap (replied 0) (common_meet r c d m.1);
            held = λ e.
                cc (
                  holds_ancestor r m.0 e,
                  holds_ancestor r (head r c) e,
                  holds_ancestor r (head r d) e,
                  meet_entries m.1 e,
                  and_both (is_entry g e) (ancestor g e (head r c)) (ancestor g e (head r d)),
                );
            common = simp (leads_ancestor, m.1.first, m.1.second);
            last = λ v t.
                let both = simp leads_ancestor at t in
                rw leads_ancestor (m.1.lowest v (and_l _ _ both) (and_r (ancestor g v (head r c)) _ both));
          },
        )

  module _ (c : ℕ) (p : is_present (journal_in store) c ≡ true) where
    pub board_shown_lem : (output : List ℕ) → board_size ≤ length output
        → board_outcome store c output ≡ written 0 board_size (board_shown (room_in store) c) output
    unfolding pane_outcome first_refusal
    board_shown_lem output fits = cc (h, console c p, le-ltb (length output) board_size fits)

    heard_count_lem : heard_reply store c ≡ replied 0 (entries_heard (journal_in store) c)
    unfolding heard_reply first_refusal
    heard_count_lem = cc (h, console c p, entries_count (room_in store) c)

    origin_told : (k cell : ℕ) → k < strip_count → cell < cell_count → (v : ℕ) × Origin store (journal_in store) c k cell v
    origin_told k cell is_strip_lem is_cell_lem =
        let r = room_in store in
        let sound = holds_sound store h in
        let asked : Askable store c k cell = record { is_console_lem = present_console r c s.sixteen p; is_strip_lem = is_strip_lem; is_cell_lem = is_cell_lem; held = h; here = p } in (
          origin r c k (cell_of cell),
          record {
            answered = origin_answered store c k cell asked;
            heard = λ l. holds_ancestor r (head r c) (origin r c k (cell_of cell)) ∙ origin_heard r c k (cell_of cell) sound p is_strip_lem l;
            entry = λ l.
                let e = origin_wrote r c k (cell_of cell) sound p is_strip_lem l in
                (e.0, made_node r.versions (origin r c k (cell_of cell)) ∙ ap (Option.map made_by) e.1);
          },
        )

    calls_counted : (k : ℕ) → k < strip_count → (output : List ℕ) → board_size ≤ length output
        → ((board_outcome store c output).reply ≡ replied 0 board_size)
        × (word_at (board_outcome store c output).buffer (calls_at k) ≡ calls_heard (journal_in store) c k)
    calls_counted k l output fits =
        let r = room_in store in
        let g = r.versions in
        let v = head r c in
        let named : v < version_count g = s.named c v (present_head r c p) in
        let small : length g < 65535 = omega (arith, versions_small r s) in
        let front = word_at-left (board_of g v) _ (calls_at k) (omega (arith, board_of-length g v)) in
        rw (board_shown_lem output fits) (refl, front ∙ calls_tally g v k well_formed small named l ∙ sym (calls_count r c k))

  converged : Converged store (journal_in store)
  converged = record {
    sound = h;
    heads = refl;
    alike = λ c d p q f. let e = same_head c d p q f in (e, same_pane c d p q e);
    commons = common_version_lem;
    calls = λ c k p. calls_counted c p k;
    heard = heard_count_lem;
    origins = λ c k cell p. origin_told c p k cell;
    absent = absent_console store h;
  }

pub demand_3 : Demand3
demand_3 buffer before first calls b accepted =
    let m = matched buffer before first calls b accepted in
    subst (Converged _) m.journal (converged _ m.holds)
