-- What the calls answer: the reply and the lent bytes where the code found this refusal or none, and what holds where none is given.
-- Assumes nothing.
use mathlib.Core.Path.{◌≡◌, refl, sym, ◌∙◌, ap}
use mathlib.Core.Bool.{Bool, true, false, cond, not, ◌||◌}
use mathlib.Core.List.{List, [], ◌∷◌}
use Prim.Native.Nat.{ℕ, ◌≤◌, ◌<◌}
use native.Mathlib.Omega.{arith}
use lib.Dec.{eqb}
use lib.ListN.{length}
use borrow.Author.Tests.{ltb-true, lt-ltb, ltb-false, le-ltb, ne_eqb, not-false}
use Rattle.laws.proofs.Logic.{or_none_l, or_none_r}
use Rattle.buffer.specs.Field.{overwrite}
use Rattle.board.specs.Board.{strip_count, board_size, cell_count, cell_of}
use Rattle.refusal.specs.Refusal.{◌when◌, first_refusal, first_of}
use Rattle.command.specs.Code.{console_count, is_console, is_strip, is_cell}
use Rattle.room.specs.Room.{present, common, open_settings}
use Rattle.room.specs.Sound.{settings_in_range}
use Rattle.room.specs.Origin.{origin}
use Rattle.room.specs.Step.{absent}
use Rattle.store.specs.Layout.{store_size, room_in, holds_store}
use Rattle.unit.specs.declared.Reply.{Reply}
use Rattle.unit.specs.Calls.{Outcome, replied, written, too_short, buffer_tests, open_tests, console_state_tests, console_tests, pair_state_tests, pair_tests, common_reply, origin_tests, origin_reply}
use Rattle.refusal.proofs.Refusals.{none_applies, numbered, first_append, first_none}

-- a call with this reply, which left this in the lent buffer, went as it should
abbrev pub Went : Reply → List ℕ → Outcome → Type 0
Went reply buffer o = (reply ≡ o.reply) × (buffer ≡ o.buffer)

-- a call that counts nothing, refused or not
pub replied_none : (n : ℕ) → record { answer = n; count = 0 } ≡ replied n 0
replied_none n = λ i. record { answer = n; count = go (eqb n 0) i }
  where
    go : (b : Bool) → ◌≡◌ {A = ℕ} 0 (cond b 0 0)
    go true = refl
    go false = refl

-- refused by n, or accepted where n is 0, with this number or these bytes
pub replied_refused : {n m : ℕ} (count : ℕ) → n ≡ m → 0 < n → replied n 0 ≡ replied m count
replied_refused {n} count e p = rw (← e, ne_eqb n 0 (omega arith))

pub replied_done : {n m v count : ℕ} → n ≡ m → n ≡ 0 → v ≡ count → replied 0 v ≡ replied m count
replied_done e z w = rw (sym e ∙ z, w)

module _ {n m : ℕ} (count : ℕ) (new old : List ℕ) (e : n ≡ m) where
  pub written_refused : 0 < n → Went (replied n 0) old (written m count new old)
  written_refused p = rw (← e, ne_eqb n 0 (omega arith)) (refl, refl)

  pub written_done : n ≡ 0 → {v : ℕ} {t : List ℕ} → v ≡ count → t ≡ overwrite new old → Went (replied 0 v) t (written m count new old)
  written_done z w u = rw (sym e ∙ z, w) (refl, u)

-- 19 behind other tests
pub buffer_first : (tests : List (ℕ × Bool)) (buffer : List ℕ) (size : ℕ) → numbered tests ≡ true → {n : ℕ} → n ≡ first_refusal tests
    → first_of n (first_refusal (19 when too_short buffer size ∷ [])) ≡ first_refusal (buffer_tests tests buffer size)
buffer_first tests buffer size k e = rw (first_append tests _ k, e)

pub buffer_fits : (tests : List (ℕ × Bool)) (buffer : List ℕ) (size : ℕ) → numbered tests ≡ true → first_refusal tests ≡ 0 → size ≤ length buffer
    → first_refusal (buffer_tests tests buffer size) ≡ 0
unfolding first_refusal
buffer_fits tests buffer size k z l = rw (first_append tests _ k, z, le-ltb (length buffer) size l)

pub buffer_allowed : (tests : List (ℕ × Bool)) (buffer : List ℕ) (size : ℕ) → numbered tests ≡ true
    → first_refusal (buffer_tests tests buffer size) ≡ 0 → (first_refusal tests ≡ 0) × (size ≤ length buffer)
buffer_allowed tests buffer size k h =
    let n = first_none (first_refusal tests) _ (sym (first_append tests _ k) ∙ h) in
    (n.0, ltb-false (length buffer) size (none_applies _ refl n.1).0)

-- opening
pub opening_allowed : (capacity : ℕ) (s : List ℕ) {n : ℕ} → n ≡ first_refusal (open_tests capacity s) → n ≡ 0
    → (settings_in_range (open_settings capacity) ≡ true) × (store_size capacity ≤ length s)
opening_allowed capacity s e z =
    let n = buffer_allowed (8 when not (settings_in_range (open_settings capacity)) ∷ []) s (store_size capacity) refl (sym e ∙ z) in
    (not-false (settings_in_range (open_settings capacity)) (none_applies _ refl n.0).0, n.1)

-- two consoles: what holds of them where none of their tests applies
pub record Allowed (s : List ℕ) (c d : ℕ) : Type 0 where
  pub first : c < console_count
  pub second : d < console_count
  pub held : holds_store s ≡ true
  pub here : present (room_in s) c ≡ true
  pub there : present (room_in s) d ≡ true

pub pair_allowed : (s : List ℕ) (c d : ℕ) {n : ℕ} → n ≡ first_refusal (pair_tests s c d) → n ≡ 0 → Allowed s c d
pair_allowed s c d e z =
    let n = none_applies (pair_tests s c d) refl (sym e ∙ z) in
    let three = n.0 in
    let eleven = n.1.0 in
    let twelve = n.1.1.0 in
    record {
      first = ltb-true c console_count (not-false (is_console c) (or_none_l _ _ three));
      second = ltb-true d console_count (not-false (is_console d) (or_none_r (not (is_console c)) _ three));
      held = not-false (holds_store s) eleven;
      here = not-false (present (room_in s) c) (or_none_l _ _ twelve);
      there = not-false (present (room_in s) d) (or_none_r (absent (room_in s) c) _ twelve);
    }

-- their common version is answered where they can be asked about, and only there
pub pair_answered : (s : List ℕ) (c d : ℕ) → Allowed s c d → common_reply s c d ≡ replied 0 (common (room_in s) c d)
unfolding common_reply first_refusal
pair_answered s c d a = rw (lt-ltb c console_count a.first, lt-ltb d console_count a.second, a.held, a.here, a.there)

pub pair_told : (s : List ℕ) (c d v : ℕ) → common_reply s c d ≡ replied 0 v → Allowed s c d × (common (room_in s) c d ≡ v)
unfolding common_reply
pair_told s c d v told =
    let none = ap (λ (r : Reply). r.answer) told in
    (pair_allowed s c d refl none, rw none at (ap (λ (r : Reply). r.count) told))

or_same : (b : Bool) → b || b ≡ b
or_same true = refl
or_same false = refl

-- a console is asked about as two that are the same
pub pair_state_sole : (s : List ℕ) (c : ℕ) → first_refusal (pair_state_tests s c c) ≡ first_refusal (console_state_tests s c)
pair_state_sole s c = rw (or_same (absent (room_in s) c))

pub pair_sole : (s : List ℕ) (c : ℕ) → first_refusal (pair_tests s c c) ≡ first_refusal (console_tests s c)
pair_sole s c = rw (or_same (not (is_console c)), or_same (absent (room_in s) c))

pub pane_allowed : (s : List ℕ) (c : ℕ) (output : List ℕ) {n : ℕ} → n ≡ first_refusal (buffer_tests (console_tests s c) output board_size) → n ≡ 0
    → Allowed s c c × (board_size ≤ length output)
pane_allowed s c output e z =
    let n = buffer_allowed (console_tests s c) output board_size refl (sym e ∙ z) in
    (pair_allowed s c c refl (pair_sole s c ∙ n.0), n.1)

-- a cell: what holds where its origin can be asked about
pub record Askable (s : List ℕ) (c k cell : ℕ) : Type 0 where
  pub is_console_lem : c < console_count
  pub is_strip_lem : k < strip_count
  pub is_cell_lem : cell < cell_count
  pub held : holds_store s ≡ true
  pub here : present (room_in s) c ≡ true

pub origin_allowed : (s : List ℕ) (c k cell : ℕ) {n : ℕ} → n ≡ first_refusal (origin_tests s c k cell) → n ≡ 0 → Askable s c k cell
origin_allowed s c k cell e z =
    let n = none_applies (origin_tests s c k cell) refl (sym e ∙ z) in
    record {
      is_console_lem = ltb-true c console_count (not-false (is_console c) n.0);
      is_strip_lem = ltb-true k strip_count (not-false (is_strip k) n.1.0);
      is_cell_lem = ltb-true cell cell_count (not-false (is_cell cell) n.1.1.0);
      held = not-false (holds_store s) n.1.1.1.0;
      here = not-false (present (room_in s) c) n.1.1.1.1.0;
    }

pub origin_answered : (s : List ℕ) (c k cell : ℕ) → Askable s c k cell → origin_reply s c k cell ≡ replied 0 (origin (room_in s) c k (cell_of cell))
unfolding origin_reply first_refusal
origin_answered s c k cell a =
    rw (lt-ltb c console_count a.is_console_lem, lt-ltb k strip_count a.is_strip_lem, lt-ltb cell cell_count a.is_cell_lem, a.held, a.here)
