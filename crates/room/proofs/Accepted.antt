-- What is true of a room where a command on it is accepted: the case of none of its refusals is there; and when one that is no entry is accepted.
-- Assumes nothing.
use Prim.Native.Nat.{ℕ, ◌<◌}
use mathlib.Core.Path.{◌≡◌, refl}
use mathlib.Core.Bool.{Bool, true, false, not, ◌&&◌, ◌||◌}
use mathlib.Core.Logic.{◌⊎◌, inl, inr}
use borrow.Author.Tests.{eqb-true, eqb-false, ltb-true, not-false}
use lib.Dec.{eqb}
use Rattle.laws.proofs.Logic.{clash, decide, refuted, and_l, and_r, and_rest, not_e, or_none_l, or_none_r}
use Rattle.graph.specs.Graph.{version_count}
use Rattle.graph.proofs.Below.{some_at}
use Rattle.command.specs.Code.{console_count}
use Rattle.graph.specs.declared.Strip.{Strip}
use Rattle.graph.specs.declared.Console.{Console}
use Rattle.command.specs.declared.Command.TheVariants.{Fork, Entry, Merge, FastForward, Leave, MakeHub}
use Rattle.refusal.specs.Refusal.{first_refusal}
use Rattle.refusal.proofs.Refusals.{none_applies}
use Rattle.room.specs.Room.{Room, present}
use Rattle.room.specs.Sound.{can_make_hub}
use Rattle.room.specs.Step.{absent, behind, beside_hub, some_third_splits, other_descends, some_other_descends, version_free, receiver_giver_tests, merge_tests, fast_forward_tests, state_tests, step_refusal}

-- one of two consoles is the hub, where the room has one
abbrev pub Through : Room → ℕ → ℕ → Type 0
Through r c d = beside_hub r c && beside_hub r d ≡ false

pub is_hub : (r : Room) (c : ℕ) → r.settings.hub ≡ true → beside_hub r c ≡ false → c ≡ 0
is_hub r c hub h = eqb-true c 0 (not-false _ (and_rest r.settings.hub _ hub h))

pub through_hub : (r : Room) (c d : ℕ) → r.settings.hub ≡ true → Through r c d → (c ≡ 0) ⊎ (d ≡ 0)
through_hub r c d hub h =
    elim (decide (beside_hub r c)) [
      | inl beside ↦ inr (is_hub r d hub (and_rest (beside_hub r c) _ beside h))
      | inr not-beside ↦ inl (is_hub r c hub not-beside)
    ]

-- console d is present, c, where it is, is behind d, and one of the two is the hub, where there is one: what a move of c to the head of d asks for
pub record MayMove (r : Room) (c d : ℕ) : Type 0 where
  pub target : present r d ≡ true
  pub ahead : present r c ≡ true → behind r c d ≡ true
  pub through : Through r c d

-- a fork is made from the hub, where the room has one
pub fork_from : (r : Room) (new old : Console) → step_refusal r (Fork new old) ≡ 0 → beside_hub r old.0 ≡ false
unfolding step_refusal state_tests
fork_from r new old h = (none_applies _ refl h).1.1.0

pub fork_accepted : (r : Room) (new old : Console) → step_refusal r (Fork new old) ≡ 0 → MayMove r new.0 old.0
unfolding step_refusal state_tests
fork_accepted r new old h =
    let t = none_applies _ refl h in
    let away : present r new.0 ≡ false = t.1.0 in
    record {
      target = not-false _ t.0;
      ahead = λ p. clash p away;
      through = refuted _ (λ u. clash (and_r (beside_hub r new.0) _ u) (fork_from r new old h));
    }

-- and the number of an absent console can be forked from any that is present, in a room with a hub from that
pub fork_accepts : (r : Room) (new old : Console) → present r new.0 ≡ false → present r old.0 ≡ true → beside_hub r old.0 ≡ false
    → step_refusal r (Fork new old) ≡ 0
unfolding step_refusal state_tests first_refusal
fork_accepts r new old away here hub = rw (away, here, hub)

pub entry_accepted : (r : Room) (c : Console) (code : ℕ) (k : Strip) (x : ℕ) → step_refusal r (Entry c code k x) ≡ 0
    → (present r c.0 ≡ true) × (version_count r.versions < r.settings.capacity)
unfolding step_refusal state_tests
entry_accepted r c code k x h =
    let t = none_applies _ refl h in
    (not-false _ t.0, ltb-true _ _ (not-false _ t.1.0))

-- what a merge and a fast-forward ask for alike
pub record MayTake (r : Room) (a b : ℕ) : Type 0 where
  pub receiver : present r a ≡ true
  pub giver : present r b ≡ true
  pub through : Through r a b
  pub ahead : behind r b a ≡ false

may_take : (r : Room) (a b : ℕ) → absent r a || absent r b ≡ false → Through r a b → behind r b a ≡ false → MayTake r a b
may_take r a b both through ahead =
    record {
      receiver = not-false _ (or_none_l _ _ both);
      giver = not-false _ (or_none_r (absent r a) _ both);
      through = through;
      ahead = ahead;
    }

-- both ask for it by their first three tests
pub take_passes : (r : Room) (a b : ℕ) → first_refusal (receiver_giver_tests r a b) ≡ 0 → MayTake r a b
take_passes r a b h = let t = none_applies _ refl h in may_take r a b t.0 t.1.0 t.1.1.0

-- a fast-forward, and that the receiver is behind the giver
pub forward_passes : (r : Room) (a b : ℕ) → first_refusal (fast_forward_tests r a b) ≡ 0 → MayTake r a b × (behind r a b ≡ true)
forward_passes r a b h =
    let t = none_applies _ refl h in
    (may_take r a b t.0 t.1.0 t.1.1.0, not-false _ t.1.1.1.0)

pub forward_accepts : (r : Room) (a b : ℕ) → MayTake r a b → behind r a b ≡ true → first_refusal (fast_forward_tests r a b) ≡ 0
unfolding first_refusal
forward_accepts r a b may behind = rw (may.receiver, may.giver, may.through, may.ahead, behind)

pub forward_accepted : (r : Room) (a b : Console) → step_refusal r (FastForward a b) ≡ 0 → MayMove r a.0 b.0
unfolding step_refusal state_tests
forward_accepted r a b h =
    let may = forward_passes r a.0 b.0 h in
    record { target = may.0.giver; ahead = λ p. may.1; through = may.0.through }

-- a merge, given whether a version is free
pub record MayMerge (r : Room) (free : Bool) (a b : ℕ) : Type 0 where
  pub take : MayTake r a b
  pub back : behind r a b ≡ false
  pub unsplit : some_third_splits r a b ≡ false
  pub is_free : free ≡ true

pub merge_passes : (r : Room) (free : Bool) (a b : ℕ) → first_refusal (merge_tests r free a b) ≡ 0 → MayMerge r free a b
merge_passes r free a b h =
    let t = none_applies _ refl h in
    let fifteen = t.1.1.1 in
    let seventeen = fifteen.1 in
    record {
      take = may_take r a b t.0 t.1.0 t.1.1.0;
      back = fifteen.0;
      unsplit = seventeen.0;
      is_free = not-false _ seventeen.1.0;
    }

pub merge_accepts : (r : Room) (free : Bool) (a b : ℕ) → MayMerge r free a b → first_refusal (merge_tests r free a b) ≡ 0
unfolding first_refusal
merge_accepts r free a b may =
    let take = may.take in
    rw (take.receiver, take.giver, take.through, take.ahead, may.back, may.unsplit, may.is_free)

pub merge_accepted : (r : Room) (a b : Console) → step_refusal r (Merge a b) ≡ 0 → MayMerge r (version_free r) a.0 b.0
unfolding step_refusal state_tests
merge_accepted r a b h = merge_passes r (version_free r) a.0 b.0 h

-- another console whose head descends from that of c: what a leave of c asks for
pub record Descends (r : Room) (c d : ℕ) : Type 0 where
  pub here : present r d ≡ true
  pub other : d ≡ c → ⊥
  pub descends : behind r c d ≡ true

pub some_descends : (r : Room) (c : ℕ) → some_other_descends r c ≡ true → (d : ℕ) × Descends r c d
some_descends r c h =
    let found = some_at console_count (other_descends r c) h in
    let d = found.0 in
    let two = and_l (present r d && not (eqb d c)) _ found.2 in (
      d,
      record {
        here = and_l (present r d) _ two;
        other = eqb-false _ _ (not_e _ (and_r (present r d) _ two));
        descends = and_r (present r d && not (eqb d c)) _ found.2;
      },
    )

pub leave_accepted : (r : Room) (c : Console) → step_refusal r (Leave c) ≡ 0 → (present r c.0 ≡ true) × (some_other_descends r c.0 ≡ true)
unfolding step_refusal state_tests
leave_accepted r c h =
    let t = none_applies _ refl h in
    (not-false _ t.0, not-false _ t.1.0)

pub leave_accepts : (r : Room) (c : Console) → present r c.0 ≡ true → some_other_descends r c.0 ≡ true → step_refusal r (Leave c) ≡ 0
unfolding step_refusal state_tests first_refusal
leave_accepts r c here other = rw (here, other)

-- the making of the hub
pub hub_accepted : (r : Room) → step_refusal r MakeHub ≡ 0 → can_make_hub r ≡ true
unfolding step_refusal state_tests
hub_accepted r h = not-false _ (none_applies _ refl h).0

pub hub_accepts : (r : Room) → can_make_hub r ≡ true → step_refusal r MakeHub ≡ 0
unfolding step_refusal state_tests first_refusal
hub_accepts r h = rw h
