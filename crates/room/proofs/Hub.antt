-- In a room whose hub is console 0: the hub merges and fast-forwards with any console, so that no merge is refused with 17, and the room is never
-- stuck; and it stays the hub.
-- Assumes nothing.
use Prim.Native.Nat.{ℕ, ◌≤◌}
use mathlib.Core.Path.{◌≡◌, refl, sym, ◌∙◌, ap}
use mathlib.Core.Logic.{inl, inr}
use mathlib.Core.Bool.{Bool, true, false, not, and_comm}
use mathlib.Core.List.{[], ◌∷◌}
use native.Mathlib.Omega.{arith}
use native.Mathlib.Decide.{ℕ_discrete}
use borrow.Author.Tests.{eq-eqb, not-false}
use Rattle.laws.proofs.Logic.{clash, decide, refuted, and_l, and_r, and_none, not_e, or_none_l, or_none_r}
use Rattle.graph.specs.Graph.{ancestor}
use Rattle.graph.proofs.Below.{some_at}
use Rattle.graph.proofs.Ancestor.{ancestor_le}
use Rattle.refusal.specs.Refusal.{◌when◌, first_refusal}
use Rattle.refusal.proofs.Refusals.{not_given}
use Rattle.command.specs.declared.Command.{Command}
use Rattle.command.specs.declared.Command.TheVariants.{Fork, Entry, Merge, FastForward, Leave, MakeHub}
use Rattle.command.specs.Code.{console_count}
use Rattle.room.specs.Room.{Room, present, head, common}
use Rattle.room.specs.Sound.{can_make_hub, sound_room}
use Rattle.room.specs.Step.{absent, behind, beside_hub, splits, some_third_splits, merge_tests, fast_forward_tests, state_tests, step_refusal, hub_made, step}
use Rattle.room.specs.Mergeable.{stuck, number_of, pair_number, first_pair, heads_agree, mergeable}
use Rattle.room.proofs.Sound.{Sound, behind_can, sound_facts}
use Rattle.room.proofs.Accepted.{Through, through_hub, MayTake, forward_accepts, merge_accepts}
use Rattle.room.proofs.Steps.{split_parts, third_splits}
use Rattle.room.proofs.Leaving.{met}
use Rattle.room.proofs.Mergeable.{merge_number, forward_number, numbered_by, none_paired, pair_found, pair_answered, none_answered, other_head}

module _ (r : Room) (s : Sound r) (hub : r.settings.hub ≡ true) where
  -- what a console has in common with another is behind what it has in common with the hub
  common_behind : (k d h : ℕ) → h ≡ 0 → (k ≡ d → ⊥) → present r k ≡ true → present r d ≡ true → ancestor r.versions (common r k d) (common r k h) ≡ true
  common_behind k d h is_hub two pk pd =
      let m = met r s k d pk pd in
      rw is_hub ((met r s k 0 pk s.first).lowest (common r k d) m.first (s.hub hub k d (common r k d) two pk pd m.first m.second))

  -- so that no third console splits the hub and another
  pub hub_unsplit : (a b : ℕ) → Through r a b → present r a ≡ true → present r b ≡ true → some_third_splits r a b ≡ false
  hub_unsplit a b through pa pb =
      refuted _ (λ t.
      let found = some_at console_count (splits r a b) t in
      let k = found.0 in
      let parts = split_parts r a b k found.2 in
      let far = sym (third_splits r a b k parts.na parts.nb parts.pd) ∙ found.2 in
      elim (through_hub r a b hub through) [
        | inl a0 ↦
            clash (common_behind k b a a0 parts.nb parts.pd pb)
            (not_e _ (and_r (not (ancestor r.versions (common r k a) (common r k b))) _ far))
        | inr b0 ↦ clash (common_behind k a b b0 parts.na parts.pd pa) (not_e _ (and_l _ _ far))
      ])

-- where a merge is refused with 17, it is not refused with 12 or 22
seventeen_given : (twelve twenty-two fourteen fifteen seventeen eighteen : Bool)
    → first_refusal (12 when twelve ∷ 22 when twenty-two ∷ 14 when fourteen ∷ 15 when fifteen ∷ 17 when seventeen ∷ 18 when eighteen ∷ []) ≡ 17
    → (twelve ≡ false) × (twenty-two ≡ false) × (seventeen ≡ true)
unfolding first_refusal
seventeen_given true twenty-two fourteen fifteen seventeen eighteen h = absurd (omega arith)
seventeen_given false true fourteen fifteen seventeen eighteen h = absurd (omega arith)
seventeen_given false false true fifteen seventeen eighteen h = absurd (omega arith)
seventeen_given false false false true seventeen eighteen h = absurd (omega arith)
seventeen_given false false false false true eighteen h = (refl, refl, refl)
seventeen_given false false false false false eighteen h = absurd (not_given 17 (18 when eighteen ∷ []) refl h)

pub never_17 : (r : Room) (c : Command) → sound_room r ≡ true → r.settings.hub ≡ true → step_refusal r c ≡ 17 → ⊥
unfolding step_refusal state_tests
never_17 r (Fork new old) s hub h = not_given 17 _ refl h
never_17 r (Entry console code strip operand) s hub h = not_given 17 _ refl h
never_17 r (Merge a b) s hub h =
    let t = seventeen_given _ _ _ _ _ _ h in
    clash t.2
    (hub_unsplit r (sound_facts r s) hub a.0 b.0 t.1 (not-false _ (or_none_l _ _ t.0)) (not-false _ (or_none_r (absent r a.0) _ t.0)))
never_17 r (FastForward a b) s hub h = not_given 17 _ refl h
never_17 r (Leave console) s hub h = not_given 17 _ refl h
never_17 r MakeHub s hub h = not_given 17 _ refl h

-- "for good"
pub hub_kept : (r : Room) (c : Command) → r.settings.hub ≡ true → (step r c).settings.hub ≡ true
unfolding step
hub_kept r (Fork new old) hub = hub
hub_kept r (Entry console code strip operand) hub = hub
hub_kept r (Merge a b) hub = hub
hub_kept r (FastForward a b) hub = hub
hub_kept r (Leave console) hub = hub
hub_kept r MakeHub hub = refl

-- "again, it changes nothing"
pub hub_again : (r : Room) → r.settings.hub ≡ true → hub_made r ≡ r
hub_again r hub = λ i. record { settings = record { capacity = r.settings.capacity; hub = sym hub i }; versions = r.versions; heads = r.heads }

-- and is not refused
pub hub_can : (r : Room) → sound_room r ≡ true → r.settings.hub ≡ true → can_make_hub r ≡ true
hub_can r h hub = let s = sound_facts r h in behind_can r s.sixteen s.meets (s.hub hub)

-- two heads behind each other are one
pub same_head : (r : Room) (c d : ℕ) → behind r c d ≡ true → behind r d c ≡ true → head r c ≡ head r d
same_head r c d there back = omega (arith, ancestor_le r.versions _ _ there, ancestor_le r.versions _ _ back)

-- what console 0 may take from a present console c, and c from it: a fast-forward where the one is behind the other, else a merge
module _ (r : Room) (s : Sound r) (c : ℕ) (p : present r c ≡ true) where
  with_hub_lem : Through r 0 c
  with_hub_lem = and_none (beside_hub r 0) _ (refuted _ (λ t. clash (and_r r.settings.hub _ t) refl))

  takes : behind r c 0 ≡ false → MayTake r 0 c
  takes ahead = record { receiver = s.first; giver = p; through = with_hub_lem; ahead = ahead }

  gives : behind r 0 c ≡ false → MayTake r c 0
  gives ahead = record { receiver = p; giver = s.first; through = and_comm (beside_hub r c) (beside_hub r 0) ∙ with_hub_lem; ahead = ahead }

  pub hub_forwards : behind r c 0 ≡ false → behind r 0 c ≡ true → first_refusal (fast_forward_tests r 0 c) ≡ 0
  hub_forwards ahead back = forward_accepts r 0 c (takes ahead) back

  pub hub_forwarded : behind r 0 c ≡ false → behind r c 0 ≡ true → first_refusal (fast_forward_tests r c 0) ≡ 0
  hub_forwarded ahead back = forward_accepts r c 0 (gives ahead) back

  pub hub_merges : r.settings.hub ≡ true → {free : Bool} → free ≡ true → behind r c 0 ≡ false → behind r 0 c ≡ false
      → first_refusal (merge_tests r free 0 c) ≡ 0
  hub_merges hub is_free ahead back =
      merge_accepts r _ 0 c (record { take = takes ahead; back = back; unsplit = hub_unsplit r s hub 0 c with_hub_lem s.first p; is_free = is_free })

-- a pair's number is higher than that of a room that is stuck
pair_high : (r : Room) (c d : ℕ) → (pair_number r c d ≡ 0 → ⊥) → 512 ≤ pair_number r c d
pair_high r c d given =
    let by = numbered_by r c d given in
    elim by.1 [ inl m ↦ omega (arith, merge_number r c d by.0 m) | inr f ↦ omega (arith, forward_number r c d by.0 f) ]

-- a console that is not on the hub's head makes a pair with the hub
hub_pairs : (r : Room) → Sound r → r.settings.hub ≡ true → (c : ℕ) → present r c ≡ true → (head r c ≡ head r 0 → ⊥)
    → pair_number r c 0 ≡ 0 → pair_number r 0 c ≡ 0 → ⊥
unfolding state_tests
hub_pairs r s hub c p other there back =
    let two : c ≡ 0 → ⊥ = λ e. other (ap (head r) e) in
    let two' : 0 ≡ c → ⊥ = λ e. two (sym e) in
    elim (decide (behind r c 0)) [
      | inl b ↦
          let ahead = refuted (behind r 0 c) (λ t. other (same_head r c 0 b t)) in
          omega (arith, forward_number r c 0 two (eq-eqb _ 0 (hub_forwarded r s c p ahead b)))
      | inr ahead ↦
          elim (decide (behind r 0 c)) [
            | inl b ↦ omega (arith, forward_number r 0 c two' (eq-eqb _ 0 (hub_forwards r s c p ahead b)))
            | inr b ↦ omega (arith, merge_number r 0 c two' (eq-eqb _ 0 (hub_merges r s c p hub refl ahead b)))
          ]
    ]

pub never_stuck_lem : (r : Room) → sound_room r ≡ true → r.settings.hub ≡ true → mergeable r ≡ number_of stuck → ⊥
never_stuck_lem r h hub is_stuck =
    elim (ℕ_discrete (first_pair r) 0) [
      | no given ↦
          let pair = pair_found r given in
          omega
          (arith, pair_answered r given, pair.numbered, pair_high r pair.receiver pair.giver (λ z. given (pair.numbered ∙ z)))
      | yes none ↦
          elim (decide (heads_agree r)) [
            | inl agree ↦ omega (arith, none_answered r none agree)
            | inr differ ↦
                let c = other_head r differ in
                hub_pairs r (sound_facts r h) hub c.0 c.2 c.3 (none_paired r none c.0 0 c.1 (omega arith)) (none_paired r none 0 c.0 (omega arith) c.1)
          ]
    ]
