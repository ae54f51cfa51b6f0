-- The first pair of consoles that can merge or fast-forward: what its number says, and that there is none where all agree.
-- Assumes nothing.
use Prim.Native.Nat.{ℕ, ◌<◌}
use mathlib.Core.Path.{◌≡◌, refl, sym, ◌∙◌, ap}
use mathlib.Core.Logic.{◌⊎◌, inl, inr}
use mathlib.Core.Bool.{Bool, true, false, cond, not, ◌&&◌, ◌||◌, and_comm}
use mathlib.Core.List.{[], ◌∷◌}
use native.Mathlib.Omega.{arith}
use native.Mathlib.Decide.{ℕ_discrete}
use borrow.Author.Tests.{eqb-true, eq-eqb, ne_eqb, eqb-false, not-false}
use lib.Dec.{eqb}
use Rattle.laws.proofs.Logic.{clash, decide, either, refuted, implies_i, implies_e, or_none_l, or_none_r}
use Rattle.graph.specs.Graph.{ancestor}
use Rattle.graph.proofs.Below.{at, of, fails_at, some_at, some_of, first_none, none_first, first_is, first_found}
use Rattle.graph.proofs.Ancestor.{ancestor_self}
use Rattle.refusal.specs.Refusal.{◌when◌, first_refusal}
use Rattle.command.specs.Code.{console_count}
use Rattle.room.specs.Room.{Room, present, head, common}
use Rattle.room.specs.Step.{absent, behind, beside_hub, apart, splits, some_third_splits, merge_tests, state_tests}
use Rattle.room.specs.Mergeable.{all_agree, stuck, merge, fast_forward, number_of, can_merge, can_fast_forward, pair_number, first_with_receiver, first_pair, heads_agree, mergeable}
use Rattle.room.proofs.Sound.{Sound}
use Rattle.room.proofs.Accepted.{MayTake, MayMerge, forward_passes, merge_passes}
use Rattle.room.proofs.Steps.{head_named, split_parts, third_splits}

-- whatever its capacity: a full room is answered as one with versions free
pub any_capacity : (r : Room) (n : ℕ)
    → mergeable (record { settings = record { capacity = n; hub = r.settings.hub }; versions = r.versions; heads = r.heads }) ≡ mergeable r
unfolding mergeable first_pair pair_number state_tests heads_agree common
any_capacity r n = refl

-- a third console that splits two splits them either way round
apart_either_way : (r : Room) (u v : ℕ) → apart r u v ≡ apart r v u
apart_either_way r u v = and_comm (not (ancestor r.versions u v)) (not (ancestor r.versions v u))

splits_either_way : (r : Room) (c d : ℕ) → some_third_splits r c d ≡ false → some_third_splits r d c ≡ false
splits_either_way r c d h =
    refuted _ (λ t.
    let found = some_at console_count (splits r d c) t in
    let k = found.0 in
    let parts = split_parts r d c k found.2 in
    let back = third_splits r d c k parts.na parts.nb parts.pd in
    let over = third_splits r c d k parts.nb parts.na parts.pd in
    clash (some_of console_count (splits r c d) k found.1 (over ∙ apart_either_way r _ _ ∙ sym back ∙ found.2)) h)

-- a pair
module _ (r : Room) (c d : ℕ) where
  merge_asks : can_merge r c d ≡ true → MayMerge r true c d
  unfolding state_tests
  merge_asks h = merge_passes r true c d (eqb-true _ 0 h)

  forward_asks : can_fast_forward r c d ≡ true → MayTake r c d × (behind r c d ≡ true)
  unfolding state_tests
  forward_asks h = forward_passes r c d (eqb-true _ 0 h)

  -- a merge that would be accepted if versions were free is accepted, or refused with 18, whether or not a version is
  pub eighteen_last : (free : Bool) → (let n : ℕ = first_refusal (merge_tests r free c d) in eqb n 0 || eqb n 18) ≡ can_merge r c d
  unfolding state_tests first_refusal
  eighteen_last free = go (absent r c || absent r d) (beside_hub r c && beside_hub r d) (behind r d c) (behind r c d) (some_third_splits r c d) free
    where
      first : Bool → Bool → Bool → Bool → Bool → Bool → ℕ
      first twelve twenty-two fourteen fifteen seventeen eighteen =
          first_refusal (12 when twelve ∷ 22 when twenty-two ∷ 14 when fourteen ∷ 15 when fifteen ∷ 17 when seventeen ∷ 18 when eighteen ∷ [])

      go : (twelve twenty-two fourteen fifteen seventeen free : Bool)
          → (let n : ℕ = first twelve twenty-two fourteen fifteen seventeen (not free) in eqb n 0 || eqb n 18)
          ≡ eqb (first twelve twenty-two fourteen fifteen seventeen false) 0
      go true twenty-two fourteen fifteen seventeen free = refl
      go false true fourteen fifteen seventeen free = refl
      go false false true fifteen seventeen free = refl
      go false false false true seventeen free = refl
      go false false false false true free = refl
      go false false false false false true = refl
      go false false false false false false = refl

  -- at most one of the two commands would be accepted
  pub one_kind_lem : can_merge r c d ≡ true → can_fast_forward r c d ≡ false
  one_kind_lem h = refuted _ (λ t. clash (forward_asks t).1 (merge_asks h).back)

  -- its number where one of them would be, and where neither would
  module _ (two : c ≡ d → ⊥) where
    pub merge_number : can_merge r c d ≡ true → pair_number r c d ≡ number_of (merge c d)
    unfolding pair_number
    merge_number h = rw (ne_eqb c d two, h)

    pub forward_number : can_fast_forward r c d ≡ true → pair_number r c d ≡ number_of (fast_forward c d)
    unfolding pair_number
    forward_number h = let no-merge = refuted (can_merge r c d) (λ t. clash h (one_kind_lem t)) in rw (ne_eqb c d two, no-merge, h)

  pub neither_number : can_merge r c d ≡ false → can_fast_forward r c d ≡ false → pair_number r c d ≡ 0
  unfolding pair_number
  neither_number m f = either (λ x. x ≡ 0) (eqb c d) (λ _. refl) (rw (m, f))

  -- the same console twice is no pair
  pub same_number : c ≡ d → pair_number r c d ≡ 0
  unfolding pair_number
  same_number e = rw (eq-eqb c d e)

  -- two consoles can merge either way round
  merge_either_way : can_merge r c d ≡ true → can_merge r d c ≡ true
  unfolding state_tests first_refusal
  merge_either_way h =
      let may = merge_asks h in
      rw (may.take.giver, may.take.receiver, and_comm (beside_hub r d) (beside_hub r c) ∙ may.take.through, may.back, may.take.ahead, splits_either_way r c d may.unsplit)

  -- a number of ten bits
  pair_small : c < console_count → d < console_count → pair_number r c d < 1024
  unfolding pair_number
  pair_small l m =
      either (λ x. x < 1024) (eqb c d) (λ _. omega arith)
      (either (λ x. x < 1024) (can_merge r c d) (λ _. omega arith) (either (λ x. x < 1024) (can_fast_forward r c d) (λ _. omega arith) (omega arith)))

  -- a pair has a number by its merge or by its fast-forward
  pub numbered_by : (pair_number r c d ≡ 0 → ⊥) → (c ≡ d → ⊥) × ((can_merge r c d ≡ true) ⊎ (can_fast_forward r c d ≡ true))
  numbered_by given = (
    λ e. given (same_number e),
    elim (decide (can_merge r c d)) [
      | inl m ↦ inl m
      | inr m ↦ elim (decide (can_fast_forward r c d)) [ inl f ↦ inr f | inr f ↦ absurd (given (neither_number m f)) ]
    ],
  )

-- a merge that can be made can be made the other way round, and that pair has a number too
pub merge_not : (r : Room) (c d : ℕ) → (c ≡ d → ⊥) → pair_number r d c ≡ 0 → can_merge r c d ≡ false
merge_not r c d two none =
    refuted _ (λ t. let number = merge_number r d c (λ e. two (sym e)) (merge_either_way r c d t) in absurd (omega arith))

-- all pairs of a room
module _ (r : Room) where
  pub no_pair_lem : ((c d : ℕ) → c < console_count → d < console_count → pair_number r c d ≡ 0) → first_pair r ≡ 0
  unfolding first_pair
  no_pair_lem h = first_none console_count (first_with_receiver r) (λ c l. first_none console_count (pair_number r c) (λ d m. h c d l m))

  pub none_paired : first_pair r ≡ 0 → (c d : ℕ) → c < console_count → d < console_count → pair_number r c d ≡ 0
  unfolding first_pair
  none_paired h c d l m = none_first console_count (pair_number r c) (none_first console_count (first_with_receiver r) h c l) d m

  -- no pair before these two
  abbrev pub NoneBefore : ℕ → ℕ → Type 0
  NoneBefore c d = (e f : ℕ) → e < console_count → f < console_count → (e < c) ⊎ ((e ≡ c) × (f < d)) → pair_number r e f ≡ 0

  pub pair_first : (c d : ℕ) → c < console_count → d < console_count → (pair_number r c d ≡ 0 → ⊥) → NoneBefore c d → first_pair r ≡ pair_number r c d
  unfolding first_pair
  pair_first c d l m given none =
      let of-receiver = first_is console_count (pair_number r c) d m given (λ f k. none c f l (omega arith) (inr (refl, k))) in
      first_is console_count (first_with_receiver r) c l (λ z. given (sym of-receiver ∙ z))
      (λ e k. first_none console_count (pair_number r e) (λ f j. none e f (omega arith) j (inl k)))
      ∙ of-receiver

  pub record FirstFound : Type 0 where
    pub receiver : ℕ
    pub giver : ℕ
    pub receiver_console : receiver < console_count
    pub giver_console : giver < console_count
    pub numbered : first_pair r ≡ pair_number r receiver giver
    pub first : NoneBefore receiver giver

  pub pair_found : (first_pair r ≡ 0 → ⊥) → FirstFound
  unfolding first_pair
  pair_found given =
      let outer = first_found console_count (first_with_receiver r) given in
      let c = outer.0 in
      let inner = first_found console_count (pair_number r c) (λ z. given (outer.2 ∙ z)) in
      record {
        receiver = c;
        giver = inner.0;
        receiver_console = outer.1;
        giver_console = inner.1;
        numbered = outer.2 ∙ inner.2;
        first = λ e f l m before.
            elim before [
              | inl k ↦ none_first console_count (pair_number r e) (outer.3 e k) f m
              | inr k ↦ ap (λ (x : ℕ). pair_number r x f) k.0 ∙ inner.3 f k.1
            ];
      }

  -- the answer
  pub pair_answered : (first_pair r ≡ 0 → ⊥) → mergeable r ≡ first_pair r
  unfolding mergeable
  pair_answered given = rw (ne_eqb (first_pair r) 0 given)

  pub none_answered : first_pair r ≡ 0 → {agree : Bool} → heads_agree r ≡ agree → mergeable r ≡ number_of (cond agree all_agree stuck)
  unfolding mergeable
  none_answered none e = rw (none, e)

  pub mergeable_small : mergeable r < 1024
  mergeable_small =
      elim (ℕ_discrete (first_pair r) 0) [
        | yes none ↦ rw (none_answered none refl) (either (λ v. number_of v < 1024) (heads_agree r) (λ _. omega arith) (omega arith))
        | no given ↦
            let pair = pair_found given in
            omega (arith, pair_answered given, pair.numbered, pair_small r pair.receiver pair.giver pair.receiver_console pair.giver_console)
      ]

  -- every head is console 0's
  pub agree_heads : heads_agree r ≡ true → (c : ℕ) → c < console_count → present r c ≡ true → head r c ≡ head r 0
  unfolding heads_agree
  agree_heads h c l p = eqb-true _ _ (implies_e (present r c) _ (at console_count _ h c l) p)

  pub heads_agree_lem : ((c : ℕ) → c < console_count → present r c ≡ true → head r c ≡ head r 0) → heads_agree r ≡ true
  unfolding heads_agree
  heads_agree_lem h = of console_count _ (λ c l. implies_i (present r c) _ (λ p. eq-eqb _ _ (h c l p)))

  pub other_head : heads_agree r ≡ false → (c : ℕ) × (c < console_count) × (present r c ≡ true) × (head r c ≡ head r 0 → ⊥)
  unfolding heads_agree
  other_head h =
      let found = fails_at console_count _ h in
      let c = found.0 in
      (c, found.1, not-false _ (or_none_l _ _ found.2), eqb-false _ _ (or_none_r (absent r c) _ found.2))

  -- where all agree, each is behind each, and there is no pair
  module _ (s : Sound r) (agree : heads_agree r ≡ true) where
    not_ahead : (c d : ℕ) → c < console_count → d < console_count → MayTake r c d → ⊥
    not_ahead c d l m may =
        let same : head r c ≡ head r d = agree_heads agree c l may.receiver ∙ sym (agree_heads agree d m may.giver) in
        clash (ancestor_self r.versions (head r d) (head_named r s d may.giver)) (rw same at may.ahead)

    pub agree_none : first_pair r ≡ 0
    agree_none =
        no_pair_lem (λ c d l m.
        neither_number r c d
        (refuted _ (λ t. not_ahead c d l m (merge_asks r c d t).take))
        (refuted _ (λ t. not_ahead c d l m (forward_asks r c d t).0)))
