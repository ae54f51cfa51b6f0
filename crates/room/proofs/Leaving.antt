-- When a console leaves, the merges and fast-forwards of the others are refused and counted as they were: where it split two of them, another
-- does.
-- Assumes nothing.
use Prim.Native.Nat.{ℕ, ◌<◌}
use mathlib.Core.Path.{◌≡◌, sym, ◌∙◌, ap₂}
use mathlib.Core.Bool.{Bool, true, false, not, ◌||◌}
use mathlib.Core.Option.{none}
use mathlib.Core.Logic.{inl, inr}
use native.Mathlib.Decide.{ℕ_discrete}
use borrow.Author.Tests.{not-false}
use Rattle.laws.proofs.Logic.{clash, decide, refuted, and_l, and_r, and_i, not_e, not_i, or_none_l, or_none_r, bool_ext}
use Rattle.graph.specs.declared.Console.{Console}
use Rattle.graph.specs.Graph.{Graph, ancestor, base_of}
use Rattle.graph.proofs.Below.{some_at, some_of}
use Rattle.graph.proofs.Ancestor.{ancestor_trans}
use Rattle.graph.proofs.Meet.{Meet}
use Rattle.refusal.specs.Refusal.{first_refusal}
use Rattle.command.specs.declared.Command.TheVariants.{Merge, FastForward}
use Rattle.command.specs.Code.{console_count}
use Rattle.room.specs.Room.{Room, head_of, present, head, common}
use Rattle.room.specs.Boards.{merge_of, board_of}
use Rattle.room.specs.Step.{absent, behind, splits, some_third_splits, some_other_descends, state_tests, step_refusal, moved, clash_count}
use Rattle.room.proofs.Accepted.{some_descends}
use Rattle.room.proofs.Sound.{Sound, present_console}
use Rattle.room.proofs.Moves.{number, slot_other, left_absent}
use Rattle.room.proofs.Steps.{common_meet, split_parts, third_splits}

-- where the meets of a version with two others are in order, those of a version behind it are
meets_ordered : {g : Graph} {u v x y k l m n : ℕ} → ancestor g u v ≡ true → Meet g u x k → Meet g u y l → Meet g v x m → Meet g v y n
    → ancestor g m n ≡ true → ancestor g k l ≡ true
meets_ordered {g} {u} {v} {x} {y} {k} {l} {m} {n} b ux uy vx vy order =
    let early : ancestor g k m ≡ true = vx.lowest k (ancestor_trans g k u v ux.first b) ux.second in
    uy.lowest k ux.first (ancestor_trans g k n y (ancestor_trans g k m n early order) vy.second)

module _ (r : Room) (s : Sound r) where
  pub met : (c d : ℕ) → present r c ≡ true → present r d ≡ true → Meet r.versions (head r c) (head r d) (common r c d)
  met c d p q = let m = s.meets c d p q in rw (common_meet r c d m.1) m.1

  -- the common version of consoles k and a is behind that of k and b
  abbrev ordered : ℕ → ℕ → ℕ → Bool
  ordered k a b = ancestor r.versions (common r k a) (common r k b)

  -- console d, which c is behind, splits every two that c splits
  module _ (c d : ℕ) (pd : present r d ≡ true) (before : behind r c d ≡ true) where
    -- what d has in common with another is behind what it has in common with itself
    own_last : (k : ℕ) → present r k ≡ true → ordered d k d ≡ true
    own_last k p = let own = (met d k pd p).first in (met d d pd pd).lowest (common r d k) own own

    -- two in no order for c are in none for d
    unordered : present r c ≡ true → (a b : ℕ) → present r a ≡ true → present r b ≡ true → ordered c a b ≡ false → ordered d a b ≡ false
    unordered pc a b pa pb f =
        refuted _ (λ t. clash (meets_ordered before (met c a pc pa) (met c b pc pb) (met d a pd pa) (met d b pd pb) t) f)

    descendant_splits : (a b : ℕ) → present r a ≡ true → present r b ≡ true → splits r a b c ≡ true → splits r a b d ≡ true
    descendant_splits a b pa pb h =
        let parts = split_parts r a b c h in
        let far = sym (third_splits r a b c parts.na parts.nb parts.pd) ∙ h in
        let ab = unordered parts.pd a b pa pb (not_e _ (and_l _ _ far)) in
        let ba = unordered parts.pd b a pb pa (not_e _ (and_r (not (ordered c a b)) _ far)) in
        third_splits r a b d (λ e. clash (own_last b pb) (rw (← e) at ba)) (λ e. clash (own_last a pa) (rw (← e) at ab)) pd
        ∙ and_i _ _ (not_i _ ab) (not_i _ ba)

  -- console c gone home, and two others
  module _ (c : ℕ) (l : c < console_count) (may : some_other_descends r c ≡ true) where
    slot : (k : ℕ) → (k ≡ c → ⊥) → head_of (moved r c none) k ≡ head_of r k
    slot k ne = (slot_other r c none k ne).slot

    module _ (a b : ℕ) (ac : a ≡ c → ⊥) (bc : b ≡ c → ⊥) (pa : present r a ≡ true) (pb : present r b ≡ true) where
      splits_same : (k : ℕ) → (k ≡ c → ⊥) → splits (moved r c none) a b k ≡ splits r a b k
      unfolding common
      splits_same k kc = rw (slot k kc, slot a ac, slot b bc)

      splits_before : some_third_splits (moved r c none) a b ≡ true → some_third_splits r a b ≡ true
      splits_before h =
          let k = some_at console_count (splits (moved r c none) a b) h in
          let kc : k.0 ≡ c → ⊥ = λ e. clash (rw e at (split_parts (moved r c none) a b k.0 k.2).pd) (left_absent r s c l) in
          some_of console_count (splits r a b) k.0 k.1 (sym (splits_same k.0 kc) ∙ k.2)

      splits_after : some_third_splits r a b ≡ true → some_third_splits (moved r c none) a b ≡ true
      splits_after h =
          let k = some_at console_count (splits r a b) h in
          let d = some_descends r c may in
          let still : (j : ℕ) → present r j ≡ true → (j ≡ c → ⊥) → splits r a b j ≡ true → some_third_splits (moved r c none) a b ≡ true =
          λ j p jc t. some_of console_count (splits (moved r c none) a b) j (present_console r j s.sixteen p) (splits_same j jc ∙ t) in
          elim (ℕ_discrete k.0 c) [
            | yes e ↦ still d.0 d.1.here d.1.other (descendant_splits c d.0 d.1.here d.1.descends a b pa pb (rw e at k.2))
            | no kc ↦ still k.0 (split_parts r a b k.0 k.2).pd kc k.2
          ]

      pub left_splits : some_third_splits (moved r c none) a b ≡ some_third_splits r a b
      left_splits = bool_ext _ _ splits_before splits_after

    module _ (a b : Console) (ac : a.0 ≡ c → ⊥) (bc : b.0 ≡ c → ⊥) where
      pub left_merge : step_refusal (moved r c none) (Merge a b) ≡ step_refusal r (Merge a b)
      unfolding step_refusal state_tests first_refusal
      left_merge =
          elim (decide (absent r a.0 || absent r b.0)) [
            | inl t ↦ rw (slot a.0 ac, slot b.0 bc, t)
            | inr f ↦
                let pa = not-false _ (or_none_l _ _ f) in
                let pb = not-false _ (or_none_r (absent r a.0) _ f) in
                rw (left_splits a.0 b.0 ac bc pa pb, slot a.0 ac, slot b.0 bc)
          ]

      pub left_clashes : clash_count (moved r c none) (Merge a b) ≡ clash_count r (Merge a b)
      unfolding clash_count
      left_clashes =
          ap₂ (λ (p q : ℕ). (merge_of (board_of r.versions) (base_of r.versions) p q).clashes)
          (number (slot_other r c none a.0 ac)) (number (slot_other r c none b.0 bc))

      pub left_forward : step_refusal (moved r c none) (FastForward a b) ≡ step_refusal r (FastForward a b)
      unfolding step_refusal state_tests
      left_forward = rw (slot a.0 ac, slot b.0 bc)
