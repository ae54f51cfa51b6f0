-- Opening gives a sound room, each accepted command takes a sound room to a sound room, and refusal 17 is given exactly where the merge
-- would leave two consoles without a single lowest common ancestor.
-- Assumes nothing.
use Prim.Native.Nat.{ℕ, ◌<◌}
use mathlib.Core.Path.{◌≡◌, refl, sym, ◌∙◌, ap, ap₂, subst, subst₂}
use mathlib.Core.Bool.{true, false, not, ◌&&◌}
use mathlib.Core.List.{◌∷◌}
use mathlib.Core.Logic.{inl, inr}
use native.Mathlib.Decide.{ℕ_discrete}
use borrow.Author.Tests.{ltb-true, lt-ltb, le-leb, ne_eqb, eqb-false, not-false}
use lib.Dec.{eqb}
use Rattle.graph.specs.declared.Strip.{Strip}
use Rattle.laws.proofs.Logic.{clash, decide, refuted, and_l, and_r, and_i, and_rest, not_e, not_i, implies_i}
use Rattle.graph.specs.declared.Node.{Node}
use Rattle.graph.specs.Graph.{entry, merge, version_count, ancestor, meet, is_some, is_meet, every_version, parents_lower, merge_has_base}
use Rattle.graph.specs.Below.{every_below, some_below, highest_below}
use Rattle.graph.proofs.Below.{at, of, some_at, some_of}
use Rattle.graph.proofs.Parent.{Parent, sole, receiver, giver}
use Rattle.graph.proofs.Ancestor.{ancestor_above, ancestor_self}
use Rattle.graph.proofs.Meet.{Meet, meet_found, meet_number_lem, meet_self, meet_sym, meet_behind}
use Rattle.graph.specs.declared.Console.{Console}
use Rattle.command.specs.declared.Command.{Command}
use Rattle.command.specs.declared.Command.TheVariants.{Fork, Entry, Merge, FastForward, Leave, MakeHub}
use Rattle.command.specs.Code.{console_count}
use Rattle.command.specs.Decoding.{InRange}
use Rattle.room.specs.declared.Settings.{Settings}
use Rattle.room.specs.Room.{Room, present, head, common, fresh_room}
use Rattle.room.specs.Sound.{settings_in_range, entry_in_range, heads_meet, all_behind_heads, can_make_hub, sound_room}
use Rattle.room.specs.Step.{behind, apart, splits, some_third_splits, step_refusal, grown, step}
use Rattle.room.proofs.Accepted.{Through, through_hub, fork_accepted, forward_accepted, entry_accepted, merge_accepted, leave_accepted, hub_accepted}
use Rattle.room.proofs.Sound.{Sound, capacity_range, present_console, present_head, two_met, met_two, can_behind, sound_facts, facts_sound}
use Rattle.room.proofs.Moves.{there, number, new_head, new_number, kept, moved_sound, left_sound, grown_sound, grown_meets}
use Rattle.room.proofs.NewMeets.{entry_meet, merge_meet_receiver, merge_meet_giver, merge_meet_ordered}

pub head_named : (r : Room) → Sound r → (c : ℕ) → present r c ≡ true → head r c < version_count r.versions
head_named r s c p = s.named c (head r c) (present_head r c p)

fork_sound : (r : Room) → Sound r → (new old : Console) → InRange (Fork new old) → step_refusal r (Fork new old) ≡ 0 → Sound (step r (Fork new old))
unfolding step
fork_sound r s new old range h =
    moved_sound r s new.0 old.0 range.0 (fork_accepted r new old h)

forward_sound : (r : Room) → Sound r → (a b : Console) → InRange (FastForward a b) → step_refusal r (FastForward a b) ≡ 0 → Sound (step r (FastForward a b))
unfolding step
forward_sound r s a b range h =
    moved_sound r s a.0 b.0 range.0 (forward_accepted r a b h)

leave_sound : (r : Room) → Sound r → (c : Console) → InRange (Leave c) → step_refusal r (Leave c) ≡ 0 → Sound (step r (Leave c))
unfolding step
leave_sound r s c range h = left_sound r s c.0 range.0 range.1 (leave_accepted r c h).1

-- console 0 made the hub
hub_sound : (r : Room) → Sound r → step_refusal r MakeHub ≡ 0 → Sound (step r MakeHub)
unfolding step
hub_sound r s h = record {
  lower = s.lower;
  based = s.based;
  sixteen = s.sixteen;
  named = s.named;
  meets = s.meets;
  first = s.first;
  behind = s.behind;
  settings = s.settings;
  fits = s.fits;
  ranged = s.ranged;
  hub = λ _. can_behind r s.sixteen s.meets (hub_accepted r h);
}

-- what console c has heard by the entry's parent, and another too, was behind the hub
entry_shared : (r : Room) → Sound r → (c code k x : ℕ) → present r c ≡ true → r.settings.hub ≡ true → (p j w : ℕ) → Parent (entry (head r c) code k x) p
    → (j ≡ c → ⊥) → present r j ≡ true → ancestor r.versions w p ≡ true → ancestor r.versions w (head r j) ≡ true
    → ancestor r.versions w (head r 0) ≡ true
entry_shared r s c code k x pc t p j w sole ne q a b = s.hub t c j w (λ e. ne (sym e)) pc q a b

-- an entry on the head of a present console, where a version is free
pub entry_grown : (r : Room) → Sound r → (c code k x : ℕ) → present r c ≡ true → entry_in_range r.versions (entry (head r c) code k x) ≡ true
    → version_count r.versions < r.settings.capacity → Sound (grown r c (entry (head r c) code k x))
entry_grown r s c code k x p range free =
    grown_sound r s c p (entry (head r c) code k x) (lt-ltb _ _ (head_named r s c p)) refl range sole
    (λ d q ne. let m = s.meets c d p q in (m.0, entry_meet code k x (head_named r s d q) m.1))
    (λ t not-0. entry_shared r s c code k x p t)
    free

entry_sound : (r : Room) → Sound r → (c : Console) (code : ℕ) (k : Strip) (x : ℕ) → InRange (Entry c code k x) → step_refusal r (Entry c code k x) ≡ 0
    → Sound (step r (Entry c code k x))
unfolding step
entry_sound r s c code k x range h =
    let may = entry_accepted r c code k x h in
    entry_grown r s c.0 code k.0 x may.0 range.1 may.1

-- the meet of two present consoles is their common version
pub common_meet : (r : Room) (c d : ℕ) {m : ℕ} → Meet r.versions (head r c) (head r d) m → common r c d ≡ m
unfolding common
common_meet r c d b = meet_number_lem b

pub common_self : (r : Room) → Sound r → (c : ℕ) → present r c ≡ true → common r c c ≡ head r c
common_self r s c p = common_meet r c c (meet_self r.versions (head r c) (head_named r s c p))

-- what it says that console d splits two others
module _ (r : Room) (a b d : ℕ) where
  pub record Parts : Type 0 where
    pub pd : present r d ≡ true
    pub na : d ≡ a → ⊥
    pub nb : d ≡ b → ⊥

  pub split_parts : splits r a b d ≡ true → Parts
  split_parts h =
      let three = and_l (present r d && not (eqb d a) && not (eqb d b)) _ h in
      let two = and_l (present r d && not (eqb d a)) _ three in
      record {
        pd = and_l (present r d) _ two;
        na = eqb-false _ _ (not_e _ (and_r (present r d) _ two));
        nb = eqb-false _ _ (not_e _ (and_r (present r d && not (eqb d a)) _ three));
      }

  pub third_splits : (d ≡ a → ⊥) → (d ≡ b → ⊥) → present r d ≡ true → splits r a b d ≡ apart r (common r d a) (common r d b)
  third_splits na nb pd =
      let one : present r d && not (eqb d a) && not (eqb d b) ≡ true =
      and_i _ _ (and_i _ _ pd (not_i _ (ne_eqb d a na))) (not_i _ (ne_eqb d b nb)) in
      rw one

-- a merge of two present consoles
module _ (r : Room) (s : Sound r) (a b : ℕ) (pa : present r a ≡ true) (pb : present r b ≡ true) where
  merge_lower : parents_lower r.versions (merge (head r a) (head r b)) ≡ true
  merge_lower = and_i _ _ (lt-ltb _ _ (head_named r s a pa)) (lt-ltb _ _ (head_named r s b pb))

  -- where neither head is behind the other, their meet is neither
  merge_based : behind r b a ≡ false → behind r a b ≡ false → merge_has_base r.versions (merge (head r a) (head r b)) ≡ true
  merge_based ahead back =
      let l = s.meets a b pa pb in
      rw (meet_found l.1)
      (and_i _ _
      (not_i _ (ne_eqb l.0 (head r a) (λ e. clash (rw e at l.1.second) back)))
      (not_i _ (ne_eqb l.0 (head r b) (λ e. clash (rw e at l.1.first) ahead))))

  -- a third console splits the two where neither of its commons with them is behind the other
  module _ (d : ℕ) (pd : present r d ≡ true) (na : d ≡ a → ⊥) (nb : d ≡ b → ⊥) where
    commons_apart_lem : splits r a b d ≡ apart r (s.meets a d pa pd).0 (s.meets b d pb pd).0
    commons_apart_lem =
        let k : common r d a ≡ (s.meets a d pa pd).0 = common_meet r d a (meet_sym (s.meets a d pa pd).1) in
        let m : common r d b ≡ (s.meets b d pb pd).0 = common_meet r d b (meet_sym (s.meets b d pb pd).1) in
        third_splits r a b d na nb pd ∙ ap₂ (apart r) k m

    third_meets : splits r a b d ≡ false → (m : ℕ) × Meet (merge (head r a) (head r b) ∷ r.versions) (version_count r.versions) (head r d) m
    third_meets h =
        let k = s.meets a d pa pd in
        let m = s.meets b d pb pd in
        let l : head r d < version_count r.versions = head_named r s d pd in
        elim (decide (ancestor r.versions k.0 m.0)) [
          | inl t ↦ (m.0, merge_meet_giver l k.1 m.1 t)
          | inr f ↦ (k.0, merge_meet_receiver l k.1 m.1 (not-false _ (and_rest _ _ (not_i _ f) (sym commons_apart_lem ∙ h))))
        ]

    third_ordered : {z : ℕ} → Meet (merge (head r a) (head r b) ∷ r.versions) (version_count r.versions) (head r d) z → splits r a b d ≡ false
    third_ordered w =
        let k = s.meets a d pa pd in
        let m = s.meets b d pb pd in
        commons_apart_lem
        ∙ elim (merge_meet_ordered (head_named r s d pd) k.1 m.1 w)
        [ inl t ↦ refuted _ (λ u. clash t (not_e _ (and_l _ _ u))) | inr t ↦ refuted _ (λ u. clash t (not_e _ (and_r (not (ancestor r.versions k.0 m.0)) _ u))) ]

  -- the giver's head is the meet of the new version and itself
  giver_meets : Meet (merge (head r a) (head r b) ∷ r.versions) (version_count r.versions) (head r b) (head r b)
  giver_meets =
      meet_sym
      (meet_behind _ (head r b) (version_count r.versions)
      (ancestor_above r.versions (head r b) giver (ancestor_self r.versions (head r b) (head_named r s b pb))))

  pub meeting : some_third_splits r a b ≡ false → (d : ℕ) → present r d ≡ true → (d ≡ a → ⊥)
      → (m : ℕ) × Meet (merge (head r a) (head r b) ∷ r.versions) (version_count r.versions) (head r d) m
  meeting h d pd na =
      elim (ℕ_discrete d b) [
        | yes e ↦ (head r b, subst (λ (k : ℕ). Meet (merge (head r a) (head r b) ∷ r.versions) (version_count r.versions) (head r k) (head r b)) (sym e) giver_meets)
        | no nb ↦
            third_meets d pd na nb
            (refuted _ (λ t. clash (some_of console_count (splits r a b) d (present_console r d s.sixteen pd) t) h))
      ]

  -- what the receiver has heard by the merge, and another too, was behind the hub, which is the giver
  merge_shared : Through r a b → r.settings.hub ≡ true → (a ≡ 0 → ⊥) → (p j w : ℕ) → Parent (merge (head r a) (head r b)) p → (j ≡ a → ⊥) → present r j ≡ true
      → ancestor r.versions w p ≡ true → ancestor r.versions w (head r j) ≡ true → ancestor r.versions w (head r 0) ≡ true
  merge_shared through t na p j w receiver ne q x y = s.hub t a j w (λ e. ne (sym e)) pa q x y
  merge_shared through t na p j w giver ne q x y =
      elim (through_hub r a b t through) [ inl a0 ↦ absurd (na a0) | inr b0 ↦ ap (λ (k : ℕ). ancestor r.versions w (head r k)) (sym b0) ∙ x ]

  pub merge_grown : Through r a b → behind r b a ≡ false → behind r a b ≡ false → some_third_splits r a b ≡ false
      → version_count r.versions < r.settings.capacity → Sound (grown r a (merge (head r a) (head r b)))
  merge_grown through ahead back h free =
      grown_sound r s a pa (merge (head r a) (head r b)) merge_lower (merge_based ahead back) refl receiver (meeting h) (merge_shared through) free

  -- no third console splits the two exactly when every two consoles have a meet after the merge
  split_none : some_third_splits r a b ≡ false → heads_meet (grown r a (merge (head r a) (head r b))) ≡ true
  unfolding heads_meet
  split_none h =
      let n : Node = merge (head r a) (head r b) in
      of console_count _ (λ c l. of console_count _ (λ d m. met_two (grown r a n) c d (grown_meets r s a pa n (meeting h) c d)))

  split_some : heads_meet (grown r a (merge (head r a) (head r b))) ≡ true → some_third_splits r a b ≡ false
  unfolding heads_meet
  split_some h =
      let n : Node = merge (head r a) (head r b) in
      let after : Room = grown r a n in
      let pa' : present after a ≡ true = ap is_some (new_head r s a pa n) in
      refuted _
      (λ t.
      let d = some_at console_count (splits r a b) t in
      let parts = split_parts r a b d.0 d.2 in
      let f = kept r a n d.0 parts.na in
      let z =
      two_met after a d.0 (at console_count _ (at console_count _ h a (present_console r a s.sixteen pa)) d.0 d.1) pa' (there f parts.pd) in
      clash d.2
      (third_ordered d.0 parts.pd parts.na parts.nb
      (subst₂ (λ (u v : ℕ). Meet (n ∷ r.versions) u v z.0) (new_number r s a pa n) (number f) z.1)))

-- refusal 17 is given exactly where the merge would leave two consoles without a single lowest common ancestor
pub seventeen_exact : (r : Room) → sound_room r ≡ true → (a b : Console) → present r a.0 ≡ true → present r b.0 ≡ true
    → some_third_splits r a.0 b.0 ≡ not (heads_meet (step r (Merge a b)))
unfolding step
seventeen_exact r h a b pa pb =
    let s = sound_facts r h in
    let after : Room = grown r a.0 (merge (head r a.0) (head r b.0)) in
    elim (decide (heads_meet after)) [
      | inl t ↦ split_some r s a.0 b.0 pa pb t ∙ sym (ap not t)
      | inr f ↦
          elim (decide (some_third_splits r a.0 b.0))
          [ inl t ↦ t ∙ sym (ap not f) | inr g ↦ clash (split_none r s a.0 b.0 pa pb g) f ]
    ]

merge_sound : (r : Room) → Sound r → (a b : Console) → InRange (Merge a b) → step_refusal r (Merge a b) ≡ 0 → Sound (step r (Merge a b))
unfolding step
merge_sound r s a b range h =
    let may = merge_accepted r a b h in
    let take = may.take in
    merge_grown r s a.0 b.0 take.receiver take.giver take.through take.ahead may.back may.unsplit (ltb-true _ _ may.is_free)

-- each accepted command takes a sound room to a sound room
pub step_sound : (r : Room) (c : Command) → sound_room r ≡ true → InRange c → step_refusal r c ≡ 0 → sound_room (step r c) ≡ true
step_sound r (Fork new old) s range h = facts_sound _ (fork_sound r (sound_facts r s) new old range h)
step_sound r (Entry console code strip operand) s range h = facts_sound _ (entry_sound r (sound_facts r s) console code strip operand range h)
step_sound r (Merge a b) s range h = facts_sound _ (merge_sound r (sound_facts r s) a b range h)
step_sound r (FastForward a b) s range h = facts_sound _ (forward_sound r (sound_facts r s) a b range h)
step_sound r (Leave c) s range h = facts_sound _ (leave_sound r (sound_facts r s) c range h)
step_sound r MakeHub s range h = facts_sound _ (hub_sound r (sound_facts r s) h)

-- opening gives a sound room
pub fresh_sound : (settings : Settings) → settings_in_range settings ≡ true → sound_room (fresh_room settings) ≡ true
unfolding sound_room every_version heads_meet all_behind_heads can_make_hub every_below some_below ancestor meet is_meet highest_below
fresh_sound settings h =
    and_i _ _ (and_i _ _ (and_i (settings_in_range settings) _ h (le-leb 1 settings.capacity (capacity_range settings h).0)) refl)
    (implies_i settings.hub _ (λ _. refl))
