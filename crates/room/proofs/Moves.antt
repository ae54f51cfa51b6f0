-- When a console moves to another's head, when it leaves, and when it moves to a new version, a sound room stays sound.
-- Assumes nothing.
use Prim.Native.Nat.{ℕ, suc, ◌<◌}
use mathlib.Core.Path.{◌≡◌, refl, sym, ◌∙◌, ap, subst₂}
use mathlib.Core.Bool.{true, false}
use mathlib.Core.List.{◌∷◌}
use mathlib.Core.Logic.{inl, inr}
use mathlib.Core.Option.{Option, none, some, get_or}
use native.Mathlib.Omega.{arith}
use native.Mathlib.Decide.{ℕ_discrete, dec_lt}
use lib.ListN.{length, length-set}
use lib.Seq.{get_or-set_same, get_or-set_other}
use Rattle.laws.proofs.Logic.{clash, and_i}
use Rattle.graph.specs.declared.Node.{Node}
use Rattle.graph.specs.Graph.{version_count, ancestor, is_some, every_version, parents_lower, merge_has_base}
use Rattle.graph.proofs.Parent.{Parent}
use Rattle.graph.proofs.Ancestor.{ancestor_old, ancestor_same, ancestor_above, ancestor_self, ancestor_trans, ancestor_named}
use Rattle.graph.proofs.Meet.{Meet, meet_sym, meet_self, Meet-new}
use Rattle.command.specs.Code.{console_count}
use Rattle.room.specs.Room.{Room, head_of, present, head}
use Rattle.room.specs.Sound.{entry_in_range}
use Rattle.room.specs.Step.{some_other_descends, moved, grown}
use Rattle.room.proofs.NewMeets.{by_parent}
use Rattle.room.proofs.Accepted.{MayMove, through_hub, some_descends}
use Rattle.room.proofs.Sound.{BehindHub, Sound, no_head, present_console, present_head}

module _ (r : Room) (c : ℕ) (h : Option ℕ) where
  head_set : c < length r.heads → head_of (moved r c h) c ≡ h
  head_set l = get_or-set_same r.heads c h none l

  head_kept : (k : ℕ) → (k ≡ c → ⊥) → head_of (moved r c h) k ≡ head_of r k
  head_kept k ne = get_or-set_other r.heads c k h none ne

-- what follows for a console whose head is that of another console of another room
pub record Follows (r' r : Room) (k j : ℕ) : Type 0 where
  pub slot : head_of r' k ≡ head_of r j

module _ {r' r : Room} {k j : ℕ} (f : Follows r' r k j) where
  pub there : present r j ≡ true → present r' k ≡ true
  there p = ap is_some f.slot ∙ p

  pub back : present r' k ≡ true → present r j ≡ true
  back p = sym (ap is_some f.slot) ∙ p

  pub number : head r' k ≡ head r j
  number = ap (λ (o : Option ℕ). get_or o 0) f.slot

-- console c moves to the slot h: every other console follows itself
pub slot_other : (r : Room) (c : ℕ) (h : Option ℕ) (k : ℕ) → (k ≡ c → ⊥) → Follows (moved r c h) r k k
slot_other r c h k ne = record { slot = head_kept r c h k ne }

-- and it follows the number d whose slot that is; one that leaves has the slot of a number that no console has
module _ (r : Room) (s : Sound r) (c : ℕ) (l : c < console_count) (h : Option ℕ) (d : ℕ) (from : h ≡ head_of r d) where
  slot_self : Follows (moved r c h) r c d
  slot_self = record { slot = head_set r c h (omega (arith, s.sixteen)) ∙ from }

  pub source : (k : ℕ) → (j : ℕ) × Follows (moved r c h) r k j
  source k = elim (ℕ_discrete k c) [ yes e ↦ (d, record { slot = ap (head_of (moved r c h)) e ∙ slot_self.slot }) | no ne ↦ (k, slot_other r c h k ne) ]

  -- version v is behind a head of the room after
  abbrev Behind : ℕ → Type 0
  Behind v = (x : ℕ) × (present (moved r c h) x ≡ true) × (ancestor r.versions v (head (moved r c h) x) ≡ true)

  -- what a console has in common with another is behind the hub, where what c hears is
  slot_hub : ancestor r.versions (head r 0) (head (moved r c h) 0) ≡ true
      → ((w : ℕ) → present (moved r c h) c ≡ true → ancestor r.versions w (head (moved r c h) c) ≡ true → ancestor r.versions w (head (moved r c h) 0) ≡ true)
      → BehindHub r → BehindHub (moved r c h)
  slot_hub onward own hub k k' w two p p' a a' =
      elim (ℕ_discrete k c) [
        | yes e ↦ own w (rw e at p) (rw e at a)
        | no ne ↦
            elim (ℕ_discrete k' c) [
              | yes e' ↦ own w (rw e' at p') (rw e' at a')
              | no ne' ↦
                  let f = slot_other r c h k ne in
                  let f' = slot_other r c h k' ne' in
                  ancestor_trans r.versions w (head r 0) (head (moved r c h) 0)
                  (hub k k' w two (back f p) (back f' p') (rw (number f) at a) (rw (number f') at a')) onward
            ]
      ]

  -- where c's own head is, and console 0 is there, and so is what the hub must have, the room is sound
  module _ (own : present r c ≡ true → Behind (head r c)) (first : present (moved r c h) 0 ≡ true) (hub : r.settings.hub ≡ true → BehindHub (moved r c h)) where
    behind_one_lem : (v k : ℕ) → present r k ≡ true → ancestor r.versions v (head r k) ≡ true → Behind v
    behind_one_lem v k p a =
        elim (ℕ_discrete k c) [
          | yes e ↦
              let x = own (rw e at p) in
              let a' : ancestor r.versions v (head r c) ≡ true = rw e at a in
              (x.0, x.1, ancestor_trans r.versions v (head r c) (head (moved r c h) x.0) a' x.2)
          | no ne ↦ (k, there (slot_other r c h k ne) p, ap (ancestor r.versions v) (number (slot_other r c h k ne)) ∙ a)
        ]

    slot_sound : Sound (moved r c h)
    slot_sound = record {
      lower = s.lower;
      based = s.based;
      sixteen = length-set r.heads c h ∙ s.sixteen;
      named = λ k v e. s.named (source k).0 v (sym (source k).1.slot ∙ e);
      meets = λ k k' p p'.
          let m = s.meets (source k).0 (source k').0 (back (source k).1 p) (back (source k').1 p') in (
            m.0,
            subst₂ (λ (u v : ℕ). Meet r.versions u v m.0) (sym (number (source k).1)) (sym (number (source k').1)) m.1,
          );
      first = first;
      behind = λ v bound. let k = s.behind v bound in behind_one_lem v k.0 k.1 k.2;
      settings = s.settings;
      fits = s.fits;
      ranged = s.ranged;
      hub = hub;
    }

-- the hub is where it was, or further on
hub_stays : (r : Room) → Sound r → (c : ℕ) (h : Option ℕ) → (0 ≡ c → ⊥) → ancestor r.versions (head r 0) (head (moved r c h) 0) ≡ true
hub_stays r s c h ne =
    ap (ancestor r.versions (head r 0)) (number (slot_other r c h 0 ne)) ∙ ancestor_self r.versions (head r 0) (s.named 0 (head r 0) (present_head r 0 s.first))

-- console c on the head of console d, a present one
module _ (r : Room) (s : Sound r) (c d : ℕ) (l : c < console_count) where
  pub onto : Follows (moved r c (head_of r d)) r c d
  onto = slot_self r s c l (head_of r d) d refl

  -- c is the hub, which goes on to a head that it is behind, or it comes to the hub
  moved_hub : MayMove r c d → r.settings.hub ≡ true → BehindHub (moved r c (head_of r d))
  moved_hub may t =
      elim (ℕ_discrete 0 c) [
        | yes e ↦
            let b : ancestor r.versions (head r 0) (head r d) ≡ true = rw (← e) at (may.ahead (ap (present r) (sym e) ∙ s.first)) in
            slot_hub r s c l (head_of r d) d refl
            (ap (ancestor r.versions (head r 0)) (ap (head (moved r c (head_of r d))) e ∙ number onto) ∙ b)
            (λ w p a. ap (λ (k : ℕ). ancestor r.versions w (head (moved r c (head_of r d)) k)) e ∙ a)
            (s.hub t)
        | no ne ↦
            let same : head (moved r c (head_of r d)) 0 ≡ head r 0 = number (slot_other r c (head_of r d) 0 ne) in
            slot_hub r s c l (head_of r d) d refl (hub_stays r s c (head_of r d) ne)
            (elim (through_hub r c d t may.through) [
              | inl c0 ↦ absurd (ne (sym c0))
              | inr d0 ↦ λ w p a. ap (ancestor r.versions w) (same ∙ sym (ap (head r) d0) ∙ sym (number onto)) ∙ a
            ])
            (s.hub t)
      ]

  pub moved_sound : MayMove r c d → Sound (moved r c (head_of r d))
  moved_sound may =
      slot_sound r s c l (head_of r d) d refl
      (λ p. (c, there onto may.target, ap (ancestor r.versions (head r c)) (number onto) ∙ may.ahead p))
      (elim (ℕ_discrete 0 c)
      [ yes e ↦ ap (present (moved r c (head_of r d))) e ∙ there onto may.target | no ne ↦ there (slot_other r c (head_of r d) 0 ne) s.first ])
      (moved_hub may)

-- console c, which is not console 0, gone home
module _ (r : Room) (s : Sound r) (c : ℕ) (l : c < console_count) where
  pub left_absent : present (moved r c none) c ≡ false
  left_absent = ap is_some (head_set r c none (omega (arith, s.sixteen)))

  pub left_sound : 0 < c → some_other_descends r c ≡ true → Sound (moved r c none)
  left_sound not-0 h =
      let d = some_descends r c h in
      let f = slot_other r c none d.0 d.1.other in
      slot_sound r s c l none console_count (sym (no_head r console_count s.sixteen (omega arith)))
      (λ p. (d.0, there f d.1.here, ap (ancestor r.versions (head r c)) (number f) ∙ d.1.descends))
      (there (slot_other r c none 0 (omega arith)) s.first)
      (λ t.
      slot_hub r s c l none console_count (sym (no_head r console_count s.sixteen (omega arith))) (hub_stays r s c none (omega arith))
      (λ w p a. clash p left_absent) (s.hub t))

-- console c on a new version: every other console follows itself
pub kept : (r : Room) (c : ℕ) (n : Node) (k : ℕ) → (k ≡ c → ⊥) → Follows (grown r c n) r k k
kept r c n k ne = record { slot = get_or-set_other r.heads c k (some (version_count r.versions)) none ne }

module _ (r : Room) (s : Sound r) (c : ℕ) (p : present r c ≡ true) (n : Node) where
  pub new_head : head_of (grown r c n) c ≡ some (version_count r.versions)
  new_head = get_or-set_same r.heads c (some (version_count r.versions)) none (omega (arith, s.sixteen, present_console r c s.sixteen p))

  pub new_number : head (grown r c n) c ≡ version_count r.versions
  new_number = ap (λ (o : Option ℕ). get_or o 0) new_head

  at_new : (k : ℕ) → k ≡ c → head (grown r c n) k ≡ version_count r.versions
  at_new k e = ap (head (grown r c n)) e ∙ new_number

  -- every version is new or old, and so is every head
  grown_named : (k v : ℕ) → head_of (grown r c n) k ≡ some v → v < suc (version_count r.versions)
  grown_named k v e =
      elim (ℕ_discrete k c) [
        | yes same ↦ let w : version_count r.versions ≡ v = cc (new_head, ap (head_of (grown r c n)) same) in omega arith
        | no ne ↦ omega (arith, s.named k v (sym (kept r c n k ne).slot ∙ e))
      ]

  grown_first : present (grown r c n) 0 ≡ true
  grown_first =
      elim (ℕ_discrete 0 c)
      [ yes e ↦ ap (present (grown r c n)) e ∙ ap is_some new_head | no ne ↦ there (kept r c n 0 ne) s.first ]

  -- where the new version has a meet with every head, every two heads have one
  module _ (meeting : (d : ℕ) → present r d ≡ true → (d ≡ c → ⊥) → (m : ℕ) × Meet (n ∷ r.versions) (version_count r.versions) (head r d) m) where
    -- a console that did not move has a meet with the one that did
    with_new : (k : ℕ) → present (grown r c n) k ≡ true → (k ≡ c → ⊥) → (m : ℕ) × Meet (n ∷ r.versions) (version_count r.versions) (head (grown r c n) k) m
    with_new k q ne =
        let m = meeting k (back (kept r c n k ne) q) ne in
        (m.0, rw (number (kept r c n k ne)) m.1)

    pub grown_meets : (k k' : ℕ) → present (grown r c n) k ≡ true → present (grown r c n) k' ≡ true
        → (m : ℕ) × Meet (n ∷ r.versions) (head (grown r c n) k) (head (grown r c n) k') m
    grown_meets k k' q q' =
        elim (ℕ_discrete k c) [
          | yes e ↦
              elim (ℕ_discrete k' c) [
                | yes e' ↦ (
                  version_count r.versions,
                  subst₂ (λ (u v : ℕ). Meet (n ∷ r.versions) u v (version_count r.versions)) (sym (at_new k e)) (sym (at_new k' e'))
                      (meet_self (n ∷ r.versions) (version_count r.versions) (omega arith)),
                )
                | no ne' ↦ let m = with_new k' q' ne' in (m.0, rw (at_new k e) m.1)
              ]
          | no ne ↦
              elim (ℕ_discrete k' c) [
                | yes e' ↦ let m = with_new k q ne in (m.0, rw (at_new k' e') (meet_sym m.1))
                | no ne' ↦
                    let m = s.meets k k' (back (kept r c n k ne) q) (back (kept r c n k' ne') q') in (
                      m.0,
                      subst₂ (λ (u v : ℕ). Meet (n ∷ r.versions) u v m.0) (sym (number (kept r c n k ne))) (sym (number (kept r c n k' ne')))
                          (Meet-new n m.1),
                    )
              ]
        ]

  module _ (lower : parents_lower r.versions n ≡ true) (based : merge_has_base r.versions n ≡ true) (ranged : entry_in_range r.versions n ≡ true)
      (own : Parent n (head r c)) (meeting : (d : ℕ) → present r d ≡ true → (d ≡ c → ⊥) → (m : ℕ) × Meet (n ∷ r.versions) (version_count r.versions) (head r d) m) where
    grown_behind : (v : ℕ) → v < suc (version_count r.versions)
        → (x : ℕ) × (present (grown r c n) x ≡ true) × (ancestor (n ∷ r.versions) v (head (grown r c n) x) ≡ true)
    grown_behind v bound =
        elim (dec_lt v (version_count r.versions)) [
          | yes old ↦
              let b = s.behind v old in
              elim (ℕ_discrete b.0 c) [
                | yes e ↦ (
                  c,
                  ap is_some new_head,
                  ap (ancestor (n ∷ r.versions) v) new_number
                      ∙ ancestor_above r.versions v own (ap (λ (k : ℕ). ancestor r.versions v (head r k)) (sym e) ∙ b.2),
                )
                | no ne ↦ (
                  b.0,
                  there (kept r c n b.0 ne) b.1,
                  ap (ancestor (n ∷ r.versions) v) (number (kept r c n b.0 ne))
                      ∙ ancestor_old n r.versions v (head r b.0) (ancestor_named r.versions v (head r b.0) b.2) ∙ b.2,
                )
              ]
          | no new ↦
              let e : v ≡ version_count r.versions = omega arith in (
                c,
                ap is_some new_head,
                ap (ancestor (n ∷ r.versions) v) new_number
                    ∙ ap (λ (u : ℕ). ancestor (n ∷ r.versions) u (version_count r.versions)) e ∙ ancestor_same n r.versions,
              )
        ]

    -- where what c hears by its new version, and another console does, was behind the hub, it is
    module _ (from-parent : r.settings.hub ≡ true → (c ≡ 0 → ⊥) → (p k w : ℕ) → Parent n p → (k ≡ c → ⊥) → present r k ≡ true
        → ancestor r.versions w p ≡ true → ancestor r.versions w (head r k) ≡ true → ancestor r.versions w (head r 0) ≡ true) where
      -- the hub is where it was, or on the new version
      onward : (w : ℕ) → ancestor r.versions w (head r 0) ≡ true → ancestor (n ∷ r.versions) w (head (grown r c n) 0) ≡ true
      onward w a =
          elim (ℕ_discrete 0 c) [
            | yes e ↦ ap (ancestor (n ∷ r.versions) w) (at_new 0 e) ∙ ancestor_above r.versions w own (ap (λ (k : ℕ). ancestor r.versions w (head r k)) (sym e) ∙ a)
            | no ne ↦ ap (ancestor (n ∷ r.versions) w) (number (kept r c n 0 ne)) ∙ ancestor_old n r.versions w (head r 0) (ancestor_named r.versions w (head r 0) a) ∙ a
          ]

      -- an ancestor of a head that did not move
      before : (k w : ℕ) → (k ≡ c → ⊥) → present (grown r c n) k ≡ true → ancestor (n ∷ r.versions) w (head (grown r c n) k) ≡ true
          → ancestor r.versions w (head r k) ≡ true
      before k w ne q a =
          let f = kept r c n k ne in
          sym (ancestor_old n r.versions w (head r k) (s.named k (head r k) (present_head r k (back f q)))) ∙ (rw (number f) at a)

      with_mover : r.settings.hub ≡ true → (k w : ℕ) → (k ≡ c → ⊥) → present (grown r c n) k ≡ true
          → ancestor (n ∷ r.versions) w (head (grown r c n) c) ≡ true → ancestor (n ∷ r.versions) w (head (grown r c n) k) ≡ true
          → ancestor (n ∷ r.versions) w (head (grown r c n) 0) ≡ true
      with_mover t k w ne q a b =
          elim (ℕ_discrete 0 c) [
            | yes e ↦ ap (λ (j : ℕ). ancestor (n ∷ r.versions) w (head (grown r c n) j)) e ∙ a
            | no not-0 ↦
                let f = kept r c n k ne in
                let old = s.named k (head r k) (present_head r k (back f q)) in
                let x = by_parent n r.versions (head r k) w old (rw new_number at a) (rw (number f) at b) in
                onward w (from-parent t (λ e. not-0 (sym e)) x.0 k w x.1 ne (back f q) x.2 x.3)
          ]

      grown_hub : r.settings.hub ≡ true → BehindHub (grown r c n)
      grown_hub t k k' w two q q' a a' =
          elim (ℕ_discrete k c) [
            | yes e ↦ with_mover t k' w (λ e'. two (e ∙ sym e')) q' (rw e at a) a'
            | no ne ↦
                elim (ℕ_discrete k' c) [
                  | yes e' ↦ with_mover t k w ne q (rw e' at a') a
                  | no ne' ↦
                      onward w
                      (s.hub t k k' w two (back (kept r c n k ne) q) (back (kept r c n k' ne') q') (before k w ne q a) (before k' w ne' q' a'))
                ]
          ]

      pub grown_sound : version_count r.versions < r.settings.capacity → Sound (grown r c n)
      unfolding every_version
      grown_sound free = record {
        lower = and_i (parents_lower r.versions n) _ lower s.lower;
        based = and_i (merge_has_base r.versions n) _ based s.based;
        sixteen = length-set r.heads c (some (version_count r.versions)) ∙ s.sixteen;
        named = grown_named;
        meets = grown_meets meeting;
        first = grown_first;
        behind = grown_behind;
        settings = s.settings;
        fits = free;
        ranged = and_i (entry_in_range r.versions n) _ ranged s.ranged;
        hub = grown_hub;
      }
