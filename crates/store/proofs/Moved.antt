-- The table of common versions after a console moved (to another's head, to a new entry, to a merge) or left. Where it moved, its fields against
-- the other consoles are the higher of its own and the giver's before, as the later of two common versions has the higher number.
-- Assumes nothing.
use mathlib.Core.Path.{◌≡◌, refl, sym, ◌∙◌, ap, subst₂}
use mathlib.Core.Bool.{Bool, true, false}
use mathlib.Core.List.{◌∷◌}
use mathlib.Core.Option.{Option, none}
use mathlib.Core.Logic.{inl, inr}
use Prim.Native.Nat.{ℕ, suc, pred, max, ◌≤◌, ◌<◌}
use native.Mathlib.Omega.{arith}
use Rattle.laws.proofs.Logic.{clash, refuted}
use Rattle.graph.specs.declared.Node.{Node}
use Rattle.graph.specs.Graph.{entry, merge, version_count, is_some}
use Rattle.graph.proofs.Ancestor.{ancestor_le, ancestor_trans}
use Rattle.graph.proofs.Meet.{Meet, meet_self, Meet-new}
use Rattle.command.specs.Code.{console_count}
use Rattle.room.specs.Room.{Room, head_of, present, head}
use Rattle.room.specs.Step.{behind, some_third_splits, moved, grown}
use Rattle.room.proofs.Sound.{Sound}
use Rattle.room.proofs.Accepted.{MayMove}
use Rattle.room.proofs.Moves.{Follows, there, back, number, onto, slot_other, moved_sound, left_absent, new_head, new_number, kept}
use Rattle.room.proofs.NewMeets.{entry_meet, merge_meet_receiver, merge_meet_giver, merge_meet_ordered}
use Rattle.room.proofs.Steps.{head_named, meeting}
use Rattle.store.specs.Layout.{common_field}
use Rattle.store.proofs.Commons.{Field, field_is, field_of, field_sym}

-- what a field of a room says of the consoles that follow those two in another room, whose graph keeps the meets
follow_field : {r' r : Room} {j k j' k' z : ℕ} → Follows r' r j j' → Follows r' r k k'
    → ((u v m : ℕ) → Meet r.versions u v m → Meet r'.versions u v m) → Field r j' k' z → Field r' j k z
follow_field {r'} {z = z} f g keep w =
    record {
      away = λ a. w.away (λ p q. a (there f p) (there g q));
      both = λ p q.
          let m = w.both (back f p) (back g q) in
          (m.0, subst₂ (λ (u v : ℕ). Meet r'.versions u v (pred z)) (sym (number f)) (sym (number g)) (keep _ _ _ m.1));
    }

module _ (r : Room) (s : Sound r) where
  -- the fields of a sound room
  sound_field : (c k : ℕ) → Field r c k (common_field r c k)
  sound_field c k = field_of r c k (s.meets c k)

  pub common_field-sym : (c k : ℕ) → common_field r c k ≡ common_field r k c
  common_field-sym c k = field_is (field_sym (sound_field c k))

  -- a console that is absent, or whose head is behind another's, has no later common version with any console
  field_behind : (c d k : ℕ) → present r d ≡ true → (present r c ≡ true → behind r c d ≡ true) → common_field r c k ≤ common_field r d k
  field_behind c d k q b = go (present r c) refl (present r k) refl
    where
      go : (x : Bool) → present r c ≡ x → (y : Bool) → present r k ≡ y → common_field r c k ≤ common_field r d k
      go false e y f = omega (arith, (sound_field c k).away (λ p _. clash p e))
      go true e false f = omega (arith, (sound_field c k).away (λ _ p. clash p f))
      go true e true f =
          let m = (sound_field c k).both e f in
          let w = (sound_field d k).both q f in
          let up = ancestor_trans r.versions (pred (common_field r c k)) (head r c) (head r d) m.1.first (b e) in
          omega (arith, ancestor_le r.versions _ _ (w.1.lowest (pred (common_field r c k)) up m.1.second))

-- console c moved or left: the fields of the others stay
pub moved_other : (r : Room) → Sound r → (c : ℕ) (h : Option ℕ) (j k : ℕ) → (j ≡ c → ⊥) → (k ≡ c → ⊥) → common_field (moved r c h) j k ≡ common_field r j k
moved_other r s c h j k nj nk =
    sym (field_is (follow_field (slot_other r c h j nj) (slot_other r c h k nk) (λ u v m w. w) (sound_field r s j k)))

-- console c gone home: it has no field
module _ (r : Room) (s : Sound r) (c : ℕ) (l : c < console_count) where
  left_field : (k : ℕ) → Field (moved r c none) c k 0
  left_field k = record { away = λ a. refl; both = λ p q. clash p (left_absent r s c l) }

  pub left_row : (k : ℕ) → common_field (moved r c none) c k ≡ 0
  left_row k = sym (field_is (left_field k))

  pub left_column : (k : ℕ) → common_field (moved r c none) k c ≡ 0
  left_column k = sym (field_is (field_sym (left_field k)))

-- console c on the head of console d: a fork where c is absent, a fast-forward where its head is behind
module _ (r : Room) (s : Sound r) (c d : ℕ) (l : c < console_count) (may : MayMove r c d) where
  abbrev after : Room
  after = moved r c (head_of r d)

  pub moved_self : common_field after c c ≡ common_field r d d
  moved_self = sym (field_is (follow_field (onto r s c d l) (onto r s c d l) (λ u v m w. w) (sound_field r s d d)))

  pub moved_row : (k : ℕ) → (k ≡ c → ⊥) → common_field after c k ≡ max (common_field r c k) (common_field r d k)
  moved_row k ne =
      let e = field_is (follow_field (onto r s c d l) (slot_other r c (head_of r d) k ne) (λ u v m w. w) (sound_field r s d k)) in
      omega (arith, field_behind r s c d k may.target may.ahead)

  pub moved_column : (k : ℕ) → (k ≡ c → ⊥) → common_field after k c ≡ max (common_field r c k) (common_field r d k)
  moved_column k ne = common_field-sym after (moved_sound r s c d l may) k c ∙ moved_row k ne

-- console c on a new version
module _ (r : Room) (s : Sound r) (c : ℕ) (p : present r c ≡ true) (n : Node) where
  abbrev fresh : ℕ
  fresh = version_count r.versions

  new_there : present (grown r c n) c ≡ true
  new_there = ap is_some (new_head r s c p n)

  pub grown_self : common_field (grown r c n) c c ≡ suc (version_count r.versions)
  grown_self =
      sym
      (field_is {r = grown r c n}
      (record {
        away = λ a. absurd (a new_there new_there);
        both = λ _ _. (omega arith, rw (new_number r s c p n) (meet_self (n ∷ r.versions) fresh (omega arith)));
      }))

  -- a number that is 1 more than the meet of the new version and a console's head
  new_field : (k z : ℕ) → (k ≡ c → ⊥) → (present r k ≡ false → z ≡ 0)
      → (present r k ≡ true → (0 < z) × Meet (n ∷ r.versions) fresh (head r k) (pred z)) → Field (grown r c n) c k z
  new_field k z ne gone met =
      let f = kept r c n k ne in
      record {
        away = λ a. gone (refuted (present r k) (λ t. a new_there (there f t)));
        both = λ _ t.
            let m = met (back f t) in
            (m.0, subst₂ (λ (u v : ℕ). Meet (n ∷ r.versions) u v (pred z)) (sym (new_number r s c p n)) (sym (number f)) m.1);
      }

  pub grown_other : (j k : ℕ) → (j ≡ c → ⊥) → (k ≡ c → ⊥) → common_field (grown r c n) j k ≡ common_field r j k
  grown_other j k nj nk =
      sym (field_is (follow_field (kept r c n j nj) (kept r c n k nk) (λ u v m. Meet-new n) (sound_field r s j k)))

-- an entry: the common versions of the console with the others stay
module _ (r : Room) (s : Sound r) (c : ℕ) (p : present r c ≡ true) (code strip operand : ℕ) where
  entry_field : (k : ℕ) → (k ≡ c → ⊥) → Field (grown r c (entry (head r c) code strip operand)) c k (common_field r c k)
  entry_field k ne =
      let w = sound_field r s c k in
      new_field r s c p (entry (head r c) code strip operand) k (common_field r c k) ne
      (λ f. w.away (λ _ t. clash t f))
      (λ t. let m = w.both p t in (m.0, entry_meet code strip operand (head_named r s k t) m.1))

  pub entry_row : (k : ℕ) → (k ≡ c → ⊥) → common_field (grown r c (entry (head r c) code strip operand)) c k ≡ common_field r c k
  entry_row k ne = sym (field_is (entry_field k ne))

  pub entry_column : (k : ℕ) → (k ≡ c → ⊥) → common_field (grown r c (entry (head r c) code strip operand)) k c ≡ common_field r c k
  entry_column k ne = sym (field_is (field_sym (entry_field k ne)))

-- a merge of d into c
module _ (r : Room) (s : Sound r) (c d : ℕ) (p : present r c ≡ true) (q : present r d ≡ true)
    (split : some_third_splits r c d ≡ false) where
  merge_field : (k : ℕ) → (k ≡ c → ⊥)
      → Field (grown r c (merge (head r c) (head r d))) c k (max (common_field r c k) (common_field r d k))
  merge_field k ne =
      let x = sound_field r s c k in
      let y = sound_field r s d k in
      new_field r s c p (merge (head r c) (head r d)) k (max (common_field r c k) (common_field r d k)) ne
      (λ f. omega (arith, x.away (λ _ t. clash t f), y.away (λ _ t. clash t f)))
      (λ t.
      let m = x.both p t in
      let w = y.both q t in
      let l = head_named r s k t in (
        omega (arith, m.0),
        elim (merge_meet_ordered l m.1 w.1 (meeting r s c d p q split k t ne).1) [
          | inl a ↦
              let e : pred (max (common_field r c k) (common_field r d k)) ≡ pred (common_field r d k) = omega (arith, ancestor_le r.versions _ _ a) in
              rw e (merge_meet_giver l m.1 w.1 a)
          | inr a ↦
              let e : pred (max (common_field r c k) (common_field r d k)) ≡ pred (common_field r c k) = omega (arith, ancestor_le r.versions _ _ a) in
              rw e (merge_meet_receiver l m.1 w.1 a)
        ],
      ))

  pub merge_row : (k : ℕ) → (k ≡ c → ⊥)
      → common_field (grown r c (merge (head r c) (head r d))) c k ≡ max (common_field r c k) (common_field r d k)
  merge_row k ne = sym (field_is (merge_field k ne))

  pub merge_column : (k : ℕ) → (k ≡ c → ⊥)
      → common_field (grown r c (merge (head r c) (head r d))) k c ≡ max (common_field r c k) (common_field r d k)
  merge_column k ne = sym (field_is (field_sym (merge_field k ne)))
