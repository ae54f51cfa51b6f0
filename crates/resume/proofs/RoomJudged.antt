-- The room of a tape in range is sound exactly when the parents of each merge have a base, every two heads have a meet, every version
-- stands behind a head, and console 0 could be made the hub, where the tape says that it is.
-- Assumes nothing.
use mathlib.Core.Path.{◌≡◌, refl, sym, ap, ◌∙◌}
use mathlib.Core.Bool.{Bool, true, false, ◌&&◌}
use mathlib.Core.List.{List, [], ◌∷◌}
use mathlib.Core.Option.{Option, none, some}
use Prim.Native.Nat.{ℕ, ◌≤◌}
use native.Mathlib.Decide.{ℕ_discrete}
use native.Mathlib.Omega.{arith}
use lib.Dec.{leb, ltb}
use lib.ListN.{length, get_or}
use lib.Seq.{get_or-set_same, get_or-set_other}
use borrow.Author.Tests.{eqb-true, eq-eqb, leb-true, lt-ltb}
use Rattle.laws.proofs.Logic.{clash, and_l, and_r}
use Rattle.graph.specs.Graph.{Graph, version_count, is_some, every_version, parents_lower, merge_has_base}
use Rattle.graph.proofs.Below.{of}
use Rattle.command.specs.Code.{console_count, is_console}
use Rattle.room.specs.Room.{head_of}
use Rattle.room.specs.Sound.{max_capacity, settings_in_range, entry_in_range, names_version, heads_name_versions, heads_meet, all_behind_heads, hub_is_right, sound_room}
use Rattle.room.proofs.Sound.{capacity_range}
use Rattle.tape.specs.Tape.{Content, head_slots, room_of, consoles_rise, heads_named, in_range}
use Rattle.tape.proofs.Heads.{length_slots}
use Rattle.resume.proofs.HeadSlots.{head_field, heads_diagonal}

-- what is in range of a tape's content
pub record Facts (t : Content) : Type 0 where
  pub small : version_count t.versions ≤ max_capacity
  pub lower : every_version parents_lower t.versions ≡ true
  pub ranged : every_version entry_in_range t.versions ≡ true
  pub rise : consoles_rise t.heads ≡ true
  pub named : heads_named t.versions t.heads ≡ true

pub range_facts : (t : Content) → settings_in_range t.settings ≡ true → in_range t ≡ true → Facts t
range_facts t cap h =
    let count = leb-true (version_count t.versions) t.settings.capacity (search (and_l, and_r) depth 8) in
    record {
      small = omega (arith, capacity_range t.settings cap);
      lower = search (and_l, and_r) depth 8;
      ranged = search (and_l, and_r) depth 8;
      rise = search (and_l, and_r) depth 8;
      named = search (and_l, and_r) depth 8;
    }

-- console 0 is there
first_present : (heads : List (ℕ × ℕ)) → consoles_rise heads ≡ true → is_some (get_or (head_slots heads) 0 none) ≡ true
unfolding consoles_rise head_slots
first_present [] h = clash h refl
first_present (x ∷ []) h =
    ap is_some
    (ap (λ (c : ℕ). get_or (head_slots (x ∷ [])) c none) (sym (eqb-true x.0 0 h))
    ∙ get_or-set_same (head_slots []) x.0 (some x.1) none (omega (arith, length_slots [], eqb-true x.0 0 h)))
first_present (x ∷ (b ∷ rest)) h =
    let before = head_slots (b ∷ rest) in
    elim (ℕ_discrete 0 x.0) [
      | yes e ↦
          ap is_some
          (ap (λ (c : ℕ). get_or (head_slots (x ∷ (b ∷ rest))) c none) e
          ∙ get_or-set_same before x.0 (some x.1) none (omega (arith, length_slots (b ∷ rest))))
      | no d ↦
          ap is_some (get_or-set_other before x.0 0 (some x.1) none d)
          ∙ first_present (b ∷ rest) (and_r (ltb b.0 x.0 && is_console x.0) (consoles_rise (b ∷ rest)) h)
    ]

named_field : (g : Graph) (o : Option ℕ) → head_field o ≤ version_count g → names_version g o ≡ true
named_field g none l = refl
named_field g (some v) l = lt-ltb v (version_count g) l

-- a chain of tests of which seven pass
rest_passes : (b m h u : Bool) → (true && b && true && true && m && true && h && true && true && true && u) ≡ b && m && (h && u)
rest_passes false m h u = refl
rest_passes true false h u = refl
rest_passes true true false u = refl
rest_passes true true true u = refl

module _ (t : Content) (cap : settings_in_range t.settings ≡ true) (range : in_range t ≡ true) where
  heads_name : heads_name_versions (room_of t) ≡ true
  heads_name =
      let k = range_facts t cap range in
      let d = heads_diagonal t k.rise k.named in
      of console_count (λ c. names_version t.versions (head_of (room_of t) c)) (λ c l. named_field t.versions (head_of (room_of t) c) (d.named c l))

  room_judged : sound_room (room_of t) ≡ (every_version merge_has_base t.versions && heads_meet (room_of t) && (all_behind_heads (room_of t) && hub_is_right (room_of t)))
  unfolding sound_room
  room_judged =
      let k = range_facts t cap range in
      let sixteen = eq-eqb (length (head_slots t.heads)) console_count (length_slots t.heads) in
      let fits : leb (version_count t.versions) t.settings.capacity ≡ true = search (and_l, and_r) depth 8 in
      rw (k.lower, sixteen, heads_name, first_present t.heads k.rise, cap, fits, k.ranged)
      (rest_passes (every_version merge_has_base t.versions) (heads_meet (room_of t)) (all_behind_heads (room_of t)) (hub_is_right (room_of t)))

  -- by the first that fails, or by the last two together
  module _ {based : Bool} (eb : based ≡ every_version merge_has_base t.versions) where
    pub versions_fail : based ≡ false → false ≡ sound_room (room_of t)
    versions_fail h = sym (room_judged ∙ rw (sym eb ∙ h))

    module _ (ok : based ≡ true) {met : Bool} (em : met ≡ heads_meet (room_of t)) where
      pub heads_fail : met ≡ false → false ≡ sound_room (room_of t)
      heads_fail h = sym (room_judged ∙ rw (sym eb ∙ ok, sym em ∙ h))

      pub behind_decides : met ≡ true → {last : Bool} → last ≡ all_behind_heads (room_of t) && hub_is_right (room_of t) → last ≡ sound_room (room_of t)
      behind_decides h e = e ∙ sym (room_judged ∙ rw (sym eb ∙ ok, sym em ∙ h))
