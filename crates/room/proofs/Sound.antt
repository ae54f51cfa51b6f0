-- The clauses of soundness as facts: what a sound room gives, and what makes a room sound.
-- Assumes nothing.
use Prim.Native.Nat.{ℕ, ◌≤◌, ◌<◌}
use mathlib.Core.Path.{◌≡◌, refl, ap}
use mathlib.Core.Bool.{true}
use mathlib.Core.Option.{Option, none, some, get_or}
use native.Mathlib.Omega.{arith}
use native.Mathlib.Decide.{dec_lt}
use borrow.Author.Tests.{eqb-true, eq-eqb, ltb-true, lt-ltb, leb-true, le-leb}
use lib.ListN.{length, get_or-eq_default}
use Rattle.laws.proofs.Logic.{clash, and_l, and_r, and_i, implies_i, implies_e, implies_i2, implies_e2}
use Rattle.graph.specs.Graph.{Graph, version_count, ancestor, meet, is_some, every_version, parents_lower, merge_has_base}
use Rattle.graph.proofs.Below.{at, of, some_at, some_of}
use Rattle.graph.proofs.Ancestor.{ancestor_trans}
use Rattle.graph.proofs.Meet.{Meet, meet_is, meet_found, meet_number_lem}
use Rattle.command.specs.Code.{console_count}
use Rattle.command.proofs.Limits.{within_true}
use Rattle.room.specs.Room.{Room, head_of, present, head, common}
use Rattle.room.specs.declared.Settings.{Settings}
use Rattle.room.specs.Sound.{max_capacity, settings_in_range, entry_in_range, names_version, heads_name_versions, two_meet, heads_meet, all_behind_heads, can_make_hub, hub_is_right, sound_room}

-- what a room can be set to: its capacity, and that each of its numbers fits a field of 16 bits
pub capacity_range : (settings : Settings) → settings_in_range settings ≡ true → (1 ≤ settings.capacity) × (settings.capacity ≤ max_capacity)
capacity_range settings h = within_true 1 max_capacity settings.capacity h

abbrev pub SettingsFit : Settings → Type 0
SettingsFit settings = settings.capacity < 65536

pub settings_fit : (settings : Settings) → settings_in_range settings ≡ true → SettingsFit settings
settings_fit settings h = omega (arith, capacity_range settings h)

-- what two consoles have in common is behind the hub
abbrev pub BehindHub : Room → Type 0
BehindHub r = (c d w : ℕ) → (c ≡ d → ⊥) → present r c ≡ true → present r d ≡ true
    → ancestor r.versions w (head r c) ≡ true → ancestor r.versions w (head r d) ≡ true → ancestor r.versions w (head r 0) ≡ true

pub record Sound (r : Room) : Type 0 where
  pub lower : every_version parents_lower r.versions ≡ true
  pub based : every_version merge_has_base r.versions ≡ true
  pub sixteen : length r.heads ≡ console_count
  pub named : (c v : ℕ) → head_of r c ≡ some v → v < version_count r.versions
  pub meets : (c d : ℕ) → present r c ≡ true → present r d ≡ true → (m : ℕ) × Meet r.versions (head r c) (head r d) m
  pub first : present r 0 ≡ true
  pub behind : (v : ℕ) → v < version_count r.versions → (c : ℕ) × (present r c ≡ true) × (ancestor r.versions v (head r c) ≡ true)
  pub settings : settings_in_range r.settings ≡ true
  pub fits : version_count r.versions ≤ r.settings.capacity
  pub ranged : every_version entry_in_range r.versions ≡ true
  pub hub : r.settings.hub ≡ true → BehindHub r

-- a sound room has no more versions than the largest capacity
pub versions_small : (r : Room) → Sound r → version_count r.versions ≤ max_capacity
versions_small r s = omega (arith, s.fits, capacity_range r.settings s.settings)

-- a number above the last console's has no head, so that a present console is one of the sixteen
pub no_head : (r : Room) (c : ℕ) → length r.heads ≡ console_count → console_count ≤ c → head_of r c ≡ none
no_head r c l high = get_or-eq_default r.heads none {n = c} (omega arith)

pub present_console : (r : Room) (c : ℕ) → length r.heads ≡ console_count → present r c ≡ true → c < console_count
present_console r c l p =
    elim (dec_lt c console_count) [
      | yes lt ↦ lt
      | no ge ↦ clash p (ap is_some (no_head r c l (omega arith)))
    ]

-- the head of a present console
pub present_head : (r : Room) (c : ℕ) → present r c ≡ true → head_of r c ≡ some (head r c)
present_head r c p = go (head_of r c) p
  where
    go : (h : Option ℕ) → is_some h ≡ true → h ≡ some (get_or h 0)
    go none e = clash e refl
    go (some v) e = refl

names : (g : Graph) (h : Option ℕ) (v : ℕ) → names_version g h ≡ true → h ≡ some v → v < version_count g
names g none v t e = absurd (let z : ◌≡◌ {A = ℕ} 0 1 = cc in omega arith)
names g (some w) v t e = let same : w ≡ v = cc in omega (arith, ltb-true w (version_count g) t)

meets_of : (g : Graph) (u v : ℕ) (o : Option ℕ) → meet g u v ≡ o → is_some o ≡ true → (m : ℕ) × Meet g u v m
meets_of g u v none e t = clash t refl
meets_of g u v (some m) e t = (m, meet_is g u v m e)

-- the test of two consoles: where both are present, their heads have a meet
module _ (r : Room) (c d : ℕ) where
  pub two_met : two_meet r c d ≡ true → present r c ≡ true → present r d ≡ true → (m : ℕ) × Meet r.versions (head r c) (head r d) m
  two_met t p q =
      meets_of r.versions (head r c) (head r d) _ refl (implies_e2 (present r c) (present r d) (is_some (meet r.versions (head r c) (head r d))) t p q)

  pub met_two : (present r c ≡ true → present r d ≡ true → (m : ℕ) × Meet r.versions (head r c) (head r d) m) → two_meet r c d ≡ true
  met_two h =
      implies_i2 (present r c) (present r d) (is_some (meet r.versions (head r c) (head r d)))
      (λ p q. ap is_some (meet_found (h p q).1))

-- the test of the hub: of two consoles' common ancestors their common version, behind which all others are
module _ (r : Room) (l : length r.heads ≡ console_count)
    (meets : (c d : ℕ) → present r c ≡ true → present r d ≡ true → (m : ℕ) × Meet r.versions (head r c) (head r d) m) where
  behind_higher : can_make_hub r ≡ true → (c d w : ℕ) → d < c → present r c ≡ true → present r d ≡ true
      → ancestor r.versions w (head r c) ≡ true → ancestor r.versions w (head r d) ≡ true → ancestor r.versions w (head r 0) ≡ true
  unfolding can_make_hub common
  behind_higher h c d w order p q a b =
      let m = meets c d p q in
      let behind = implies_e2 (present r c) (present r d) _ (at c _ (at console_count _ h c (present_console r c l p)) d order) p q in
      ancestor_trans r.versions w m.0 (head r 0) (m.1.lowest w a b) (rw (meet_number_lem m.1) at behind)

  pub can_behind : can_make_hub r ≡ true → BehindHub r
  can_behind h c d w two p q a b =
      elim (dec_lt d c) [
        | yes lt ↦ behind_higher h c d w lt p q a b
        | no ge ↦ behind_higher h d c w (omega arith) q p b a
      ]

  pub behind_can : BehindHub r → can_make_hub r ≡ true
  unfolding can_make_hub common
  behind_can h =
      of console_count _ (λ c i. of c _ (λ d j.
      implies_i2 (present r c) (present r d) (ancestor r.versions (common r c d) (head r 0))
      (λ p q.
      let m = meets c d p q in
      rw (meet_number_lem m.1) (h c d m.0 (omega arith) p q m.1.first m.1.second))))

-- each clause stands in the chain of tests
pub sound_facts : (r : Room) → sound_room r ≡ true → Sound r
unfolding sound_room heads_meet all_behind_heads
sound_facts r h =
    let l : length r.heads ≡ console_count = eqb-true _ _ (search (and_l, and_r) depth 13) in
    let named : heads_name_versions r ≡ true = search (and_l, and_r) depth 13 in
    let meets : heads_meet r ≡ true = search (and_l, and_r) depth 13 in
    let behind : all_behind_heads r ≡ true = search (and_l, and_r) depth 13 in
    let hub : hub_is_right r ≡ true = search (and_l, and_r) depth 13 in
    let met : (c d : ℕ) → present r c ≡ true → present r d ≡ true → (m : ℕ) × Meet r.versions (head r c) (head r d) m =
    λ c d p q.
    two_met r c d (at console_count _ (at console_count _ meets c (present_console r c l p)) d (present_console r d l q)) p q in
    record {
      lower = search (and_l, and_r) depth 13;
      based = search (and_l, and_r) depth 13;
      sixteen = l;
      named = λ c v e.
          names r.versions (head_of r c) v (at console_count _ named c (present_console r c l (ap is_some e))) e;
      meets = met;
      first = search (and_l, and_r) depth 13;
      behind = λ v b.
          let s = some_at console_count _ (at (version_count r.versions) _ behind v b) in
          (s.0, and_l (present r s.0) _ s.2, and_r (present r s.0) _ s.2);
      settings = search (and_l, and_r) depth 13;
      fits = leb-true _ _ (search (and_l, and_r) depth 13);
      ranged = search (and_l, and_r) depth 13;
      hub = λ t. can_behind r l met (implies_e r.settings.hub (can_make_hub r) hub t);
    }

-- the way back
names_of : (g : Graph) (h : Option ℕ) → ((v : ℕ) → h ≡ some v → v < version_count g) → names_version g h ≡ true
names_of g none f = refl
names_of g (some v) f = lt-ltb v (version_count g) (f v refl)

pub heads_named_lem : (r : Room) → Sound r → (c : ℕ) → names_version r.versions (head_of r c) ≡ true
heads_named_lem r s c = names_of r.versions (head_of r c) (s.named c)

pub facts_sound : (r : Room) → Sound r → sound_room r ≡ true
unfolding sound_room heads_meet all_behind_heads
facts_sound r s =
    and_i _ _ (and_i _ _ (and_i _ _ (and_i _ _ (and_i _ _ (and_i _ _ (and_i _ _ (and_i _ _ (and_i _ _ (and_i _ _
    s.lower
    s.based)
    (eq-eqb _ _ s.sixteen))
    (of console_count _ (λ c l. heads_named_lem r s c)))
    (of console_count _ (λ c l. of console_count _ (λ d m. met_two r c d (s.meets c d)))))
    s.first)
    (of (version_count r.versions) _
    (λ v l.
    let b = s.behind v l in
    some_of console_count _ b.0 (present_console r b.0 s.sixteen b.1) (and_i _ _ b.1 b.2))))
    s.settings)
    (le-leb _ _ s.fits))
    s.ranged)
    (implies_i r.settings.hub (can_make_hub r) (λ t. behind_can r s.sixteen s.meets (s.hub t)))
