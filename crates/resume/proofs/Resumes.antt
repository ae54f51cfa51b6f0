-- The answer of resume, test by test in their order, and the lent buffer with it; and what the scan and the ranges of a tape answer, taken
-- apart.
-- Assumes nothing.
use mathlib.Core.Path.{◌≡◌, refl, sym, ap, ◌∙◌}
use mathlib.Core.List.{List, [], ◌∷◌}
use mathlib.Core.Bool.{Bool, true, false, not, cond}
use mathlib.Core.Option.{Option, none, some}
use Prim.Native.Nat.{ℕ, ◌<◌}
use native.Mathlib.Omega.{arith}
use lib.Dec.{eqb, ltb}
use lib.ListN.{length}
use borrow.Author.Tests.{ne_eqb, eq-eqb}
use Rattle.laws.proofs.Logic.{cond_true, cond_false}
use Rattle.std.specs.Prelude.{Result, Ok, Err, Option as Found, Some, None}
use Rattle.buffer.specs.Field.{overwrite}
use Rattle.refusal.specs.declared.Refusal.{Refusal}
use Rattle.refusal.specs.declared.Refusal.TheVariants.{BadCapacity, TapeOutOfRange}
use Rattle.refusal.specs.Answer.{number_of}
use Rattle.refusal.specs.Refusal.{◌when◌, first_refusal}
use Rattle.room.specs.Sound.{settings_in_range, sound_room}
use Rattle.store.specs.Layout.{store_size, encode}
use Rattle.tape.specs.Tape.{Content, room_of, in_range}
use Rattle.tape.specs.Reader.{scanned_of, scan_refusal}
use Rattle.resume.specs.Resumed.{resume_refusal, resumed_store}

-- what is answered, and what stands in the buffer then
abbrev pub Resumed : Option Content → List ℕ → ℕ → List ℕ → Type 0
Resumed o old n new = (n ≡ resume_refusal o old) × (new ≡ resumed_store o old)

-- of what a tape says, told in another way
pub said_of : {o same : Option Content} (old : List ℕ) {new : List ℕ} {n : ℕ} → o ≡ same → Resumed same old n new → Resumed o old n new
said_of old e h = rw e h

-- a refusal leaves the buffer as it was
refused : (o : Option Content) (old : List ℕ) (n : ℕ) → 0 < n → n ≡ resume_refusal o old → Resumed o old n old
unfolding resumed_store
refused o old n l e = (e, sym (cond_false _ _ _ (ap (λ (k : ℕ). eqb k 0) (sym e) ∙ ne_eqb n 0 (omega arith))))

-- where no refusal is left, the room is sound and the buffer long enough
pub none_left : (sound short : Bool) → first_refusal (10 when not sound ∷ 19 when short ∷ []) ≡ 0 → (sound ≡ true) × (short ≡ false)
unfolding first_refusal
none_left true true e = absurd (omega arith)
none_left true false e = (refl, refl)
none_left false short e = absurd (omega arith)

module _ (t : Content) (old : List ℕ) where
  pub no_capacity : settings_in_range t.settings ≡ false → Resumed (some t) old 8 old
  unfolding first_refusal
  no_capacity a = refused (some t) old 8 (omega arith) (rw a)

  module _ (a : settings_in_range t.settings ≡ true) where
    pub out_of_range : in_range t ≡ false → Resumed (some t) old 9 old
    unfolding first_refusal
    out_of_range b = refused (some t) old 9 (omega arith) (rw (a, b))

    -- the last two tests, made of a tape in range
    module _ (b : in_range t ≡ true) {sound short : Bool} (c : sound ≡ sound_room (room_of t)) (d : short ≡ ltb (length old) (store_size t.settings.capacity)) {n : ℕ} (e : n ≡ first_refusal (10 when not sound ∷ 19 when short ∷ [])) where
      answer : n ≡ resume_refusal (some t) old
      unfolding first_refusal
      answer = rw (e, a, b, c, d)

      pub last_refused : (n ≡ 0 → ⊥) → Resumed (some t) old n old
      last_refused z = refused (some t) old n (omega arith) answer

      pub resumed : n ≡ 0 → {new : List ℕ} → new ≡ overwrite (encode (room_of t)) old → Resumed (some t) old n new
      unfolding resumed_store
      resumed z f = (answer, f ∙ sym (cond_true _ _ _ (eq-eqb (resume_refusal (some t) old) 0 (sym answer ∙ z))))

-- a tape that the scan takes says what the scan tells
pub scanned_some : (o : Option Content) {t : Content} → scanned_of o ≡ Some t → o ≡ some t
scanned_some none e = absurd (let z : ◌≡◌ {A = ℕ} 0 1 = cc in omega arith)
scanned_some (some t) e = cc

-- a tape that the scan refuses is refused with the scan's number
pub scan_refused : (o : Option Content) (old : List ℕ) (n : ℕ) {x : Found Content} → x ≡ scanned_of o → x ≡ None → n ≡ scan_refusal x → Resumed o old n old
unfolding first_refusal
scan_refused none old n e f g = let seven = g ∙ ap scan_refusal f in refused none old n (omega arith) seven
scan_refused (some t) old n e f g = absurd (let z : ◌≡◌ {A = ℕ} 0 1 = cc in omega arith)

module _ (t : Content) {r : Result Content Refusal} (e : r ≡ cond (settings_in_range t.settings) (cond (in_range t) (Ok t) (Err TapeOutOfRange)) (Err BadCapacity)) where
  -- the refusal of a tape whose numbers are out of range
  pub range_refused : (store : List ℕ) (x : Refusal) → r ≡ Err x → (number_of x ≡ resume_refusal (some t) store) × (store ≡ resumed_store (some t) store)
  unfolding first_refusal resumed_store
  range_refused store x f = go (settings_in_range t.settings) (in_range t) refl refl (sym e ∙ f)
    where
      go : (fits ranged : Bool) → settings_in_range t.settings ≡ fits → in_range t ≡ ranged
          → ◌≡◌ {A = Result Content Refusal} (cond fits (cond ranged (Ok t) (Err TapeOutOfRange)) (Err BadCapacity)) (Err x)
          → (number_of x ≡ resume_refusal (some t) store) × (store ≡ resumed_store (some t) store)
      go true true p q f = absurd (let z : ◌≡◌ {A = ℕ} 0 1 = cc in omega arith)
      go true false p q f = let w : x ≡ TapeOutOfRange = cc in rw (w, p, q) (refl, refl)
      go false b p q f = let w : x ≡ BadCapacity = cc in rw (w, p) (refl, refl)

  -- and one whose numbers are in range
  pub range_passed : {u : Content} → r ≡ Ok u → u ≡ t
  range_passed {u} f = go (settings_in_range t.settings) (in_range t) (sym e ∙ f)
    where
      go : (fits ranged : Bool) → ◌≡◌ {A = Result Content Refusal} (cond fits (cond ranged (Ok t) (Err TapeOutOfRange)) (Err BadCapacity)) (Ok u) → u ≡ t
      go true true f = cc
      go true false f = absurd (let z : ◌≡◌ {A = ℕ} 0 1 = cc in omega arith)
      go false b f = absurd (let z : ◌≡◌ {A = ℕ} 0 1 = cc in omega arith)
