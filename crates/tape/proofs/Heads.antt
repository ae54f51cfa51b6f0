-- Heads and head records: which slots the records of a room's heads fill, and which records the slots of read heads give.
-- Assumes nothing.
use Prim.Native.Nat.{ℕ, zero, suc, ◌+◌, ◌≤◌, ◌<◌}
use mathlib.Core.Path.{◌≡◌, refl, sym, ◌∙◌}
use mathlib.Core.Bool.{true}
use mathlib.Core.List.{List, [], ◌∷◌, ◌++◌, append_assoc}
use mathlib.Core.Option.{Option, none, some}
use native.Mathlib.Omega.{arith}
use native.Mathlib.Nat.{add-zero, zero-add, not-suc-le-zero}
use lib.ListN.{length, get_or, set, replicate, length-append, length-set}
use lib.Seq.{append_snoc, set_at, get_or-set_other}
use borrow.Author.Tests.{lt-ltb, ltb-true, eqb-true}
use Rattle.laws.proofs.Logic.{clash, and_i, and_l, and_r}
use Rattle.graph.specs.Graph.{Graph, is_some}
use Rattle.command.specs.Code.{console_count}
use Rattle.room.specs.Sound.{names_version}
use Rattle.tape.specs.declared.Record.TheVariants.{Head}
use Rattle.tape.specs.Record.{record_bytes}
use Rattle.tape.specs.Tape.{head_records, head_slots, consoles_rise, heads_named}

-- the present consoles from console c on, put before those that came first
abbrev pub heads_from : ℕ → List (Option ℕ) → List (ℕ × ℕ) → List (ℕ × ℕ)
heads_from c [] before = before
heads_from c (none ∷ later) before = heads_from (suc c) later before
heads_from c (some v ∷ later) before = heads_from (suc c) later ((c, v) ∷ before)

-- the slots that are filled so far, and empty ones, become the heads
slots_from : (c : ℕ) (done later : List (Option ℕ)) (before : List (ℕ × ℕ)) → length done ≡ c
    → head_slots before ≡ done ++ replicate (length later) none → head_slots (heads_from c later before) ≡ done ++ later
unfolding head_slots
slots_from c done [] before l e = e
slots_from c done (none ∷ later) before l e =
    slots_from (suc c) (done ++ none ∷ []) later before (simp length-append (omega arith)) (e ∙ sym (append_snoc done none _))
    ∙ append_snoc done none later
slots_from c done (some v ∷ later) before l e =
    slots_from (suc c) (done ++ some v ∷ []) later ((c, v) ∷ before) (simp length-append (omega arith))
    (rw e (set_at done none _ (some v) c l) ∙ sym (append_snoc done (some v) _))
    ∙ append_snoc done (some v) later

pub slots_back : (heads : List (Option ℕ)) → length heads ≡ console_count → head_slots (heads_from 0 heads []) ≡ heads
unfolding head_slots
slots_back heads l = slots_from 0 [] heads [] refl (rw l refl)

rise_from : (c d v : ℕ) (later : List (Option ℕ)) (before : List (ℕ × ℕ)) → consoles_rise ((d, v) ∷ before) ≡ true → d < c
    → c + length later ≤ console_count → consoles_rise (heads_from c later ((d, v) ∷ before)) ≡ true
unfolding consoles_rise
rise_from c d v [] before h lt fit = h
rise_from c d v (none ∷ later) before h lt fit = rise_from (suc c) d v later before h (omega arith) (omega arith)
rise_from c d v (some w ∷ later) before h lt fit =
    let above = lt-ltb d c lt in
    let below = lt-ltb c console_count (omega arith) in
    rise_from (suc c) c w later ((d, v) ∷ before) (simp (above, below) h) (omega arith) (omega arith)

-- consoles rise in the records of heads of which console 0 is there
pub rises : (heads : List (Option ℕ)) → length heads ≡ console_count → is_some (get_or heads 0 none) ≡ true
    → consoles_rise (heads_from 0 heads []) ≡ true
unfolding consoles_rise
rises [] l p = clash p refl
rises (none ∷ later) l p = clash p refl
rises (some v ∷ later) l p = rise_from 1 0 v later [] refl (omega arith) (omega arith)

-- each of these heads names a version
abbrev pub Named : Graph → List (Option ℕ) → Type 0
Named g heads = (k : ℕ) → k < length heads → names_version g (get_or heads k none) ≡ true

pub named_tail : (g : Graph) (h : Option ℕ) (later : List (Option ℕ)) → Named g (h ∷ later) → Named g later
named_tail g h later n k l = n (suc k) (omega arith)

named_from : (g : Graph) (c : ℕ) (later : List (Option ℕ)) (before : List (ℕ × ℕ)) → Named g later → heads_named g before ≡ true
    → heads_named g (heads_from c later before) ≡ true
unfolding heads_named
named_from g c [] before n h = h
named_from g c (none ∷ later) before n h = named_from g (suc c) later before (named_tail g none later n) h
named_from g c (some v ∷ later) before n h =
    named_from g (suc c) later ((c, v) ∷ before) (named_tail g (some v) later n) (and_i _ _ (n 0 (omega arith)) h)

pub all_named : (g : Graph) (heads : List (Option ℕ)) → Named g heads → heads_named g (heads_from 0 heads []) ≡ true
unfolding heads_named
all_named g heads n = named_from g 0 heads [] n refl

-- The other way: the slots that records with rising consoles fill.

-- the bytes of head records, of which the last stands first
abbrev pub head_bytes : List (ℕ × ℕ) → List ℕ
head_bytes [] = []
head_bytes (h ∷ before) = head_bytes before ++ record_bytes (Head (record { 0 = h.0 }) (record { 0 = h.1 }))

get_d-nones : (n k : ℕ) → ◌≡◌ {A = Option ℕ} (get_or (replicate n none) k none) none
get_d-nones zero k = refl
get_d-nones (suc n) zero = refl
get_d-nones (suc n) (suc k) = get_d-nones n k

no_records : (b : ℕ) (heads : List (Option ℕ)) → ((k : ℕ) → get_or heads k none ≡ none) → head_records b heads ≡ []
unfolding head_records
no_records b [] empty = refl
no_records b (none ∷ later) empty = no_records (suc b) later (λ k. empty (suc k))
no_records b (some v ∷ later) empty = cc (empty 0)

-- a head in a slot after all that are filled is the last record
last_record : (b c v : ℕ) (heads : List (Option ℕ)) → c < length heads → ((k : ℕ) → c ≤ k → get_or heads k none ≡ none)
    → head_records b (set heads c (some v)) ≡ head_records b heads ++ record_bytes (Head (record { 0 = b + c }) (record { 0 = v }))
unfolding head_records
last_record b c v [] l empty = absurd (not-suc-le-zero l)
last_record b zero v (none ∷ later) l empty = rw (no_records (suc b) later (λ k. empty (suc k) (omega arith)), add-zero)
last_record b zero v (some w ∷ later) l empty = cc (empty 0 (omega arith))
last_record b (suc c) v (none ∷ later) l empty =
    let step : suc b + c ≡ b + suc c = omega arith in
    rw step at (last_record (suc b) c v later (omega arith) (λ k h. empty (suc k) (omega arith)))
last_record b (suc c) v (some w ∷ later) l empty =
    let step : suc b + c ≡ b + suc c = omega arith in
    rw (last_record (suc b) c v later (omega arith) (λ k h. empty (suc k) (omega arith)), step, append_assoc)

rise_parts : (h b : ℕ × ℕ) (rest : List (ℕ × ℕ)) → consoles_rise (h ∷ b ∷ rest) ≡ true
    → (b.0 < h.0) × (h.0 < console_count) × (consoles_rise (b ∷ rest) ≡ true)
unfolding consoles_rise
rise_parts h b rest rise = (ltb-true _ _ (search (and_l, and_r)), ltb-true _ _ (search (and_l, and_r)), search (and_l, and_r))

-- the slots from a record's console on are empty before it
free : (h : ℕ × ℕ) (before : List (ℕ × ℕ)) → consoles_rise (h ∷ before) ≡ true → (k : ℕ) → h.0 ≤ k
    → get_or (head_slots before) k none ≡ none
unfolding head_slots
free h [] rise k le = get_d-nones console_count k
free h (b ∷ rest) rise k le =
    let parts = rise_parts h b rest rise in
    get_or-set_other (head_slots rest) b.0 k (some b.1) none (omega arith) ∙ free b rest parts.2 k (omega arith)

console_below : (h : ℕ × ℕ) (before : List (ℕ × ℕ)) → consoles_rise (h ∷ before) ≡ true → h.0 < console_count
unfolding consoles_rise
console_below h [] rise = omega (arith, eqb-true h.0 0 rise)
console_below h (b ∷ rest) rise = (rise_parts h b rest rise).1

pub length_slots : (heads : List (ℕ × ℕ)) → length (head_slots heads) ≡ console_count
unfolding head_slots
length_slots [] = refl
length_slots (h ∷ before) = length-set (head_slots before) h.0 (some h.1) ∙ length_slots before

add_record : (h : ℕ × ℕ) (before : List (ℕ × ℕ)) → consoles_rise (h ∷ before) ≡ true
    → head_records 0 (head_slots (h ∷ before))
    ≡ head_records 0 (head_slots before) ++ record_bytes (Head (record { 0 = h.0 }) (record { 0 = h.1 }))
unfolding head_slots
add_record h before rise =
    rw zero-add at (last_record 0 h.0 h.1 (head_slots before) (rw length_slots (console_below h before rise)) (free h before rise))

pub slots_forth : (heads : List (ℕ × ℕ)) → consoles_rise heads ≡ true → head_records 0 (head_slots heads) ≡ head_bytes heads
unfolding consoles_rise head_slots head_records
slots_forth [] rise = refl
slots_forth (h ∷ []) rise = add_record h [] rise
slots_forth (h ∷ b ∷ rest) rise = add_record h (b ∷ rest) rise ∙ rw (slots_forth (b ∷ rest) (rise_parts h b rest rise).2)
