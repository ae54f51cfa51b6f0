-- A record whose numbers fit its fields is read back from its bytes, and bytes that read as a record are that record's bytes.
-- Assumes nothing.
use Prim.Native.Nat.{ℕ, zero, suc, ◌+◌, ◌/◌, ◌≤◌, ◌<◌}
use mathlib.Core.Path.{◌≡◌, refl, sym, ap, subst, ◌∙◌}
use mathlib.Core.Logic.{inl, inr, ◌≢◌}
use mathlib.Core.Bool.{false, cond}
use mathlib.Core.List.{List, [], ◌∷◌, ◌++◌}
use native.Mathlib.Omega.{arith}
use native.Mathlib.Decide.{ℕ_discrete}
use native.Mathlib.Nat.{add-zero}
use lib.Dec.{ltb}
use lib.ListN.{length, get_or, drop, length-append}
use lib.Seq.{drop-cons, drop-append_seam}
use borrow.Author.Tests.{ltb-false, le-ltb, ne_eqb}
use Rattle.laws.proofs.Logic.{decide, cond_true, cond_false}
use Rattle.buffer.specs.Field.{byte, word_at}
use Rattle.buffer.proofs.Fields.{bytes_word}
use Rattle.buffer.proofs.Parts.{Bytes}
use Rattle.graph.specs.declared.Node.{Node}
use Rattle.graph.specs.declared.Node.TheVariants.{Entry, Merge}
use Rattle.command.specs.declared.Operands.{Operands}
use Rattle.command.specs.Code.{start_record, entry_record, merge_record, head_record, hub_record, end_record, shape_of, length_of, number_at, operands_of}
use Rattle.std.specs.Prelude.{Option, Some, None}
use Rattle.room.proofs.Sound.{SettingsFit}
use Rattle.tape.specs.declared.Record.{Record}
use Rattle.tape.specs.declared.Record.TheVariants.{Start, Version, Head, Hub, End}
use Rattle.tape.specs.Record.{record_in, record_length, record_from, version_bytes, record_bytes, found_bytes, record_refusal}

-- each number of a version, and of a record, fits its field; a start's settings have no hub, which another record says
abbrev pub NodeFits : Node → Type 0
NodeFits (Entry parent code strip operand) = (parent.0 < 65536) × (code < 256) × (strip.0 < 256) × (operand < 65536)
NodeFits (Merge receiver giver) = (receiver.0 < 65536) × (giver.0 < 65536)

abbrev pub Fits : Record → Type 0
Fits (Start settings) = SettingsFit settings × (settings.hub ≡ false)
Fits (Version node) = NodeFits node
Fits (Head console version) = (console.0 < 256) × (version.0 < 65536)
Fits Hub = Unit {0}
Fits End = Unit {0}

FitsFound : Option Record → Type 0
FitsFound None = ⊥
FitsFound (Some x) = Fits x

-- a byte is the number that it was made of
byte_back : (x : ℕ) → x < 256 → byte x ≡ x
byte_back x h = omega arith

-- a list with a front is no shorter than the front
whole : (front rest : List ℕ) → ltb (length (front ++ rest)) (length front) ≡ false
whole front rest = le-ltb (length (front ++ rest)) (length front) (simp length-append (omega arith))

pub record_read : (x : Record) (rest : List ℕ) → Fits x → record_in (record_bytes x ++ rest) ≡ Some x
unfolding record_in record_from shape_of length_of number_at operands_of
record_read (Start settings) rest h =
    simp (whole (record_bytes (Start settings)) rest, bytes_word settings.capacity h.0)
    (λ i. Some (Start (record { capacity = settings.capacity; hub = sym h.1 i })))
record_read (Version (Entry parent code strip operand)) rest h =
    let there = whole (version_bytes (Entry parent code strip operand)) rest in
    simp (there, bytes_word parent.0 h.0, byte_back code h.1, byte_back strip.0 h.2, bytes_word operand h.3)
record_read (Version (Merge receiver giver)) rest h =
    simp (whole (version_bytes (Merge receiver giver)) rest, bytes_word receiver.0 h.0, bytes_word giver.0 h.1)
record_read (Head console version) rest h =
    simp (whole (record_bytes (Head console version)) rest, byte_back console.0 h.0, bytes_word version.0 h.1)
record_read Hub rest h = simp (whole (record_bytes Hub) rest)
record_read End rest h = simp (whole (record_bytes End) rest)

pub record_length_lem : (x : Record) (rest : List ℕ) → Fits x → record_length (record_bytes x ++ rest) ≡ length (record_bytes x)
unfolding shape_of length_of
record_length_lem (Start settings) rest h = refl
record_length_lem (Version (Entry parent code strip operand)) rest h = refl
record_length_lem (Version (Merge receiver giver)) rest h = refl
record_length_lem (Head console version) rest h = refl
record_length_lem Hub rest h = refl
record_length_lem End rest h = refl

pub record_rest : (x : Record) (rest : List ℕ) → Fits x → drop (record_length (record_bytes x ++ rest)) (record_bytes x ++ rest) ≡ rest
record_rest x rest h = rw record_length_lem (drop-append_seam (record_bytes x) rest)

-- n elements of a tape from a place on, read one by one
abbrev front : List ℕ → ℕ → ℕ → List ℕ
front t at zero = []
front t at (suc n) = get_or t at 0 ∷ front t (suc at) n

front_drop : (t : List ℕ) (at n : ℕ) → at + n ≤ length t → drop at t ≡ front t at n ++ drop (at + n) t
front_drop t at zero h = rw add-zero
front_drop t at (suc n) h =
    let step : suc at + n ≡ at + suc n = omega arith in cc (drop-cons t at 0 (omega arith), front_drop t (suc at) n (omega arith))

-- the record at the front of a tape of a code
record_for : ℕ → List ℕ → Option Record
record_for c t = cond (ltb (length t) (length_of (shape_of c))) None (record_from c (operands_of (shape_of c) t))

-- the tape begins with the bytes of that record, and its numbers fit
Begins : ℕ → List ℕ → Type 0
Begins c t = (t ≡ found_bytes (record_for c t) ++ drop (length_of (shape_of c)) t) × FitsFound (record_for c t)

-- no other code is a record's
pub unknown : (c : ℕ) (o : Operands) → c ≢ start_record → c ≢ entry_record → c ≢ merge_record → c ≢ head_record → c ≢ hub_record → c ≢ end_record → record_from c o ≡ None
unfolding record_from
unknown c o n₀ n₁ n₂ n₃ n₄ n₅ = simp (ne_eqb c start_record n₀, ne_eqb c entry_record n₁, ne_eqb c merge_record n₂, ne_eqb c head_record n₃, ne_eqb c hub_record n₄, ne_eqb c end_record n₅)

module _ (t : List ℕ) (bytes : Bytes t) where
  -- a word gives back the two bytes that it was read from
  high : (k : ℕ) → byte (word_at t k / 256) ≡ get_or t k 0
  high k = omega (arith, bytes k, bytes (k + 1))

  low : (k : ℕ) → byte (word_at t k) ≡ get_or t (k + 1) 0
  low k = omega (arith, bytes k, bytes (k + 1))

  small : (k : ℕ) → word_at t k < 65536
  small k = omega (arith, bytes k, bytes (k + 1))

  -- the bytes of a record, where they are all there
  whole_front : (c : ℕ) → ltb (length t) (length_of (shape_of c)) ≡ false → drop 0 t ≡ front t 0 (length_of (shape_of c)) ++ drop (0 + length_of (shape_of c)) t
  whole_front c l = front_drop t 0 (length_of (shape_of c)) (omega (arith, ltb-false (length t) (length_of (shape_of c)) l))

  begins_start : get_or t 0 0 ≡ start_record → ltb (length t) (length_of (shape_of start_record)) ≡ false → Begins start_record t
  unfolding Begins FitsFound record_for record_from shape_of length_of number_at operands_of
  begins_start e l = (cc (whole_front start_record l, high 1, low 1), rw l (small 1, refl))

  begins_entry : get_or t 0 0 ≡ entry_record → ltb (length t) (length_of (shape_of entry_record)) ≡ false → Begins entry_record t
  unfolding Begins FitsFound record_for record_from shape_of length_of number_at operands_of
  begins_entry e l = (
    cc (whole_front entry_record l, high 1, low 1, byte_back _ (bytes 3), byte_back _ (bytes 4), high 5, low 5),
    rw l (small 1, bytes 3, bytes 4, small 5),
  )

  begins_merge : get_or t 0 0 ≡ merge_record → ltb (length t) (length_of (shape_of merge_record)) ≡ false → Begins merge_record t
  unfolding Begins FitsFound record_for record_from shape_of length_of number_at operands_of
  begins_merge e l = (cc (whole_front merge_record l, high 1, low 1, high 3, low 3), rw l (small 1, small 3))

  begins_head : get_or t 0 0 ≡ head_record → ltb (length t) (length_of (shape_of head_record)) ≡ false → Begins head_record t
  unfolding Begins FitsFound record_for record_from shape_of length_of number_at operands_of
  begins_head e l = (
    cc (whole_front head_record l, byte_back _ (bytes 1), high 2, low 2),
    rw l (bytes 1, small 2),
  )

  begins_hub : get_or t 0 0 ≡ hub_record → ltb (length t) (length_of (shape_of hub_record)) ≡ false → Begins hub_record t
  unfolding Begins FitsFound record_for record_from shape_of length_of number_at operands_of
  begins_hub e l = (cc (whole_front hub_record l), rw l tt)

  begins_end : get_or t 0 0 ≡ end_record → ltb (length t) (length_of (shape_of end_record)) ≡ false → Begins end_record t
  unfolding Begins FitsFound record_for record_from shape_of length_of number_at operands_of
  begins_end e l = (cc (whole_front end_record l), rw l tt)

  begins : (c : ℕ) → get_or t 0 0 ≡ c → ltb (length t) (length_of (shape_of c)) ≡ false → (record_for c t ≡ None → ⊥) → Begins c t
  unfolding record_for length_of shape_of
  begins c e l unbroken =
      elim (ℕ_discrete c start_record) [
        | yes q ↦ rw q (begins_start (e ∙ q) (rw q at l))
        | no n₀ ↦
            elim (ℕ_discrete c entry_record) [
              | yes q ↦ rw q (begins_entry (e ∙ q) (rw q at l))
              | no n₁ ↦
                  elim (ℕ_discrete c merge_record) [
                    | yes q ↦ rw q (begins_merge (e ∙ q) (rw q at l))
                    | no n₂ ↦
                        elim (ℕ_discrete c head_record) [
                          | yes q ↦ rw q (begins_head (e ∙ q) (rw q at l))
                          | no n₃ ↦
                              elim (ℕ_discrete c hub_record) [
                                | yes q ↦ rw q (begins_hub (e ∙ q) (rw q at l))
                                | no n₄ ↦
                                    elim (ℕ_discrete c end_record) [
                                      | yes q ↦ rw q (begins_end (e ∙ q) (rw q at l))
                                      | no n₅ ↦
                                          absurd (unbroken (cond_false _ _ _ l ∙ unknown c _ n₀ n₁ n₂ n₃ n₄ n₅))
                                    ]
                              ]
                        ]
                  ]
            ]
      ]

-- a tape begins with the bytes of the record that is read off its front, and its numbers fit
pub record_whole : (x : Record) (t : List ℕ) → Bytes t → record_in t ≡ Some x → (t ≡ record_bytes x ++ drop (record_length t) t) × Fits x
unfolding record_in record_for Begins FitsFound
record_whole x t bytes e =
    let unbroken : record_in t ≡ None → ⊥ = λ b. (let z = ap record_refusal (sym b ∙ e) in omega arith) in
    elim (decide (ltb (length t) (record_length t))) [
      | inl s ↦ absurd (unbroken (cond_true _ _ _ s))
      | inr l ↦
          subst (λ (o : Option Record). (t ≡ found_bytes o ++ drop (record_length t) t) × FitsFound o) e
          (begins t bytes (get_or t 0 0) refl l unbroken)
    ]

pub record_begins : (found : Option Record) (t : List ℕ) → Bytes t → found ≡ record_in t
    → (found ≡ record_in t) × (record_refusal found ≡ 0 → t ≡ found_bytes found ++ drop (record_length t) t)
record_begins None t bytes e = (e, λ u. absurd (omega (arith, u)))
record_begins (Some x) t bytes e = (e, λ u. (record_whole x t bytes (sym e)).0)
