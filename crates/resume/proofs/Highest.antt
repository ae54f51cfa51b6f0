-- The highest member that two rows have in common, found from the last word of eight bytes down.
-- Assumes nothing.
use mathlib.Core.Path.{◌≡◌, refl, sym, ap, ap₂, ◌∙◌}
use mathlib.Core.Bool.{true, false, ◌&&◌}
use mathlib.Core.List.{List, []}
use mathlib.Core.Option
use mathlib.Core.Option.{Option, none, some}
use Prim.Native.Nat.{ℕ, zero, suc, ◌+◌, ◌-◌, ◌*◌, ◌/◌, ◌%◌, ◌^◌, ◌≤◌, ◌<◌}
use native.Mathlib.Nat.{zero-div}
use native.Mathlib.Decide.{dec_lt}
use native.Mathlib.Omega.{arith}
use lib.Dec.{eqb}
use lib.Bits.{bit_and, and_shr, and_mod}
use lib.Pow.{field, mod-mod-pow, shr-shr}
use lib.ListN.{length, get_or, take, drop}
use lib.Seq.{drop-drop}
use Rattle.std.specs.Simd.{first_chunks}
use Rattle.laws.proofs.Lists.{part_at}
use Rattle.laws.proofs.Logic.{clash}
use Rattle.buffer.specs.Field.{part}
use Rattle.buffer.specs.Row.{member}
use Rattle.buffer.specs.Word.{long_word}
use Rattle.buffer.proofs.Parts.{Bytes, part_bytes}
use Rattle.buffer.proofs.Shared.{member_both, no_higher}
use Rattle.graph.specs.Below.{highest_below}
use Rattle.graph.proofs.Below.{highest_of, highest_some}
use Rattle.room.specs.Sound.{max_capacity}
use Rattle.store.specs.Layout.{row_size}
use Rattle.resume.specs.Rows.{highest_common}

-- no member from k bytes on is in both rows
pub record NoneAbove (p q : List ℕ) (k : ℕ) : Type 0 where
  pub within : k ≤ row_size
  pub none : (v : ℕ) → 8 * k ≤ v → v < max_capacity → member p v && member q v ≡ false

-- the word of eight bytes that stands at k among the words of a row
word_part : (m k : ℕ) (p d : List ℕ) → k < m → get_or (first_chunks 8 m p) k d ≡ part p (8 * k) 8
word_part zero k p d l = absurd (omega arith)
word_part (suc m) zero p d l = refl
word_part (suc m) (suc k) p d l =
    word_part m k (drop 8 p) d (omega arith) ∙ ap (take 8) (drop-drop (8 * k) 8 p ∙ ap (λ (i : ℕ). drop i p) (omega arith))

-- byte j of a word
word_byte : (s : List ℕ) → Bytes s → (j : ℕ) → j < 8 → long_word s / 2 ^ (8 * j) % 2 ^ 8 ≡ get_or s j 0
word_byte s b zero l = omega (arith, b 0)
word_byte s b (suc zero) l = omega (arith, b 0, b 1)
word_byte s b (suc (suc zero)) l = omega (arith, b 0, b 1, b 2)
word_byte s b (suc (suc (suc zero))) l = omega (arith, b 0, b 1, b 2, b 3)
word_byte s b (suc (suc (suc (suc zero)))) l = omega (arith, b 0, b 1, b 2, b 3, b 4)
word_byte s b (suc (suc (suc (suc (suc zero))))) l = omega (arith, b 0, b 1, b 2, b 3, b 4, b 5)
word_byte s b (suc (suc (suc (suc (suc (suc zero)))))) l = omega (arith, b 0, b 1, b 2, b 3, b 4, b 5, b 6)
word_byte s b (suc (suc (suc (suc (suc (suc (suc zero))))))) l = omega (arith, b 0, b 1, b 2, b 3, b 4, b 5, b 6, b 7)
word_byte s b (suc (suc (suc (suc (suc (suc (suc (suc j)))))))) l = absurd (omega arith)

-- a bit of the lowest byte
byte_bit : (y r : ℕ) → r < 8 → y / 2 ^ r % 2 ≡ y % 2 ^ 8 / 2 ^ r % 2
byte_bit y r l =
    let whole : 8 - r + r ≡ 8 = omega arith in
    let less : 7 - r + 1 ≡ 8 - r = omega arith in
    sym (rw less at (mod-mod-pow (y / 2 ^ r) (7 - r) 1)) ∙ sym (ap (λ (z : ℕ). z % 2) (rw whole at (field y (8 - r) r)))

-- the word at k among the words of a row, and byte j of it
abbrev word_of : List ℕ → ℕ → ℕ
word_of s k = long_word (get_or (first_chunks 8 (length s / 8) s) k [])

byte_of : (s : List ℕ) → Bytes s → (k j : ℕ) → k < length s / 8 → j < 8 → word_of s k / 2 ^ (8 * j) % 2 ^ 8 ≡ get_or s (8 * k + j) 0
byte_of s b k j l m =
    ap (λ (w : List ℕ). long_word w / 2 ^ (8 * j) % 2 ^ 8) (word_part (length s / 8) k s [] l)
    ∙ word_byte (part s (8 * k) 8) (part_bytes s (8 * k) 8 b) j m
    ∙ part_at s (8 * k) 8 j m

module _ (p q : List ℕ) (b : Bytes p) (d : Bytes q) (e : length p ≡ row_size) (f : length q ≡ row_size) where
  -- which of the 64 members from 64 times k on the rows have in common, as the bits of a word
  abbrev shared : ℕ → ℕ
  shared k = bit_and (word_of p k) (word_of q k)

  -- the word of v, and the bit in it
  shared_at : (k v : ℕ) → v / 64 ≡ k → v < max_capacity → member p v && member q v ≡ eqb (shared k / 2 ^ (v % 64) % 2) 1
  shared_at k v at l =
      let j : ℕ = v / 8 % 8 in
      let place : 8 * k + j ≡ v / 8 = omega arith in
      let bit : 8 * j + v % 8 ≡ v % 64 = omega arith in
      let both : shared k / 2 ^ (8 * j) % 2 ^ 8 ≡ bit_and (get_or p (8 * k + j) 0) (get_or q (8 * k + j) 0) =
      ap (λ (y : ℕ). y % 2 ^ 8) (and_shr (word_of p k) (word_of q k) (8 * j))
      ∙ and_mod (word_of p k / 2 ^ (8 * j)) (word_of q k / 2 ^ (8 * j)) 8
      ∙ ap₂ bit_and (byte_of p b k j (omega arith) (omega arith)) (byte_of q d k j (omega arith) (omega arith)) in
      member_both p q v
      ∙ ap (λ (i : ℕ). eqb (bit_and (get_or p i 0) (get_or q i 0) / 2 ^ (v % 8) % 2) 1) (sym place)
      ∙ ap (λ (y : ℕ). eqb (y / 2 ^ (v % 8) % 2) 1) (sym both)
      ∙ ap (λ (y : ℕ). eqb y 1) (sym (byte_bit (shared k / 2 ^ (8 * j)) (v % 8) (omega arith)))
      ∙ ap (λ (y : ℕ). eqb (y % 2) 1) (shr-shr (shared k) (8 * j) (v % 8))
      ∙ ap (λ (i : ℕ). eqb (shared k / 2 ^ i % 2) 1) bit

  module _ {k : ℕ} (a : NoneAbove p q (8 * k)) (some_left : 0 < k) where
    -- the last word has no member of both
    pub above_more : shared (k - 1) ≡ 0 → NoneAbove p q (8 * (k - 1))
    above_more z =
        record {
          within = omega (arith, a.within);
          none = λ v l m.
              elim (dec_lt v (64 * k)) [
                | yes n ↦
                    shared_at (k - 1) v (omega arith) m
                    ∙ ap (λ (y : ℕ). eqb (y / 2 ^ (v % 64) % 2) 1) z
                    ∙ ap (λ (y : ℕ). eqb (y % 2) 1) (zero-div (2 ^ (v % 64)))
                | no n ↦ a.none v (omega arith) m
              ];
        }

    -- or the highest bit of it is the highest of all
    pub above_found : (j : ℕ) → j < 64 → shared (k - 1) / 2 ^ j ≡ 1 → (64 * (k - 1) + j ≡ highest_common p q) × (64 * (k - 1) + j < max_capacity)
    above_found j l z =
        let w = a.within in
        let u : ℕ = 64 * (k - 1) + j in
        let bit : u % 64 ≡ j = omega arith in
        let here : member p u && member q u ≡ true =
        shared_at (k - 1) u (omega arith) (omega arith) ∙ ap (λ (i : ℕ). eqb (shared (k - 1) / 2 ^ i % 2) 1) bit ∙ ap (λ (y : ℕ). eqb (y % 2) 1) z in
        let above : (v : ℕ) → u < v → v < max_capacity → member p v && member q v ≡ false =
        λ v m n.
        elim (dec_lt v (64 * k)) [
          | yes o ↦ shared_at (k - 1) v (omega arith) n ∙ ap (λ (y : ℕ). eqb (y % 2) 1) (no_higher (shared (k - 1)) j (v % 64) z (omega arith))
          | no o ↦ a.none v (omega arith) n
        ] in (
          sym (ap (λ (o : Option ℕ). Option.get_or o 0) (highest_of max_capacity (λ v. member p v && member q v) u (omega arith) here above)),
          omega arith,
        )

-- no member at all
pub above_all : (p q : List ℕ) → NoneAbove p q 0 → 0 ≡ highest_common p q
above_all p q a = go (highest_below max_capacity (λ v. member p v && member q v)) refl
  where
    go : (o : Option ℕ) → highest_below max_capacity (λ v. member p v && member q v) ≡ o → 0 ≡ Option.get_or o 0
    go none e = refl
    go (some m) e =
        let r = highest_some max_capacity (λ v. member p v && member q v) m e in
        clash r.1 (a.none m (omega arith) r.0)
