-- Counting the members of rows: of a byte by its bits, and of two rows in common a word at a time.
-- Assumes nothing.
use mathlib.Core.Path.{◌≡◌, refl, sym, ap, ap₂, ◌∙◌}
use mathlib.Core.Bool.{Bool}
use mathlib.Core.List.{List, [], ◌∷◌, ◌++◌, map}
use Prim.Native.Nat.{ℕ, zero, suc, ◌+◌, ◌*◌, ◌/◌, ◌%◌, ◌^◌, ◌≤◌, ◌<◌}
use native.Mathlib.Nat.{suc_inj, zero-add}
use native.Mathlib.Omega.{arith}
use lib.Bits.{bit_and, and_lt, and_le_l, and_block}
use lib.Count.{ones, ones_step, ones_cat, ones-le}
use lib.ListN.{length, take, drop, length-drop}
use lib.Seq.{length-take-le}
use Rattle.std.specs.List.{fold, zip, sum}
use Rattle.std.specs.Simd.{first_chunks}
use Rattle.std.proofs.lemmas.List.{take-append-drop}
use Rattle.buffer.specs.Row.{bit, row_byte, bytewise, intersection, member_count, row_width}
use Rattle.buffer.specs.Word.{long_word}
use Rattle.buffer.proofs.Rows.{bit_le}
use Rattle.buffer.proofs.Parts.{Bytes}
use Rattle.buffer.proofs.Bytewise.{bytewise_append}
use Rattle.buffer.proofs.Sets.{nest}

-- the lowest bit apart from the others
ones_bit : (b : Bool) (x : ℕ) → ones (bit b + 2 * x) ≡ bit b + ones x
ones_bit b x =
    let low : (bit b + 2 * x) % 2 ≡ bit b = omega (arith, bit_le b) in
    let high : (bit b + 2 * x) / 2 ≡ x = omega (arith, bit_le b) in
    ones_step (bit b + 2 * x) ∙ rw (low, high)

pub byte_members : (f : ℕ → Bool) (v : ℕ)
    → ones (row_byte f v) ≡ bit (f v) + bit (f (v + 1)) + bit (f (v + 2)) + bit (f (v + 3))
    + bit (f (v + 4)) + bit (f (v + 5)) + bit (f (v + 6)) + bit (f (v + 7))
unfolding ones
byte_members f v = rw (nest f v) (simp ones_bit (omega arith))

-- the number that bytes stand for, the first byte lowest; of eight bytes it is their word
unfoldable little_endian : List ℕ → ℕ
little_endian [] = 0
little_endian (x ∷ s) = little_endian s * 256 + x

eight_bytes : (s : List ℕ) → length s ≡ 8 → little_endian s ≡ long_word s
unfolding little_endian
eight_bytes (a ∷ b ∷ c ∷ d ∷ e ∷ f ∷ g ∷ h ∷ []) l = omega arith
eight_bytes (a ∷ b ∷ c ∷ d ∷ e ∷ f ∷ g ∷ h ∷ i ∷ s) l = absurd (omega arith)
eight_bytes (a ∷ b ∷ c ∷ d ∷ e ∷ f ∷ g ∷ []) l = absurd (omega arith)
eight_bytes (a ∷ b ∷ c ∷ d ∷ e ∷ f ∷ []) l = absurd (omega arith)
eight_bytes (a ∷ b ∷ c ∷ d ∷ e ∷ []) l = absurd (omega arith)
eight_bytes (a ∷ b ∷ c ∷ d ∷ []) l = absurd (omega arith)
eight_bytes (a ∷ b ∷ c ∷ []) l = absurd (omega arith)
eight_bytes (a ∷ b ∷ []) l = absurd (omega arith)
eight_bytes (a ∷ []) l = absurd (omega arith)
eight_bytes [] l = absurd (omega arith)

little_members : (s t : List ℕ) → Bytes s → Bytes t → length s ≡ length t
    → ones (bit_and (little_endian s) (little_endian t)) ≡ member_count (intersection s t)
unfolding little_endian bytewise member_count ones
little_members [] t b d e = refl
little_members (x ∷ s) [] b d e = absurd (omega arith)
little_members (x ∷ s) (y ∷ t) b d e =
    ap ones (and_block 8 (little_endian s) (little_endian t) x y (b 0) (d 0))
    ∙ ones_cat 8 (bit_and (little_endian s) (little_endian t)) (bit_and x y) (and_lt 8 x y (b 0) (d 0))
    ∙ ap (λ (n : ℕ). n + ones (bit_and x y)) (little_members s t (λ k. b (suc k)) (λ k. d (suc k)) (suc_inj e))
    ∙ omega arith

-- the ones that two words have in common are the members that the rows have in common
pub word_members : (s t : List ℕ) → Bytes s → Bytes t → length s ≡ 8 → length t ≡ 8
    → (ones (bit_and (long_word s) (long_word t)) ≡ member_count (intersection s t)) × (ones (bit_and (long_word s) (long_word t)) ≤ 64)
word_members s t b d e i =
    let bound : long_word s < 2 ^ 64 = omega (arith, b 0, b 1, b 2, b 3, b 4, b 5, b 6, b 7) in (
      rw (sym (eight_bytes s e), sym (eight_bytes t i)) (little_members s t b d (e ∙ sym i)),
      ones-le 64 (bit_and (long_word s) (long_word t)) (omega (arith, and_le_l (long_word s) (long_word t))),
    )

count_append : (s t : List ℕ) → member_count (s ++ t) ≡ member_count s + member_count t
unfolding member_count
count_append [] t = omega arith
count_append (x ∷ s) t = ap (λ (n : ℕ). ones x + n) (count_append s t) ∙ omega arith

-- so many members as the bits of the bytes at most
members_bound : (s t : List ℕ) → Bytes s → length s ≡ length t → member_count (intersection s t) ≤ 8 * length s
unfolding bytewise member_count
members_bound [] t b e = omega arith
members_bound (x ∷ s) [] b e = absurd (omega arith)
members_bound (x ∷ s) (y ∷ t) b e =
    omega (arith, members_bound s t (λ k. b (suc k)) (suc_inj e), ones-le 8 (bit_and x y) (omega (arith, and_le_l x y, b 0)))

-- counted a word of eight bytes at a time
abbrev pub in_word : List ℕ × List ℕ → ℕ
in_word p = member_count (intersection p.0 p.1)

pub count_words : (k : ℕ) (s t : List ℕ) (found : ℕ) → length s ≡ k * 8 → length t ≡ k * 8
    → fold (λ a x. a + x) found (map in_word (zip (first_chunks 8 k s) (first_chunks 8 k t))) ≡ found + member_count (intersection s t)
unfolding bytewise member_count
count_words zero [] t found d e = omega arith
count_words zero (x ∷ s) t found d e = absurd (omega arith)
count_words (suc k) s t found d e =
    let rest = bytewise bit_and (drop 8 s) (drop 8 t) in
    let more = count_words k (drop 8 s) (drop 8 t) (found + in_word (take 8 s, take 8 t)) (rw length-drop (omega arith)) (rw length-drop (omega arith)) in
    let front : length (take 8 s) ≡ length (take 8 t) = length-take-le 8 s (omega arith) ∙ sym (length-take-le 8 t (omega arith)) in
    let split : intersection s t ≡ intersection (take 8 s) (take 8 t) ++ intersection (drop 8 s) (drop 8 t) =
    ap₂ intersection (sym (take-append-drop 8 s)) (sym (take-append-drop 8 t)) ∙ bytewise_append bit_and (take 8 s) (take 8 t) (drop 8 s) (drop 8 t) front in
    more ∙ rw split (omega (arith, count_append (intersection (take 8 s) (take 8 t)) (intersection (drop 8 s) (drop 8 t))))

-- all words of rows that are not longer than a whole one
pub all_words : (s t : List ℕ) → Bytes s → length s ≡ length t → length s % 8 ≡ 0 → length s ≤ row_width
    → (sum (map in_word (zip (first_chunks 8 (length s / 8) s) (first_chunks 8 (length t / 8) t))) ≡ member_count (intersection s t))
    × (member_count (intersection s t) ≤ 8 * row_width)
all_words s t b e whole short =
    (rw (sym e) (count_words (length s / 8) s t 0 (omega arith) (omega arith) ∙ zero-add _), omega (arith, members_bound s t b e))
