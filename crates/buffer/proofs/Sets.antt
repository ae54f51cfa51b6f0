-- Rows of bits as sets: the union and the intersection of two rows, a row with one member more, rows with the same members, and rows that
-- have none from a number on.
-- Assumes nothing.
use mathlib.Core.Path.{◌≡◌, refl, sym, ap, ap₂, ◌∙◌, fun_ext}
use mathlib.Core.Bool.{Bool, true, false, ◌&&◌, ◌||◌}
use mathlib.Core.List.{List, ◌∷◌}
use Prim.Native.Nat.{ℕ, zero, suc, ◌+◌, ◌-◌, ◌*◌, ◌/◌, ◌%◌, ◌^◌, min, max, ◌≤◌, ◌<◌}
use native.Mathlib.Nat.{pow-suc, zero-div}
use native.Mathlib.Decide.{ℕ_discrete, dec_lt}
use native.Mathlib.Omega.{arith}
use lib.Dec.{eqb}
use lib.Bits.{bit_and, bit_or, and_step, or_step, or_comm}
use lib.Pow.{pow_pos, shr-shr, shr_lt}
use lib.ListN.{length, get_or, drop, length-set, get_or-eq_default}
use lib.Seq.{ext_get_or, get_or-set_same, get_or-set_other, get_or-drop}
use borrow.Author.Tests.{eqb-true, eqb-false, eq-eqb, ne_eqb}
use Rattle.laws.proofs.Logic.{and_l, and_r, and_i, bool_ext}
use Rattle.buffer.specs.Field.{all_zero}
use Rattle.buffer.specs.Row.{bit, row_byte, row_from, row, member, with_member, bytewise, union, intersection, none_from}
use Rattle.buffer.proofs.Rows.{eight, row_from-length, row_from-byte, bit_le, bit_test, byte_bit, member_row}
use Rattle.buffer.proofs.Parts.{Bytes, zero_at, zero_of}

bit_or_lem : (a b : Bool) → max (bit a) (bit b) ≡ bit (a || b)
bit_or_lem true true = refl
bit_or_lem true false = refl
bit_or_lem false true = refl
bit_or_lem false false = refl

bit_and_lem : (a b : Bool) → min (bit a) (bit b) ≡ bit (a && b)
bit_and_lem true true = refl
bit_and_lem true false = refl
bit_and_lem false true = refl
bit_and_lem false false = refl

-- the lowest bit apart from the others
or_bit : (a b : Bool) (x y : ℕ) → bit_or (bit a + 2 * x) (bit b + 2 * y) ≡ bit (a || b) + 2 * bit_or x y
or_bit a b x y =
    let p : (bit a + 2 * x) / 2 ≡ x = omega (arith, bit_le a) in
    let q : (bit b + 2 * y) / 2 ≡ y = omega (arith, bit_le b) in
    or_step (bit a + 2 * x) (bit b + 2 * y) ∙ rw (p, q) (omega (arith, bit_or_lem a b, bit_le a, bit_le b))

and_bit : (a b : Bool) (x y : ℕ) → bit_and (bit a + 2 * x) (bit b + 2 * y) ≡ bit (a && b) + 2 * bit_and x y
and_bit a b x y =
    let p : (bit a + 2 * x) / 2 ≡ x = omega (arith, bit_le a) in
    let q : (bit b + 2 * y) / 2 ≡ y = omega (arith, bit_le b) in
    and_step (bit a + 2 * x) (bit b + 2 * y) ∙ rw (p, q) (omega (arith, bit_and_lem a b, bit_le a, bit_le b))

-- a byte of a row, bit by bit
abbrev nested : (ℕ → Bool) → ℕ → ℕ
nested f v =
    bit (f v) + 2 * (bit (f (v + 1)) + 2 * (bit (f (v + 2)) + 2 * (bit (f (v + 3))
    + 2 * (bit (f (v + 4)) + 2 * (bit (f (v + 5)) + 2 * (bit (f (v + 6)) + 2 * (bit (f (v + 7)) + 2 * 0)))))))

pub nest : (f : ℕ → Bool) (v : ℕ) → row_byte f v ≡ nested f v
nest f v = omega arith

byte_or : (f g : ℕ → Bool) (v : ℕ) → bit_or (row_byte f v) (row_byte g v) ≡ row_byte (λ u. f u || g u) v
byte_or f g v = rw (nest f v, nest g v, nest (λ u. f u || g u) v) (simp or_bit)

byte_and : (f g : ℕ → Bool) (v : ℕ) → bit_and (row_byte f v) (row_byte g v) ≡ row_byte (λ u. f u && g u) v
byte_and f g v = rw (nest f v, nest g v, nest (λ u. f u && g u) v) (simp and_bit)

rows_or : (f g : ℕ → Bool) (v n : ℕ) → union (row_from f v n) (row_from g v n) ≡ row_from (λ u. f u || g u) v n
unfolding row_from bytewise
rows_or f g v zero = refl
rows_or f g v (suc n) = ap₂ ◌∷◌ (byte_or f g v) (rows_or f g (v + 8) n)

rows_and : (f g : ℕ → Bool) (v n : ℕ) → intersection (row_from f v n) (row_from g v n) ≡ row_from (λ u. f u && g u) v n
unfolding row_from bytewise
rows_and f g v zero = refl
rows_and f g v (suc n) = ap₂ ◌∷◌ (byte_and f g v) (rows_and f g (v + 8) n)

-- the row of the numbers that pass one of two tests, and of those that pass both
pub row_union : (f g : ℕ → Bool) (n : ℕ) → union (row f n) (row g n) ≡ row (λ u. f u || g u) n
row_union f g n = rows_or f g 0 n

pub row_intersection : (f g : ℕ → Bool) (n : ℕ) → intersection (row f n) (row g n) ≡ row (λ u. f u && g u) n
row_intersection f g n = rows_and f g 0 n

-- a number is told by its bits
bits_told : (k x y : ℕ) → x < 2 ^ k → y < 2 ^ k → ((j : ℕ) → j < k → x / 2 ^ j % 2 ≡ y / 2 ^ j % 2) → x ≡ y
bits_told zero x y p q h = omega arith
bits_told (suc k) x y p q h =
    let half : (z : ℕ) → z < 2 ^ suc k → z / 2 < 2 ^ k = λ z l. omega (arith, pow-suc 2 k) in
    let next : (z j : ℕ) → z / 2 / 2 ^ j % 2 ≡ z / 2 ^ suc j % 2 = λ z j. ap (λ (w : ℕ). w % 2) (shr-shr z 1 j) ∙ ap (λ (i : ℕ). z / 2 ^ i % 2) (omega arith) in
    let high = bits_told k (x / 2) (y / 2) (half x p) (half y q) (λ j l. next x j ∙ h (suc j) (omega arith) ∙ sym (next y j)) in
    let low : x / 1 % 2 ≡ y / 1 % 2 = h 0 (omega arith) in
    omega arith

byte_small : (f : ℕ → Bool) (v : ℕ) → row_byte f v < 256
byte_small f v =
    omega (arith, bit_le (f v), bit_le (f (v + 1)), bit_le (f (v + 2)), bit_le (f (v + 3)), bit_le (f (v + 4)), bit_le (f (v + 5)), bit_le (f (v + 6)), bit_le (f (v + 7)))

bit_told : (y : ℕ) (b : Bool) → y < 2 → eqb y 1 ≡ b → y ≡ bit b
bit_told y true l h = eqb-true y 1 h
bit_told y false l h = let ne = eqb-false y 1 h in omega arith

byte_told : (f : ℕ → Bool) (v x : ℕ) → x < 256 → ((j : ℕ) → j < 8 → eqb (x / 2 ^ j % 2) 1 ≡ f (v + j)) → x ≡ row_byte f v
byte_told f v x l h =
    bits_told 8 x (row_byte f v) l (byte_small f v)
    (λ j m. bit_told (x / 2 ^ j % 2) (f (v + j)) (omega arith) (h j m) ∙ sym (byte_bit f v j m))

-- equal rows pass the same tests
pub row_same : (f g : ℕ → Bool) (n : ℕ) → row f n ≡ row g n → (v : ℕ) → v < 8 * n → f v ≡ g v
row_same f g n e v l = sym (member_row f n v l) ∙ ap (λ (s : List ℕ). member s v) e ∙ member_row g n v l

pub row_ext : (f g : ℕ → Bool) (n : ℕ) → ((v : ℕ) → f v ≡ g v) → row f n ≡ row g n
row_ext f g n h = ap (λ (k : ℕ → Bool). row k n) (fun_ext h)

-- bytes with the members of a test are its row
pub row_told : (f : ℕ → Bool) (n : ℕ) (s : List ℕ) → Bytes s → length s ≡ n → ((v : ℕ) → v < 8 * n → member s v ≡ f v) → s ≡ row f n
row_told f n s b e h =
    ext_get_or 0 s (row f n) (e ∙ sym (row_from-length f 0 n))
    (λ k l.
    byte_told f (0 + 8 * k) (get_or s k 0) (b k)
    (λ j m.
    let q : k ≡ (0 + 8 * k + j) / 8 = omega arith in
    let r : j ≡ (0 + 8 * k + j) % 8 = omega arith in
    ap₂ (λ (i o : ℕ). eqb (get_or s i 0 / 2 ^ o % 2) 1) q r ∙ h (0 + 8 * k + j) (omega arith))
    ∙ sym (row_from-byte f 0 n k (omega arith)))

-- one member more
eqb_plus : (b i j : ℕ) → eqb (b + i) (b + j) ≡ eqb i j
eqb_plus b i j =
    bool_ext (eqb (b + i) (b + j)) (eqb i j)
    (λ h. let e = eqb-true (b + i) (b + j) h in eq-eqb i j (omega arith))
    (λ h. let e = eqb-true i j h in eq-eqb (b + i) (b + j) (omega arith))

eqb_first : (b j : ℕ) → eqb b (b + j) ≡ eqb 0 j
eqb_first b j = ap (λ (k : ℕ). eqb k (b + j)) (omega arith) ∙ eqb_plus b 0 j

one_bit : (b j : ℕ) → j < 8 → 2 ^ j ≡ row_byte (λ u. eqb u (b + j)) b
one_bit b =
    eight (λ j. 2 ^ j ≡ row_byte (λ u. eqb u (b + j)) b)
    (simp (eqb_first, eqb_plus)) (simp (eqb_first, eqb_plus)) (simp (eqb_first, eqb_plus)) (simp (eqb_first, eqb_plus))
    (simp (eqb_first, eqb_plus)) (simp (eqb_first, eqb_plus)) (simp (eqb_first, eqb_plus)) (simp (eqb_first, eqb_plus))

-- the byte that the member is in, and the others
byte_with : (f : ℕ → Bool) (b j v : ℕ) → j < 8 → b + j ≡ v → bit_or (row_byte f b) (2 ^ j) ≡ row_byte (λ u. eqb u v || f u) b
byte_with f b j v l e =
    or_comm (row_byte f b) (2 ^ j)
    ∙ ap (λ (x : ℕ). bit_or x (row_byte f b)) (one_bit b j l)
    ∙ byte_or (λ u. eqb u (b + j)) f b
    ∙ ap (λ (w : ℕ). row_byte (λ u. eqb u w || f u) b) e

byte_without : (f : ℕ → Bool) (b v : ℕ) → ((j : ℕ) → j < 8 → b + j ≡ v → ⊥) → row_byte f b ≡ row_byte (λ u. eqb u v || f u) b
byte_without f b v h =
    byte_told (λ u. eqb u v || f u) b (row_byte f b) (byte_small f b)
    (λ j l.
    ap (λ (k : ℕ). eqb k 1) (byte_bit f b j l) ∙ bit_test (f (b + j))
    ∙ ap (λ (t : Bool). t || f (b + j)) (sym (ne_eqb (b + j) v (h j l))))

pub row_with : (f : ℕ → Bool) (n v : ℕ) → v < 8 * n → with_member (row f n) v ≡ row (λ u. eqb u v || f u) n
row_with f n v h =
    let g : ℕ → Bool = λ u. eqb u v || f u in
    let x = bit_or (get_or (row f n) (v / 8) 0) (2 ^ (v % 8)) in
    let long = row_from-length f 0 n in
    ext_get_or 0 (with_member (row f n) v) (row g n) (length-set (row f n) (v / 8) x ∙ long ∙ sym (row_from-length g 0 n))
    (λ k l.
    let m : k < n = omega (arith, length-set (row f n) (v / 8) x) in
    elim (ℕ_discrete k (v / 8)) [
      | yes e ↦
          ap (λ (i : ℕ). get_or (with_member (row f n) v) i 0) e
          ∙ get_or-set_same (row f n) (v / 8) x 0 (omega arith)
          ∙ ap (λ (i : ℕ). bit_or (get_or (row f n) i 0) (2 ^ (v % 8))) (sym e)
          ∙ ap (λ (y : ℕ). bit_or y (2 ^ (v % 8))) (row_from-byte f 0 n k m)
          ∙ byte_with f (0 + 8 * k) (v % 8) v (omega arith) (omega arith)
          ∙ sym (row_from-byte g 0 n k m)
      | no d ↦
          get_or-set_other (row f n) (v / 8) k x 0 d
          ∙ row_from-byte f 0 n k m
          ∙ byte_without f (0 + 8 * k) v (omega arith)
          ∙ sym (row_from-byte g 0 n k m)
    ])

-- no member from a number on
pub none_false : (s : List ℕ) (n v : ℕ) → none_from s n ≡ true → n ≤ v → member s v ≡ false
none_false s n v h l =
    let low = eqb (get_or s (n / 8) 0 / 2 ^ (n % 8)) 0 in
    let rest = all_zero (drop (n / 8 + 1) s) in
    let first = eqb-true _ _ (and_l low rest h) in
    let later = zero_at (drop (n / 8 + 1) s) (and_r low rest h) in
    let none : get_or s (v / 8) 0 / 2 ^ (v % 8) ≡ 0 =
    elim (ℕ_discrete (v / 8) (n / 8)) [
      | yes e ↦
          ap₂ (λ (k j : ℕ). get_or s k 0 / 2 ^ j) e (omega arith)
          ∙ sym (shr-shr (get_or s (n / 8) 0) (n % 8) (v % 8 - n % 8))
          ∙ ap (λ (x : ℕ). x / 2 ^ (v % 8 - n % 8)) first
          ∙ zero-div (2 ^ (v % 8 - n % 8))
      | no d ↦
          ap (λ (k : ℕ). get_or s k 0 / 2 ^ (v % 8)) (omega arith)
          ∙ ap (λ (x : ℕ). x / 2 ^ (v % 8)) (sym (get_or-drop (n / 8 + 1) s (v / 8 - (n / 8 + 1)) 0) ∙ later (v / 8 - (n / 8 + 1)))
          ∙ zero-div (2 ^ (v % 8))
    ]
    in
    ap (λ (x : ℕ). eqb (x % 2) 1) none

byte_none : (f : ℕ → Bool) (b i : ℕ) → i < 8 → ((u : ℕ) → b + i ≤ u → f u ≡ false) → row_byte f b / 2 ^ i ≡ 0
byte_none f b i l h =
    let e : 8 - i + i ≡ 8 = omega arith in
    bits_told (8 - i) (row_byte f b / 2 ^ i) 0 (shr_lt (8 - i) i (rw e (byte_small f b))) (pow_pos (8 - i))
    (λ j m.
    ap (λ (x : ℕ). x % 2) (shr-shr (row_byte f b) i j)
    ∙ byte_bit f b (i + j) (omega arith)
    ∙ ap bit (h (b + (i + j)) (omega arith))
    ∙ sym (ap (λ (x : ℕ). x % 2) (zero-div (2 ^ j))))

row_none : (f : ℕ → Bool) (n k j : ℕ) → j < 8 → ((u : ℕ) → 8 * k + j ≤ u → f u ≡ false) → get_or (row f n) k 0 / 2 ^ j ≡ 0
row_none f n k j m h =
    elim (dec_lt k n) [
      | yes l ↦ ap (λ (x : ℕ). x / 2 ^ j) (row_from-byte f 0 n k l) ∙ byte_none f (0 + 8 * k) j m (λ u q. h u (omega arith))
      | no l ↦
          ap (λ (x : ℕ). x / 2 ^ j) (get_or-eq_default (row f n) 0 {n = k} (rw row_from-length (omega arith))) ∙ zero-div (2 ^ j)
    ]

pub none_row : (f : ℕ → Bool) (n k : ℕ) → ((v : ℕ) → k ≤ v → f v ≡ false) → none_from (row f n) k ≡ true
none_row f n k h =
    and_i (eqb (get_or (row f n) (k / 8) 0 / 2 ^ (k % 8)) 0) (all_zero (drop (k / 8 + 1) (row f n)))
    (eq-eqb (get_or (row f n) (k / 8) 0 / 2 ^ (k % 8)) 0 (row_none f n (k / 8) (k % 8) (omega arith) (λ u l. h u (omega arith))))
    (zero_of (drop (k / 8 + 1) (row f n))
    (λ i _.
    get_or-drop (k / 8 + 1) (row f n) i 0
    ∙ omega (arith, row_none f n (k / 8 + 1 + i) 0 (omega arith) (λ u l. h u (omega arith)))))
