-- Parts of a list of bytes: a list stands at a place exactly when it is the part there, lists that stand one behind the other stand
-- joined, a part is all zeros exactly when a run of zeros stands there, and a list that stands at the front was written over it.
-- Assumes nothing.
use mathlib.Core.Path.{◌≡◌, refl, sym, ap, ◌∙◌}
use mathlib.Core.Bool.{true}
use mathlib.Core.List.{List, [], ◌∷◌, ◌++◌}
use Prim.Native.Nat.{ℕ, zero, suc, ◌+◌, ◌-◌, ◌/◌, ◌≤◌, ◌<◌}
use native.Mathlib.Nat.{zero-add}
use native.Mathlib.Decide.{dec_lt}
use native.Mathlib.Omega.{arith}
use lib.Dec.{eqb}
use lib.ListN.{length, get_or, drop, length-append, length-take, length-drop, set, length-set, get_or-replicate, get_or-append, get_or-eq_default}
use lib.Seq.{get_or-append-add, get_or-drop, get_or-set_same, get_or-set_other, ext_get_or}
use borrow.Author.Tests.{eqb-true, eq-eqb}
use Rattle.laws.proofs.Lists.{part_at}
use Rattle.laws.proofs.Logic.{and_l, and_r, and_i}
use Rattle.buffer.specs.Field.{byte, word, word_at, put_word, zeros, part, overwrite, same, all_zero}
use Rattle.buffer.proofs.Fields.{zeros_length, part_length, same_refl}
use Rattle.buffer.proofs.Stands.{Stands}

-- every element is a byte
abbrev pub Bytes : List ℕ → Type 0
Bytes s = (k : ℕ) → get_or s k 0 < 256

pub part_bytes : (s : List ℕ) (at n : ℕ) → Bytes s → Bytes (part s at n)
part_bytes s at n b k =
    elim (dec_lt k n) [
      | yes l ↦ rw (part_at s at n k l) (b (at + k))
      | no l ↦ rw (get_or-eq_default (part s at n) 0 {n = k} (rw length-take (omega arith))) (omega arith)
    ]

pub rest_bytes : (s : List ℕ) (n : ℕ) → Bytes s → Bytes (drop n s)
rest_bytes s n b k = rw (get_or-drop n s k 0) (b (n + k))

-- a list that stands at a place is the part there
pub stands_part : {s : List ℕ} {at : ℕ} {xs : List ℕ} (n : ℕ) → Stands s at xs → length xs ≡ n → at + n ≤ length s → part s at n ≡ xs
stands_part {s} {at} {xs} n h e l =
    let m = part_length s at n l in
    ext_get_or 0 (part s at n) xs (m ∙ sym e) (λ i p. part_at s at n i (omega arith) ∙ h.read i (omega arith))

pub part_stands : {s : List ℕ} {at : ℕ} {xs : List ℕ} (n : ℕ) → part s at n ≡ xs → length xs ≡ n → Stands s at xs
part_stands {s} {at} n h e =
    record { read = λ i p. sym (part_at s at n i (omega arith)) ∙ ap (λ (t : List ℕ). get_or t i 0) h }

-- and one of the same length that stands at the front is the list
pub stands_all : {s xs : List ℕ} → Stands s 0 xs → length s ≡ length xs → s ≡ xs
stands_all {s} {xs} h e = ext_get_or 0 s xs e (λ i l. rw (zero-add i) at (h.read i (omega arith)))

-- lists that stand one behind the other
pub stands_join : {s : List ℕ} {at to : ℕ} (xs ys : List ℕ) → Stands s at xs → Stands s to ys → at + length xs ≡ to → Stands s at (xs ++ ys)
stands_join {s} {at} {to} xs ys h k e =
    record {
      read = λ i p.
          elim (dec_lt i (length xs)) [
            | yes l ↦ h.read i l ∙ sym (get_or-append xs ys 0 i l)
            | no l ↦
                let q : i < length xs + length ys = rw length-append at p in
                ap (λ (j : ℕ). get_or s j 0) (omega arith)
                ∙ k.read (i - length xs) (omega arith)
                ∙ sym (get_or-append-add xs ys (i - length xs) 0)
                ∙ ap (λ (j : ℕ). get_or (xs ++ ys) j 0) (omega arith)
          ];
    }

-- one byte, and the two bytes of a field
pub stands_one : {s : List ℕ} {at x : ℕ} → get_or s at 0 ≡ x → Stands s at (x ∷ [])
stands_one {s} {at} {x} e =
    record { read = λ i p. let z : i ≡ 0 = omega arith in rw z (ap (λ (k : ℕ). get_or s k 0) (omega arith) ∙ e) }

pub word_stands : {s : List ℕ} (at : ℕ) → Bytes s → Stands s at (word (word_at s at))
word_stands {s} at b =
    let hi = b at in
    let lo = b (at + 1) in
    stands_join (byte (word_at s at / 256) ∷ []) (byte (word_at s at) ∷ []) (stands_one (omega arith)) (stands_one {at = at + 1} (omega arith)) refl

-- a field that was written stands at its place
pub put_stands : (s : List ℕ) (at x : ℕ) → at + 1 < length s → Stands (put_word s at x) at (word x)
put_stands s at x l =
    stands_join (byte (x / 256) ∷ []) (byte x ∷ [])
    (stands_one
    (get_or-set_other (set s at (byte (x / 256))) (at + 1) at (byte x) 0 (omega arith)
    ∙ get_or-set_same s at (byte (x / 256)) 0 (omega arith)))
    (stands_one {at = at + 1}
    (get_or-set_same (set s at (byte (x / 256))) (at + 1) (byte x) 0 (omega (arith, length-set s at (byte (x / 256))))))
    refl

-- zeros
pub zero_at : (xs : List ℕ) → all_zero xs ≡ true → (k : ℕ) → get_or xs k 0 ≡ 0
unfolding all_zero
zero_at [] h k = refl
zero_at (x ∷ xs) h zero = eqb-true x 0 (and_l (eqb x 0) (all_zero xs) h)
zero_at (x ∷ xs) h (suc k) = zero_at xs (and_r (eqb x 0) (all_zero xs) h) k

pub zero_of : (xs : List ℕ) → ((k : ℕ) → k < length xs → get_or xs k 0 ≡ 0) → all_zero xs ≡ true
unfolding all_zero
zero_of [] h = refl
zero_of (x ∷ xs) h = and_i (eqb x 0) (all_zero xs) (eq-eqb x 0 (h 0 (omega arith))) (zero_of xs (λ k l. h (suc k) (omega arith)))

pub zero_stands : {s : List ℕ} (at n : ℕ) → all_zero (part s at n) ≡ true → Stands s at (zeros n)
zero_stands {s} at n h =
    record { read = λ i p. let l : i < n = rw zeros_length at p in sym (part_at s at n i l) ∙ zero_at (part s at n) h i ∙ sym (get_or-replicate n i 0 0 l) }

pub stands_zero : {s : List ℕ} (at n : ℕ) → Stands s at (zeros n) → all_zero (part s at n) ≡ true
stands_zero {s} at n h =
    zero_of (part s at n)
    (λ k l.
    let m : k < n = omega (arith, length-take n (drop at s)) in
    part_at s at n k m ∙ h.read k (rw zeros_length m) ∙ get_or-replicate n k 0 0 m)

-- zeros as the part itself
pub zero_part_lem : (s : List ℕ) (at n : ℕ) → at + n ≤ length s → all_zero (part s at n) ≡ true → part s at n ≡ zeros n
zero_part_lem s at n l h = stands_part n (zero_stands at n h) (zeros_length n) l

pub zero_all : (xs : List ℕ) → all_zero xs ≡ true → xs ≡ zeros (length xs)
zero_all xs h =
    ext_get_or 0 xs (zeros (length xs)) (sym (zeros_length (length xs)))
    (λ i l. zero_at xs h i ∙ sym (get_or-replicate (length xs) i 0 0 l))

pub zeros_zero : (n : ℕ) → all_zero (zeros n) ≡ true
zeros_zero n = zero_of (zeros n) (λ k l. get_or-replicate n k 0 0 (rw (zeros_length n) at l))

pub part_zero : (s : List ℕ) (at n : ℕ) → part s at n ≡ zeros n → all_zero (part s at n) ≡ true
part_zero s at n e = stands_zero at n (part_stands n e (zeros_length n))

pub same_of : (xs ys : List ℕ) → xs ≡ ys → same xs ys ≡ true
same_of xs ys e = rw e (same_refl ys)

-- the bytes behind new ones at the front
pub overwrite_behind : (new old : List ℕ) (k : ℕ) → length new ≤ k → get_or (overwrite new old) k 0 ≡ get_or old k 0
overwrite_behind new old k l =
    let at : length new + (k - length new) ≡ k = omega arith in
    sym (ap (λ (i : ℕ). get_or (overwrite new old) i 0) at)
    ∙ get_or-append-add new (drop (length new) old) (k - length new) 0
    ∙ get_or-drop (length new) old (k - length new) 0
    ∙ ap (λ (i : ℕ). get_or old i 0) at

-- a list that begins with new bytes and goes on as the old one
pub stands_overwrite : (new old s : List ℕ) → Stands s 0 new → length new ≤ length old → length s ≡ length old
    → ((k : ℕ) → length new ≤ k → get_or s k 0 ≡ get_or old k 0) → s ≡ overwrite new old
stands_overwrite new old s h fits long kept =
    ext_get_or 0 s (overwrite new old) (simp (length-append, length-drop) (omega arith))
    (λ k l.
    elim (dec_lt k (length new)) [
      | yes b ↦ rw (zero-add k) at (h.read k b) ∙ sym (get_or-append new (drop (length new) old) 0 k b)
      | no b ↦ kept k (omega arith) ∙ sym (overwrite_behind new old k (omega arith))
    ])
