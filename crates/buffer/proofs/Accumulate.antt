-- Two lists compared byte by byte with no early exit: the differences are put together by or, and what they come to is 0 exactly when the lists are the same.
-- Assumes nothing.
use mathlib.Core.Path.{◌≡◌, refl, sym, ap, ap₂, ◌∙◌}
use mathlib.Core.Bool.{Bool, ◌&&◌, and_assoc, and-true}
use mathlib.Core.List.{List, [], ◌∷◌}
use Prim.Native.Nat.{ℕ, ◌+◌, ◌≤◌, ◌<◌}
use native.Mathlib.Nat.{suc_inj}
use native.Mathlib.Omega.{arith}
use lib.Dec.{eqb}
use lib.Bits.{bit_or, bit_xor, or_add_and, and_le_l, and_le_r, xor_add_and, xor_self}
use lib.ListN.{length, get_or, take}
use lib.Seq.{take_all}
use borrow.Author.Tests.{eqb-true, eq-eqb}
use Rattle.std.specs.List.{fold, zip}
use Rattle.laws.proofs.Logic.{and_l, and_r, and_i, bool_ext}
use Rattle.buffer.specs.Field.{same, all_zero}
use Rattle.buffer.specs.Row.{bytewise}
use Rattle.buffer.proofs.Bytewise.{bytewise_length, bytewise_at}
use Rattle.buffer.proofs.Compare.{same_more}

or_none : (a b : ℕ) → eqb (bit_or a b) 0 ≡ eqb a 0 && eqb b 0
or_none a b =
    bool_ext (eqb (bit_or a b) 0) (eqb a 0 && eqb b 0)
    (λ h.
    let z = eqb-true (bit_or a b) 0 h in
    and_i (eqb a 0) (eqb b 0)
    (eq-eqb a 0 (omega (arith, or_add_and a b, and_le_r a b)))
    (eq-eqb b 0 (omega (arith, or_add_and a b, and_le_l a b))))
    (λ h.
    let x = eqb-true a 0 (and_l (eqb a 0) (eqb b 0) h) in
    let y = eqb-true b 0 (and_r (eqb a 0) (eqb b 0) h) in
    eq-eqb (bit_or a b) 0 (omega (arith, or_add_and a b)))

xor_none : (a b : ℕ) → eqb (bit_xor a b) 0 ≡ eqb a b
xor_none a b =
    bool_ext (eqb (bit_xor a b) 0) (eqb a b)
    (λ h. let z = eqb-true (bit_xor a b) 0 h in eq-eqb a b (omega (arith, xor_add_and a b, and_le_l a b, and_le_r a b)))
    (λ h. eq-eqb (bit_xor a b) 0 (ap (bit_xor a) (sym (eqb-true a b h)) ∙ xor_self a))

-- what has been found after one more pair of bytes
abbrev pub differ : ℕ → ℕ × ℕ → ℕ
differ seen p = bit_or seen (bit_xor p.0 p.1)

-- the same where the second byte is made of two
abbrev pub differ_from : (ℕ → ℕ → ℕ) → ℕ → (ℕ × ℕ) × ℕ → ℕ
differ_from f seen p = differ seen (p.0.0, f p.0.1 p.1)

-- one more byte, where what was found is 0 exactly when the test that goes on holds
one_more : (seen x y : ℕ) (rest : Bool) → eqb (differ seen (x, y)) 0 && rest ≡ eqb seen 0 && (eqb x y && rest)
one_more seen x y rest = rw (or_none seen (bit_xor x y), xor_none x y) (and_assoc (eqb seen 0) (eqb x y) rest)

pub fold_differ : (s t : List ℕ) (seen : ℕ) → length s ≡ length t → eqb (fold differ seen (zip s t)) 0 ≡ eqb seen 0 && same s t
unfolding same
fold_differ [] [] seen e = sym (and-true (eqb seen 0))
fold_differ [] (y ∷ t) seen e = absurd (omega arith)
fold_differ (x ∷ s) [] seen e = absurd (omega arith)
fold_differ (x ∷ s) (y ∷ t) seen e = fold_differ s t (differ seen (x, y)) (suc_inj e) ∙ one_more seen x y (same s t)

pub fold_differ_from : (f : ℕ → ℕ → ℕ) (s p q : List ℕ) (seen : ℕ) → length s ≡ length p → length s ≡ length q
    → eqb (fold (differ_from f) seen (zip (zip s p) q)) 0 ≡ eqb seen 0 && same s (bytewise f p q)
unfolding same bytewise
fold_differ_from f [] [] q seen d e = sym (and-true (eqb seen 0))
fold_differ_from f [] (y ∷ p) q seen d e = absurd (omega arith)
fold_differ_from f (x ∷ s) [] q seen d e = absurd (omega arith)
fold_differ_from f (x ∷ s) (y ∷ p) [] seen d e = absurd (omega arith)
fold_differ_from f (x ∷ s) (y ∷ p) (z ∷ q) seen d e =
    fold_differ_from f s p q (differ seen (x, f y z)) (suc_inj d) (suc_inj e) ∙ one_more seen x (f y z) (same s (bytewise f p q))

pub fold_or : (s : List ℕ) (seen : ℕ) → eqb (fold bit_or seen s) 0 ≡ eqb seen 0 && all_zero s
unfolding all_zero
fold_or [] seen = sym (and-true (eqb seen 0))
fold_or (x ∷ s) seen = fold_or s (bit_or seen x) ∙ rw (or_none seen x) (and_assoc (eqb seen 0) (eqb x 0) (all_zero s))

-- the same of a loop over the places of a list: the bytes before i have been compared, and acc is 0 exactly when they are the same
pub record Compared (s t : List ℕ) (acc i : ℕ) : Type 0 where
  pub long : length s ≡ length t
  pub within : i ≤ length s
  pub found : eqb acc 0 ≡ same (take i s) (take i t)

pub compared_none : (s t : List ℕ) → length s ≡ length t → Compared s t 0 0
unfolding same
compared_none s t long = record { long = long; within = omega arith; found = refl }

pub compared_more : {s t : List ℕ} {acc i d : ℕ} → Compared s t acc i → i < length s → bit_xor (get_or s i 0) (get_or t i 0) ≡ d
    → Compared s t (bit_or acc d) (i + 1)
compared_more {s} {t} {acc} {i} {d} c h e =
    record {
      long = c.long;
      within = omega arith;
      found =
          or_none acc d
          ∙ ap₂ ◌&&◌ c.found (ap (λ (x : ℕ). eqb x 0) (sym e) ∙ xor_none (get_or s i 0) (get_or t i 0))
          ∙ sym (same_more s t i h (omega arith));
    }

pub compared_all : {s t : List ℕ} {acc i : ℕ} → Compared s t acc i → length s ≤ i → eqb acc 0 ≡ same s t
compared_all {s} {t} {acc} {i} c h = c.found ∙ ap₂ same (take_all i s h) (take_all i t (omega arith))

-- the same where the second list is two rows put together byte by byte
module _ (f : ℕ → ℕ → ℕ) (s p q : List ℕ) (first : length s ≡ length p) (second : length s ≡ length q) where
  pub paired_none : Compared s (bytewise f p q) 0 0
  paired_none = compared_none s (bytewise f p q) (omega (arith, bytewise_length f p q (omega arith)))

  pub paired_more : {acc i : ℕ} → Compared s (bytewise f p q) acc i → i < length s
      → Compared s (bytewise f p q) (bit_or acc (bit_xor (get_or s i 0) (f (get_or p i 0) (get_or q i 0)))) (i + 1)
  paired_more {acc} {i} c h =
      compared_more c h (ap (bit_xor (get_or s i 0)) (bytewise_at f p q i (omega arith) (omega arith)))
