-- A list with a part of it replaced: how long it is, what stands in the new part and outside it, and parts replaced one after the other.
-- Assumes nothing.
use Prim.Native.Nat.{ℕ, ◌+◌, ◌-◌, ◌/◌, ◌<◌, ◌≤◌}
use mathlib.Core.Path.{◌≡◌, refl, sym, ap, ap₂, ◌∙◌}
use mathlib.Core.List.{List, [], ◌∷◌, ◌++◌, append_assoc}
use native.Mathlib.Nat.{zero-add}
use native.Mathlib.Decide.{dec_lt}
use native.Mathlib.Numerals.{add-one}
use native.Mathlib.Omega.{arith}
use lib.ListN.{length, get_or, take, drop, set, length-append, length-drop, length-set, get_or-append}
use lib.Seq.{length-take-le, get_or-take, get_or-drop, get_or-append-add, drop-drop, take_at, drop-append-add, set_split, ext_get_or, paste}
use Rattle.laws.proofs.Lists.{part_at, take_put}
use Rattle.buffer.specs.Field.{byte, word, put_word, part, with_part, overwrite}
use Rattle.buffer.proofs.Fields.{part_length}
use Rattle.buffer.proofs.Stands.{Stands, stands_kept}

pub put_back : (s new : List ℕ) (at n : ℕ) → length new ≡ n → take at s ++ (new ++ drop n (drop at s)) ≡ with_part s at new
unfolding with_part
put_back s new at n e = rw (drop-drop n at s, e)

-- a part that stands before a place, of what lies before that place alone
pub part_before : (s : List ℕ) (at n to : ℕ) → at + n ≤ to → to ≤ length s → part (take to s) at n ≡ part s at n
part_before s at n to l m =
    let long = part_length (take to s) at n (omega (arith, length-take-le to s m)) in
    ext_get_or 0 (part (take to s) at n) (part s at n)
    (long ∙ sym (part_length s at n (omega arith)))
    (λ i k.
    let small : i < n = rw long at k in
    part_at (take to s) at n i small ∙ get_or-take to s (at + i) 0 (omega arith) ∙ sym (part_at s at n i small))

-- one element replaced
pub set_part : (s : List ℕ) (at x : ℕ) → at < length s → set s at x ≡ with_part s at (x ∷ [])
unfolding with_part
set_part s at x l = rw add-one (set_split s at x l)

-- the front replaced
pub front_part : (s new : List ℕ) → with_part s 0 new ≡ overwrite new s
unfolding with_part
front_part s new = ap (λ (k : ℕ). new ++ drop k s) (zero-add (length new))

module _ (s new : List ℕ) (at : ℕ) (fits : at + length new ≤ length s) where
  front : length (take at s) ≡ at
  front = length-take-le at s (omega arith)

  pub with_length : length (with_part s at new) ≡ length s
  unfolding with_part
  with_length = rw (length-append, length-append, front, length-drop) (omega arith)

  with_inside : (i : ℕ) → i < length new → get_or (with_part s at new) (at + i) 0 ≡ get_or new i 0
  unfolding with_part
  with_inside i l =
      let back : List ℕ = new ++ drop (at + length new) s in
      ap (λ (k : ℕ). get_or (take at s ++ back) (k + i) 0) (sym front)
      ∙ get_or-append-add (take at s) back i 0
      ∙ get_or-append new (drop (at + length new) s) 0 i l

  with_behind : (i : ℕ) → get_or (with_part s at new) (at + (length new + i)) 0 ≡ get_or s (at + (length new + i)) 0
  unfolding with_part
  with_behind i =
      let back : List ℕ = new ++ drop (at + length new) s in
      ap (λ (k : ℕ). get_or (take at s ++ back) (k + (length new + i)) 0) (sym front)
      ∙ get_or-append-add (take at s) back (length new + i) 0
      ∙ get_or-append-add new (drop (at + length new) s) i 0
      ∙ get_or-drop (at + length new) s i 0
      ∙ ap (λ (k : ℕ). get_or s k 0) (omega arith)

  with_before : (k : ℕ) → k < at → get_or (with_part s at new) k 0 ≡ get_or s k 0
  unfolding with_part
  with_before k l =
      get_or-append (take at s) (new ++ drop (at + length new) s) 0 k (rw front l) ∙ get_or-take at s k 0 l

  -- what lies outside the new part is as it was
  pub with_outside : (k : ℕ) → (at ≤ k → k < at + length new → ⊥) → get_or (with_part s at new) k 0 ≡ get_or s k 0
  with_outside k out =
      elim (dec_lt k at) [
        | yes l ↦ with_before k l
        | no l ↦
            let far : at + length new ≤ k = elim (dec_lt k (at + length new)) [ yes m ↦ absurd (out (omega arith) m) | no m ↦ omega arith ] in
            let there : at + (length new + (k - at - length new)) ≡ k = omega arith in
            rw there at (with_behind (k - at - length new))
      ]

  pub with_stands : Stands (with_part s at new) at new
  with_stands = record { read = with_inside }

  -- so is what stands apart from it
  pub with_kept : {to : ℕ} {xs : List ℕ} → Stands s to xs → ((k : ℕ) → to ≤ k → k < to + length xs → at ≤ k → k < at + length new → ⊥)
      → Stands (with_part s at new) to xs
  with_kept h apart = stands_kept h (λ k x y. with_outside k (apart k x y))

  -- so is another part
  pub with_part_lem : (to n : ℕ) → to + n ≤ length s → ((k : ℕ) → k < n → at ≤ to + k → to + k < at + length new → ⊥)
      → part (with_part s at new) to n ≡ part s to n
  with_part_lem to n l out =
      let whole = with_length in
      ext_get_or 0 (part (with_part s at new) to n) (part s to n)
      (part_length (with_part s at new) to n (omega arith) ∙ sym (part_length s to n l))
      (λ i m.
      let small : i < n = rw (part_length (with_part s at new) to n (omega arith)) at m in
      part_at (with_part s at new) to n i small ∙ with_outside (to + i) (out i small) ∙ sym (part_at s to n i small))

  -- the new part itself
  pub with_here : (n : ℕ) → length new ≡ n → part (with_part s at new) at n ≡ new
  with_here n e =
      let whole = with_length in
      let long = part_length (with_part s at new) at n (omega arith) in
      ext_get_or 0 (part (with_part s at new) at n) new (long ∙ sym e)
      (λ i m. let small : i < n = rw long at m in part_at (with_part s at new) at n i small ∙ with_inside i (omega arith))

  -- what lies behind it
  pub behind : (n to : ℕ) → at + (length new + n) ≡ to → drop to (with_part s at new) ≡ drop to s
  unfolding with_part
  behind n to e =
      let rest : List ℕ = drop (at + length new) s in
      let there : length (take at s) + (length new + n) ≡ to = omega (arith, front) in
      let here : at + length new + n ≡ to = omega arith in
      rw (← there, drop-append-add (take at s) (new ++ rest) (length new + n), drop-append-add new rest n, drop-drop n (at + length new) s, there, here)

  -- what lies before the new part and what lies behind it
  pub with_around : (to : ℕ) → at + length new ≡ to → take at (with_part s at new) ++ drop to (with_part s at new) ≡ take at s ++ drop to s
  unfolding with_part
  with_around to e =
      ap₂ ◌++◌ (take_at (take at s) (new ++ drop (at + length new) s) at front) (behind 0 to (omega arith))

  -- a part replaced twice
  with_again : (next : List ℕ) → length next ≡ length new → with_part (with_part s at new) at next ≡ with_part s at next
  unfolding with_part
  with_again next e =
      ap₂ (λ (x y : List ℕ). x ++ (next ++ y))
      (take_at (take at s) (new ++ drop (at + length new) s) at front)
      (behind 0 (at + length next) (omega arith))

  -- a part replaced, and then the one behind it
  pub with_next : (to : ℕ) (next : List ℕ) → at + length new ≡ to → with_part (with_part s at new) to next ≡ with_part s at (new ++ next)
  unfolding with_part
  with_next to next e =
      ap₂ (λ (x y : List ℕ). x ++ (next ++ y))
      (take_put s new (drop (at + length new) s) at to (omega arith) e)
      (behind (length next) (to + length next) (omega arith))
      ∙ append_assoc (take at s) new (next ++ drop (to + length next) s)
      ∙ rw (length-append new next, append_assoc new next)
      (let there : to + length next ≡ at + (length new + length next) = omega arith in rw there)

-- a 16-bit field is the part of its two bytes
pub word_part : (s : List ℕ) (at x : ℕ) → at + 1 < length s → put_word s at x ≡ with_part s at (word x)
word_part s at x inside =
    let high : ℕ = byte (x / 256) in
    set_part (set s at high) (at + 1) (byte x) (omega (arith, length-set s at high))
    ∙ ap (λ (t : List ℕ). with_part t (at + 1) (byte x ∷ [])) (set_part s at high (omega arith))
    ∙ with_next s (high ∷ []) at (omega arith) (at + 1) (byte x ∷ []) refl

-- the n bytes at a place that were lent, and came back as they are now
pub put_lent : (s new xs : List ℕ) (at to n : ℕ) → at ≡ to → new ≡ xs → length xs ≡ n
    → take at s ++ (new ++ drop (at + n - at) (drop at s)) ≡ with_part s to xs
put_lent s new xs at to n a e l =
    let count : at + n - at ≡ n = omega arith in
    rw (count, e, a) (put_back s xs to n l)

-- the same, where they had been copied from another place and were changed
pub changed_lent : (s t new : List ℕ) (f : List ℕ → List ℕ) (from at to n : ℕ) → at ≡ to → from + n ≤ length s → to + n ≤ length s
    → ((x : List ℕ) → length x ≡ n → length (f x) ≡ n) → t ≡ with_part s to (part s from n) → new ≡ f (take (at + n - at) (drop at t))
    → take at t ++ (new ++ drop (at + n - at) (drop at t)) ≡ with_part s to (f (part s from n))
changed_lent s t new f from at to n a read write keeps e g =
    let copied : List ℕ = part s from n in
    let long : length copied ≡ n = part_length s from n read in
    let count : at + n - at ≡ n = omega arith in
    let same : new ≡ f copied = g ∙ rw (count, a, e) (ap f (with_here s copied to (omega arith) n long)) in
    put_lent t new (f copied) at to n a same (keeps copied long)
    ∙ rw e (with_again s copied to (omega arith) (f copied) (keeps copied long ∙ sym long))

-- the n bytes at one place copied to another
pub pasted : (s : List ℕ) (from to n : ℕ) → from + n ≤ length s → paste s to (drop from s) (from + n - from) ≡ with_part s to (part s from n)
unfolding with_part
pasted s from to n read =
    let count : from + n - from ≡ n = omega arith in
    rw (count, part_length s from n read) (append_assoc (take to s) (part s from n) (drop (to + n) s))
