-- Parts of a list: what stands in one, and what a list that grows by parts begins with.
-- Assumes nothing.
use Prim.Native.Nat.{ℕ, suc, ◌+◌, ◌-◌, ◌<◌, ◌≤◌}
use mathlib.Core.Path.{◌≡◌, ◌∙◌}
use mathlib.Core.List.{List, [], ◌∷◌, ◌++◌, append_assoc}
use native.Mathlib.Omega.{arith}
use lib.ListN.{length, get_or, take, drop, length-append, take-append-drop, length-drop, drop_of_length-le}
use lib.Seq.{get_or-take, get_or-drop, length-take-le, take_at, take_all, drop-cons, drop-drop}

-- an element of the n elements from a place on
pub part_at : (s : List ℕ) (at n i : ℕ) → i < n → get_or (take n (drop at s)) i 0 ≡ get_or s (at + i) 0
part_at s at n i h = get_or-take n (drop at s) i 0 h ∙ get_or-drop at s i 0

-- a list begins with its first elements and the part that was put behind them
pub take_put : (s ys rest : List ℕ) (at n : ℕ) → at ≤ length s → at + length ys ≡ n → take n (take at s ++ (ys ++ rest)) ≡ take at s ++ ys
take_put s ys rest at n h e =
    rw (← append_assoc (take at s) ys rest) (take_at (take at s ++ ys) rest n (rw (length-append, length-take-le at s) e))

-- a list is what lies before a part, the part, and what lies behind it
pub three_parts : (s : List ℕ) (at n : ℕ) → take at s ++ (take n (drop at s) ++ drop (at + n) s) ≡ s
three_parts s at n = rw (← drop-drop n at s, take-append-drop n (drop at s), take-append-drop at s)

-- what lies from a place on, cut at the list's end
pub rest_all : (s : List ℕ) (at : ℕ) → take (length s - at) (drop at s) ≡ drop at s
rest_all s at = take_all (length s - at) (drop at s) (rw length-drop (omega arith))

-- A list that grew at its front: the first that came are the last that it has.
module _ {ℓ} {A : Type ℓ} where
  -- of as many as there are, all
  pub all_first : (xs : List A) → drop (length xs - length xs) xs ≡ xs
  all_first xs = let none_left : length xs - length xs ≡ 0 = omega arith in rw none_left

  pub none_first : (xs : List A) → drop (length xs - 0) xs ≡ []
  none_first xs = drop_of_length-le xs {i = length xs - 0} (omega arith)

  -- one more than k: the next one, and the first k
  pub one_more : (xs : List A) (k : ℕ) (d : A) → k < length xs
      → drop (length xs - suc k) xs ≡ get_or xs (length xs - suc k) d ∷ drop (length xs - k) xs
  one_more xs k d l =
      let step : suc (length xs - suc k) ≡ length xs - k = omega arith in
      rw step at (drop-cons xs (length xs - suc k) d (omega arith))
