-- A list written over from the front, byte by byte, with another of its length.
-- Assumes nothing.
use mathlib.Core.Path.{◌≡◌, refl, sym, ap, ap₂, ◌∙◌}
use mathlib.Core.List.{List, ◌∷◌, ◌++◌, append-nil}
use Prim.Native.Nat.{ℕ, suc, ◌+◌, ◌≤◌, ◌<◌}
use native.Mathlib.Numerals.{add-one}
use native.Mathlib.Omega.{arith}
use lib.ListN.{length, get_or, take, drop, set, length-set, drop_of_length-le}
use lib.Seq.{take_all, take-suc, drop-cons, append_snoc, length-take-le, set_at, get_or_at}

-- t is old with its bytes before i replaced by those of new
pub record Written (old new : List ℕ) (i : ℕ) (t : List ℕ) : Type 0 where
  pub long : length old ≡ length new
  pub kept : length t ≡ length old
  pub within : i ≤ length old
  pub reads : t ≡ take i new ++ drop i old

pub written_none : (old new : List ℕ) → length old ≡ length new → Written old new 0 old
written_none old new e = record { long = e; kept = refl; within = omega arith; reads = refl }

module _ {old new : List ℕ} {i : ℕ} {t : List ℕ} (w : Written old new i t) where
  next : i < length old → t ≡ take i new ++ get_or old i 0 ∷ drop (suc i) old
  next h = w.reads ∙ ap (take i new ++◌) (drop-cons old i 0 h)

  front : length (take i new) ≡ i
  front = length-take-le i new (omega arith)

  -- what has not been written yet
  pub written_ahead : i < length old → get_or t i 0 ≡ get_or old i 0
  written_ahead h = rw (next h) (get_or_at (take i new) (get_or old i 0) (drop (suc i) old) 0 i front)

  pub written_more : {b : ℕ} → i < length old → get_or new i 0 ≡ b → Written old new (i + 1) (set t i b)
  written_more {b} h e =
      record {
        long = w.long;
        kept = length-set t i b ∙ w.kept;
        within = omega arith;
        reads =
            rw (next h, set_at (take i new) (get_or old i 0) (drop (suc i) old) b i front, add-one, take-suc new i 0 (omega arith), e)
            (sym (append_snoc (take i new) b (drop (suc i) old)));
      }

  pub written_all : length old ≤ i → t ≡ new
  written_all h = w.reads ∙ ap₂ ◌++◌ (take_all i new (omega arith)) (drop_of_length-le old h) ∙ append-nil new
