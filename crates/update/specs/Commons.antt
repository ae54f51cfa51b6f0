-- What the code writes into the table of common versions for one console. That this gives the encoding of the room in which the console
-- has moved or left is a theorem, so a reader need not believe this file.
use Rattle.std.specs.Prelude.{ℕ, zero, suc, max, cond, List, eqb}
use Rattle.buffer.specs.Field.{put_word}
use Rattle.store.specs.Layout.{common_at, head_at}
use Rattle.store.specs.Check.{common_in}

-- a field written at both of its places
abbrev pub put_common : List ℕ → ℕ → ℕ → ℕ → List ℕ
put_common s c k x = put_word (put_word s (common_at c k) x) (common_at k c) x

-- the field of console c with another console k written at both of its places; its field with itself is its head, and stays
unfoldable pub put_other : List ℕ → ℕ → ℕ → ℕ → List ℕ
put_other s c k x = cond (eqb k c) s (put_common s c k x)

-- the fields of console c with each other one of the first n consoles, as a function says
unfoldable pub put_others : List ℕ → ℕ → (ℕ → ℕ) → ℕ → List ℕ
put_others s c field zero = s
put_others s c field (suc n) = put_other (put_others s c field n) c n (field n)

-- the later of what c and d have in common with k: the higher of the two fields
abbrev pub joined_field : List ℕ → ℕ → ℕ → ℕ → ℕ
joined_field s c d k = max (common_in s c k) (common_in s d k)

-- the head of console c
abbrev pub put_head : List ℕ → ℕ → ℕ → List ℕ
put_head s c field = put_word s (head_at c) field
