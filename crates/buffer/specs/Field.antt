-- "All 16-bit fields are big-endian." Fields of a list of bytes, parts of it, and what a write at its front leaves.
use Rattle.std.specs.Prelude.{ℕ, ◌+◌, ◌*◌, ◌/◌, ◌%◌, Bool, true, false, ◌&&◌, List, [], ◌∷◌, ◌++◌, eqb, length, get_or, take, drop, set, replicate}

-- a number cut to 8 bits
abbrev pub byte : ℕ → ℕ
byte x = x % 256

-- a number cut to 16 bits, as two bytes, high byte first
abbrev pub word : ℕ → List ℕ
word x = byte (x / 256) ∷ byte x ∷ []

-- the 16 bits that stand at a place; what lies past the end reads as 0
abbrev pub word_at : List ℕ → ℕ → ℕ
word_at s at = get_or s at 0 * 256 + get_or s (at + 1) 0

-- the list with a number's 16 bits written at a place
abbrev pub put_word : List ℕ → ℕ → ℕ → List ℕ
put_word s at x = set (set s at (byte (x / 256))) (at + 1) (byte x)

abbrev pub zeros : ℕ → List ℕ
zeros n = replicate n 0

-- the n elements from a place on
abbrev pub part : List ℕ → ℕ → ℕ → List ℕ
part s at n = take n (drop at s)

-- where in memory the byte at a place of a buffer lies, by the pointer to its first byte: a pointer is a block of memory and an offset in it
abbrev pub address_of : ℕ × ℕ → ℕ → ℕ × ℕ
address_of pointer at = (pointer.0, at + pointer.1)

-- the list with new elements in place of as many from a place on
unfoldable pub with_part : List ℕ → ℕ → List ℕ → List ℕ
with_part s at new = take at s ++ (new ++ drop (at + length new) s)

-- a buffer after new bytes were written at its front: what lies beyond them is untouched
abbrev pub overwrite : List ℕ → List ℕ → List ℕ
overwrite new old = new ++ drop (length new) old

-- two lists are the same to the byte
unfoldable pub same : List ℕ → List ℕ → Bool
same [] [] = true
same [] (y ∷ ys) = false
same (x ∷ xs) [] = false
same (x ∷ xs) (y ∷ ys) = eqb x y && same xs ys

-- every byte is 0
unfoldable pub all_zero : List ℕ → Bool
all_zero [] = true
all_zero (x ∷ xs) = eqb x 0 && all_zero xs
