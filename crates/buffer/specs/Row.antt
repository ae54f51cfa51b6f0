-- "one bit per version": a set of numbers as a row of bits, eight to a byte, the lowest number in the lowest bit of the first byte.
use Rattle.std.specs.Prelude.{ℕ, zero, suc, ◌+◌, ◌*◌, ◌/◌, ◌%◌, ◌^◌, Bool, true, false, ◌&&◌, List, [], ◌∷◌, eqb, get_or, set, drop}
use Rattle.std.specs.Int.Bits.{bit_and, bit_or}
use Rattle.std.specs.Int.Count.{ones}
use Rattle.buffer.specs.Field.{all_zero}

-- how many bytes a whole row has, with a bit for each of 1,024 numbers
abbrev pub row_width : ℕ
row_width = 128

abbrev pub bit : Bool → ℕ
bit true = 1
bit false = 0

-- the byte that has the bits of v to v + 7
abbrev pub row_byte : (ℕ → Bool) → ℕ → ℕ
row_byte f v =
    bit (f v) + 2 * bit (f (v + 1)) + 4 * bit (f (v + 2)) + 8 * bit (f (v + 3))
    + 16 * bit (f (v + 4)) + 32 * bit (f (v + 5)) + 64 * bit (f (v + 6)) + 128 * bit (f (v + 7))

-- n bytes of the row, from the one whose lowest bit is v's
unfoldable pub row_from : (ℕ → Bool) → ℕ → ℕ → List ℕ
row_from f v zero = []
row_from f v (suc n) = row_byte f v ∷ row_from f (v + 8) n

-- the row of the members below 8 times n
abbrev pub row : (ℕ → Bool) → ℕ → List ℕ
row f n = row_from f 0 n

-- v is a member of the row
abbrev pub member : List ℕ → ℕ → Bool
member s v = eqb (get_or s (v / 8) 0 / (2 ^ (v % 8)) % 2) 1

-- the row with v as a member besides
abbrev pub with_member : List ℕ → ℕ → List ℕ
with_member s v = set s (v / 8) (bit_or (get_or s (v / 8) 0) (2 ^ (v % 8)))

-- two rows put together byte by byte
unfoldable pub bytewise : (ℕ → ℕ → ℕ) → List ℕ → List ℕ → List ℕ
bytewise f [] t = []
bytewise f (x ∷ s) [] = []
bytewise f (x ∷ s) (y ∷ t) = f x y ∷ bytewise f s t

abbrev pub union : List ℕ → List ℕ → List ℕ
union s t = bytewise bit_or s t

abbrev pub intersection : List ℕ → List ℕ → List ℕ
intersection s t = bytewise bit_and s t

-- no member is n or above
abbrev pub none_from : List ℕ → ℕ → Bool
none_from s n = eqb (get_or s (n / 8) 0 / (2 ^ (n % 8))) 0 && all_zero (drop (n / 8 + 1) s)

-- how many members a row has: the ones of its bytes
unfoldable pub member_count : List ℕ → ℕ
member_count [] = 0
member_count (x ∷ s) = ones x + member_count s
