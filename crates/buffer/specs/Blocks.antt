-- Blocks of one size, one behind the other; the size is a parameter. The store's own places do not rest on them yet.
use Rattle.std.specs.Prelude.{ℕ, zero, suc, ◌*◌, List, [], ◌++◌}
use Rattle.buffer.specs.Field.{part, with_part}

-- where block v begins, and so how many bytes v blocks have
unfoldable pub block_at : ℕ → ℕ → ℕ
block_at size v = size * v

-- block v
abbrev pub block_in : ℕ → List ℕ → ℕ → List ℕ
block_in size s v = part s (block_at size v) size

-- the list with other bytes, as many as a block has, as its block v
abbrev pub with_block : ℕ → List ℕ → ℕ → List ℕ → List ℕ
with_block size s v new = with_part s (block_at size v) new

-- n blocks, each given by its number
unfoldable pub joined : (ℕ → List ℕ) → ℕ → List ℕ
joined each zero = []
joined each (suc n) = joined each n ++ each n
