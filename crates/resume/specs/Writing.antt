-- The header of the store of a tape's room as it is written behind its versions.
use Rattle.std.specs.Prelude.{ℕ, List}
use Rattle.buffer.specs.Field.{put_word, part, with_part}
use Rattle.store.specs.Layout.{count_at, commons_at, commons_size}

-- the store with its count of versions and the table of commons of a header
unfoldable pub with_header : List ℕ → ℕ → List ℕ → List ℕ
with_header s count header = with_part (put_word s count_at count) commons_at (part header commons_at commons_size)
