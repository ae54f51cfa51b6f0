-- "eight bytes read as one little-endian word hold 64 versions in order": the word at the front of a list of bytes.
use Rattle.std.specs.Prelude.{ℕ, ◌+◌, ◌*◌, List, get_or}

abbrev pub long_word : List ℕ → ℕ
long_word s =
    get_or s 0 0 + get_or s 1 0 * 0x100 + get_or s 2 0 * 0x10000 + get_or s 3 0 * 0x1000000
    + get_or s 4 0 * 0x100000000 + get_or s 5 0 * 0x10000000000 + get_or s 6 0 * 0x1000000000000 + get_or s 7 0 * 0x100000000000000
