-- The two bytes of a 16-bit field turned round: what a read of the field gives that takes the low byte first.
use Rattle.std.specs.Prelude.{ℕ, ◌+◌, ◌*◌, ◌/◌}
use Rattle.buffer.specs.Field.{byte}

abbrev pub swapped : ℕ → ℕ
swapped x = byte x * 256 + byte (x / 256)
