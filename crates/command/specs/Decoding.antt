-- What the contracts of the decoder's parts and of its callers cite: the bound on widths, and what is true of the numbers of a command that
-- passed their tests.
use Rattle.std.specs.Prelude.{ℕ, ◌<◌, ◌≤◌, ◌≡◌, true, ◌&&◌, Option, Some, None}
use Rattle.command.specs.declared.Widths.{Widths}
use Rattle.command.specs.declared.Command.{Command}
use Rattle.command.specs.declared.Command.TheVariants.{Fork, Entry, Merge, FastForward, Leave, MakeHub}
use Rattle.command.specs.Code.{console_count, is_entry_code, is_strip, is_operand}

-- no operand is wider than two bytes
abbrev pub narrow : Option Widths → Type 0
narrow None = Unit {0}
narrow (Some w) = (w.first ≤ 2) × (w.second ≤ 2) × (w.third ≤ 2) × (w.fourth ≤ 2)

-- two different consoles
abbrev pub TwoConsoles : ℕ → ℕ → Type 0
TwoConsoles c d = (c < console_count) × (d < console_count) × (c ≡ d → ⊥)

-- the numbers of a command in the ranges of its code
abbrev pub InRange : Command → Type 0
InRange (Fork new old) = TwoConsoles new.0 old.0
InRange (Entry console code strip operand) =
    (console.0 < console_count) × (is_entry_code code && is_strip strip.0 && is_operand code operand ≡ true)
InRange (Merge receiver giver) = TwoConsoles receiver.0 giver.0
InRange (FastForward receiver giver) = TwoConsoles receiver.0 giver.0
InRange (Leave console) = (console.0 < console_count) × (0 < console.0)
InRange MakeHub = Unit {0}
