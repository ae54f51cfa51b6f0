-- Refusal 9 as it is tested while a tape is read: version by version, and then head by head, from the front.
use Rattle.std.specs.Prelude.{ℕ, Bool, ◌&&◌, eqb, ltb}
use Rattle.std.specs.Prelude.{Option as Found, Some, None}
use Rattle.graph.specs.declared.Console.{Console}
use Rattle.graph.specs.Graph.{Graph, every_version, parents_lower}
use Rattle.command.specs.Code.{is_console}
use Rattle.room.specs.Sound.{entry_in_range}

-- "a parent not below its own version, an entry code, strip or operand out of range": of all versions
abbrev pub versions_in_range : Graph → Bool
versions_in_range g = every_version parents_lower g && every_version entry_in_range g

-- "the first console not 0, a console not above the one before it or above 15": console c as that of the first head, or as that behind console last
abbrev pub console_follows : Found Console → ℕ → Bool
console_follows None c = eqb c 0
console_follows (Some last) c = ltb last.0 c && is_console c

-- and "a head that names no version": of console c on version v, where there are `count` versions
abbrev pub head_in_range : Found Console → ℕ → ℕ → ℕ → Bool
head_in_range last count c v = console_follows last c && ltb v count
