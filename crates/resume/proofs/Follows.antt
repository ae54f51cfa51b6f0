-- Consoles of head records, each tested against the one before it, rise as the tape's definition asks, which goes from the last head back.
-- Assumes nothing.
use Prim.Native.Nat.{ℕ, ◌<◌}
use mathlib.Core.Path.{◌≡◌}
use mathlib.Core.Bool.{Bool, true, ◌&&◌, and-true}
use mathlib.Core.List.{List, [], ◌∷◌}
use native.Mathlib.Nat.{not-suc-le-zero}
use lib.Dec.{eqb}
use lib.ListN.{length}
use Rattle.tape.specs.Tape.{consoles_rise}
use Rattle.std.specs.Prelude.{Option as Found, Some, None}
use Rattle.graph.specs.declared.Console.{Console}
use Rattle.resume.specs.Ranges.{console_follows}

-- the console of the last head that was read
abbrev pub last_console : List (ℕ × ℕ) → Found Console
last_console [] = None
last_console (h ∷ before) = Some (record { 0 = h.0 })

-- each head's console may follow those before it
abbrev pub rising : List (ℕ × ℕ) → Bool
rising [] = true
rising (h ∷ before) = console_follows (last_console before) h.0 && rising before

-- of one head at least
rise : (h : ℕ × ℕ) (before : List (ℕ × ℕ)) → rising (h ∷ before) ≡ consoles_rise (h ∷ before)
unfolding consoles_rise
rise h [] = and-true (eqb h.0 0)
rise h (b ∷ rest) = rw (rise b rest)

pub risen : (heads : List (ℕ × ℕ)) → 0 < length heads → rising heads ≡ consoles_rise heads
unfolding consoles_rise
risen [] l = absurd (not-suc-le-zero l)
risen (h ∷ before) l = rise h before
