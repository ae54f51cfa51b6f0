-- The number of a refusal is never 0, which is what is told where nothing is refused.
-- Assumes nothing.
use Prim.Native.Nat.{◌<◌}
use native.Mathlib.Omega.{arith}
use Rattle.refusal.specs.declared.Refusal.{Refusal}
use Rattle.refusal.specs.declared.Refusal.TheVariants.{NoCommand, WrongLength, ConsoleTooHigh, StripTooHigh, OperandTooHigh, SameConsole, BrokenTape, BadCapacity, TapeOutOfRange, TapeNotSound, NoStore, ConsoleAbsent, ConsolePresent, GiverBehind, ReceiverBehind, NotBehind, ThirdConsole, Full, BufferTooShort, Console0Leaves, BehindNoOther, NotThroughHub, HubLacksCommon}
use Rattle.refusal.specs.Answer.{number_of}

pub number_given : (refusal : Refusal) → 0 < number_of refusal
number_given NoCommand = omega arith
number_given WrongLength = omega arith
number_given ConsoleTooHigh = omega arith
number_given StripTooHigh = omega arith
number_given OperandTooHigh = omega arith
number_given SameConsole = omega arith
number_given BrokenTape = omega arith
number_given BadCapacity = omega arith
number_given TapeOutOfRange = omega arith
number_given TapeNotSound = omega arith
number_given NoStore = omega arith
number_given ConsoleAbsent = omega arith
number_given ConsolePresent = omega arith
number_given GiverBehind = omega arith
number_given ReceiverBehind = omega arith
number_given NotBehind = omega arith
number_given ThirdConsole = omega arith
number_given Full = omega arith
number_given BufferTooShort = omega arith
number_given Console0Leaves = omega arith
number_given BehindNoOther = omega arith
number_given NotThroughHub = omega arith
number_given HubLacksCommon = omega arith
