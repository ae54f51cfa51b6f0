-- What is told of a refusal: its number, and 0 where nothing is refused.
use Rattle.std.specs.Prelude.{ℕ, Result, Ok, Err}
use Rattle.refusal.specs.declared.Refusal.{Refusal}
use Rattle.refusal.specs.declared.Refusal.TheVariants.{NoCommand, WrongLength, ConsoleTooHigh, StripTooHigh, OperandTooHigh, SameConsole, BrokenTape, BadCapacity, TapeOutOfRange, TapeNotSound, NoStore, ConsoleAbsent, ConsolePresent, GiverBehind, ReceiverBehind, NotBehind, ThirdConsole, Full, BufferTooShort, Console0Leaves, BehindNoOther, NotThroughHub, HubLacksCommon}

abbrev pub number_of : Refusal → ℕ
number_of NoCommand = 1
number_of WrongLength = 2
number_of ConsoleTooHigh = 3
number_of StripTooHigh = 4
number_of OperandTooHigh = 5
number_of SameConsole = 6
number_of BrokenTape = 7
number_of BadCapacity = 8
number_of TapeOutOfRange = 9
number_of TapeNotSound = 10
number_of NoStore = 11
number_of ConsoleAbsent = 12
number_of ConsolePresent = 13
number_of GiverBehind = 14
number_of ReceiverBehind = 15
number_of NotBehind = 16
number_of ThirdConsole = 17
number_of Full = 18
number_of BufferTooShort = 19
number_of Console0Leaves = 20
number_of BehindNoOther = 21
number_of NotThroughHub = 22
number_of HubLacksCommon = 23

-- the answer of a call that ends so: 0, or the number of its refusal
abbrev pub answer_of : {A : Type 0} → Result A Refusal → ℕ
answer_of (Ok _) = 0
answer_of (Err refusal) = number_of refusal
