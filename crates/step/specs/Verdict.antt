-- What the code answers to which two consoles can merge or fast-forward, in the words of the room's definitions, whose numbers it has.
use Rattle.std.specs.Prelude.{ℕ, Option, Some, None}
use Rattle.room.specs.Mergeable as room
use Rattle.step.specs.declared.verdict.Way.{Way}
use Rattle.step.specs.declared.verdict.Way.TheVariants as by
use Rattle.step.specs.declared.verdict.Pair.{Pair}
use Rattle.step.specs.declared.verdict.Verdict.{Verdict}
use Rattle.step.specs.declared.verdict.Verdict.TheVariants.{AllAgree, Stuck, First}

abbrev pub way_verdict : Way → ℕ → ℕ → room.Verdict
way_verdict by.Merge receiver giver = room.merge receiver giver
way_verdict by.FastForward receiver giver = room.fast_forward receiver giver

abbrev pub pair_verdict : Pair → room.Verdict
pair_verdict pair = way_verdict pair.way pair.receiver.0 pair.giver.0

abbrev pub verdict_of : Verdict → room.Verdict
verdict_of AllAgree = room.all_agree
verdict_of Stuck = room.stuck
verdict_of (First pair) = pair_verdict pair

-- "Its number is 256 × the kind (0 all agree, 1 stuck, 2 merge, 3 fast-forward), and for a pair 16 × receiver + giver more."
abbrev pub number_of_verdict : Verdict → ℕ
number_of_verdict verdict = room.number_of (verdict_of verdict)

-- the number of a pair that was looked for; 0 where there is none
abbrev pub number_of_found : Option Pair → ℕ
number_of_found None = 0
number_of_found (Some pair) = room.number_of (pair_verdict pair)
