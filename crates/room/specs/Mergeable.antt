-- "A student presses merge and gets 17, again and again." Which two consoles can merge or fast-forward, and the number that says it.
use Rattle.std.specs.Prelude.{ℕ, ◌+◌, ◌*◌, Bool, true, cond, ◌||◌, eqb}
use Rattle.graph.specs.Below.{every_below, first_nonzero}
use Rattle.command.specs.declared.Command.{Command}
use Rattle.command.specs.declared.Command.TheVariants.{Merge, FastForward}
use Rattle.refusal.specs.Refusal.{first_refusal}
use Rattle.command.specs.Code.{console_count}
use Rattle.room.specs.Room.{Room, head}
use Rattle.room.specs.Step.{absent, state_tests}

-- "the first pair .. for which a merge or fast-forward would be accepted .., and which of the two it is. If there is none it says "all
-- agree" .., else "stuck".": a pair is a receiver and a giver
pub data Verdict : Type 0 where
  all_agree : Verdict
  stuck : Verdict
  merge : ℕ → ℕ → Verdict
  fast_forward : ℕ → ℕ → Verdict

-- "Its number is 256 × the kind (0 all agree, 1 stuck, 2 merge, 3 fast-forward), and for a pair 16 × receiver + giver more."
abbrev pub number_of : Verdict → ℕ
number_of all_agree = 256 * 0
number_of stuck = 256 * 1
number_of (merge receiver giver) = 256 * 2 + 16 * receiver + giver
number_of (fast_forward receiver giver) = 256 * 3 + 16 * receiver + giver

-- "would be accepted if versions were free": the command's own tests in the state of the room, told that a version is free, refuse nothing
abbrev pub accepted_if_free : Room → Command → Bool
accepted_if_free r c = eqb (first_refusal (state_tests r true c)) 0

-- the two commands over a receiver and a giver, by their numbers
abbrev pub merge_of_two : ℕ → ℕ → Command
merge_of_two receiver giver = Merge (record { 0 = receiver }) (record { 0 = giver })

abbrev pub forward_of_two : ℕ → ℕ → Command
forward_of_two receiver giver = FastForward (record { 0 = receiver }) (record { 0 = giver })

abbrev pub can_merge : Room → ℕ → ℕ → Bool
can_merge r receiver giver = accepted_if_free r (merge_of_two receiver giver)

abbrev pub can_fast_forward : Room → ℕ → ℕ → Bool
can_fast_forward r receiver giver = accepted_if_free r (forward_of_two receiver giver)

-- the number of a pair "for which a merge or fast-forward would be accepted", at most one of the two; 0, which is no pair's, for any other,
-- and for the same console twice, which is refused by the command's bytes alone (6)
unfoldable pub pair_number : Room → ℕ → ℕ → ℕ
pair_number r receiver giver =
    cond (eqb receiver giver) 0
    (cond (can_merge r receiver giver) (number_of (merge receiver giver))
    (cond (can_fast_forward r receiver giver) (number_of (fast_forward receiver giver)) 0))

-- the number of the first pair with this receiver, or 0
abbrev pub first_with_receiver : Room → ℕ → ℕ
first_with_receiver r receiver = first_nonzero console_count (pair_number r receiver)

-- "the first pair (receiver, then giver, both rising)"; 0 where there is none
unfoldable pub first_pair : Room → ℕ
first_pair r = first_nonzero console_count (first_with_receiver r)

-- "every head is one version": that of console 0, which is always present
abbrev pub agrees : Room → ℕ → Bool
agrees r c = absent r c || eqb (head r c) (head r 0)

unfoldable pub heads_agree : Room → Bool
heads_agree r = every_below console_count (agrees r)

-- "If there is none it says "all agree" when every head is one version, else "stuck"."
abbrev pub without_pair : Room → ℕ
without_pair r = number_of (cond (heads_agree r) all_agree stuck)

unfoldable pub mergeable : Room → ℕ
mergeable r = cond (eqb (first_pair r) 0) (without_pair r) (first_pair r)
