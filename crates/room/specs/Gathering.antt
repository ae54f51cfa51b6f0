-- "With n consoles and n − 1 versions free, at most 2(n − 1) accepted commands bring all to one head: 0 takes from each, then each from 0."
-- The list of these commands, and what is claimed of it.
use Rattle.std.specs.Prelude.{ℕ, zero, suc, pred, ◌-◌, ◌*◌, ◌≤◌, ◌≡◌, Bool, true, cond, ◌&&◌, ◌||◌, List, [], ◌∷◌, ◌++◌, eqb, length}
use Rattle.graph.specs.Below.{count_below}
use Rattle.graph.specs.Graph.{version_count}
use Rattle.command.specs.declared.Command.{Command}
use Rattle.command.specs.Code.{console_count}
use Rattle.room.specs.Room.{Room, present}
use Rattle.room.specs.Step.{absent, behind, step_refusal, step}
use Rattle.room.specs.Mergeable.{merge_of_two, forward_of_two, agrees, heads_agree}

-- "n consoles", "versions free"
abbrev pub consoles_in : Room → ℕ
consoles_in r = count_below console_count (present r)

abbrev pub versions_free : Room → ℕ
versions_free r = r.settings.capacity - version_count r.versions

-- "0 takes from each": from console c, by a fast-forward where 0 is behind it, else by a merge; nothing where c is absent or behind 0
unfoldable pub hub_takes : Room → ℕ → List Command
hub_takes r c = cond (absent r c || behind r c 0) [] (cond (behind r 0 c) (forward_of_two 0 c) (merge_of_two 0 c) ∷ [])

-- "then each from 0": console c fast-forwards; nothing where it is absent or on 0's head
unfoldable pub hub_gives : Room → ℕ → List Command
hub_gives r c = cond (agrees r c) [] (forward_of_two c 0 ∷ [])

-- the room after these commands, which are accepted
unfoldable pub after_all : Room → List Command → Room
after_all r [] = r
after_all r (c ∷ commands) = after_all (step r c) commands

unfoldable pub all_accepted : Room → List Command → Bool
all_accepted r [] = true
all_accepted r (c ∷ commands) = eqb (step_refusal r c) 0 && all_accepted (step r c) commands

-- the commands for each of n consoles from c on, rising, each in the room that those before it made
unfoldable pub for_each : (Room → ℕ → List Command) → Room → ℕ → ℕ → List Command
for_each commands r c zero = []
for_each commands r c (suc n) = commands r c ++ for_each commands (after_all r (commands r c)) (suc c) n

abbrev pub all_taken : Room → List Command
all_taken r = for_each hub_takes r 1 (pred console_count)

unfoldable pub gathering : Room → List Command
gathering r = all_taken r ++ for_each hub_gives (after_all r (all_taken r)) 1 (pred console_count)

-- true of a sound room whose hub is console 0, with a version free for each of the other consoles
pub record Gathers (r : Room) : Type 0 where
  pub few : length (gathering r) ≤ 2 * pred (consoles_in r)
  pub accepted : all_accepted r (gathering r) ≡ true
  pub one_head : heads_agree (after_all r (gathering r)) ≡ true
  -- and nobody has left
  pub all_here : (c : ℕ) → present (after_all r (gathering r)) c ≡ present r c
