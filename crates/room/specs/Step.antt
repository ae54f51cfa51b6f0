-- What each command does to a room, the refusals 12 to 18 and 21 to 23 in their order, and the clashes of a merge.
use Rattle.std.specs.Prelude.{ℕ, Bool, not, ◌&&◌, ◌||◌, List, [], ◌∷◌, ◌++◌, eqb, ltb, set}
use Rattle.std.proofs.Math.Option.{Option, none, some}
use Rattle.graph.specs.Below.{some_below}
use Rattle.graph.specs.declared.Node.{Node}
use Rattle.graph.specs.Graph.{entry, merge, version_count, ancestor, base_of}
use Rattle.command.specs.declared.Command.{Command}
use Rattle.command.specs.declared.Command.TheVariants.{Fork, Entry, Merge, FastForward, Leave, MakeHub}
use Rattle.refusal.specs.Refusal.{◌when◌, first_refusal}
use Rattle.command.specs.Code.{console_count}
use Rattle.room.specs.Room.{Room, head_of, present, head, common, with_hub}
use Rattle.room.specs.Sound.{can_make_hub}
use Rattle.room.specs.Boards.{merge_of, board_of}

abbrev pub absent : Room → ℕ → Bool
absent r c = not (present r c)

-- the head of c is an ancestor of the head of d, itself included
abbrev pub behind : Room → ℕ → ℕ → Bool
behind r c d = ancestor r.versions (head r c) (head r d)

-- neither of two versions is an ancestor of the other
abbrev pub apart : Room → ℕ → ℕ → Bool
apart r u v = not (ancestor r.versions u v) && not (ancestor r.versions v u)

-- console k is a third one whose common versions with the two are apart
abbrev pub splits : Room → ℕ → ℕ → ℕ → Bool
splits r receiver giver k =
    present r k && not (eqb k receiver) && not (eqb k giver) && apart r (common r k receiver) (common r k giver)

-- "17 merge: for some third console, its common versions with receiver and with giver are neither an ancestor of the other."
abbrev pub some_third_splits : Room → ℕ → ℕ → Bool
some_third_splits r receiver giver = some_below console_count (splits r receiver giver)

-- console d is another present one, and its head descends from the head of c, or is the same
abbrev pub other_descends : Room → ℕ → ℕ → Bool
other_descends r c d = present r d && not (eqb d c) && behind r c d

-- "provided that its head is an ancestor of another present head"
abbrev pub some_other_descends : Room → ℕ → Bool
some_other_descends r c = some_below console_count (other_descends r c)

-- the room has a hub, and console c is not it
abbrev pub beside_hub : Room → ℕ → Bool
beside_hub r c = r.settings.hub && not (eqb c 0)

-- a version is free; where none is, "18 entry or merge: no version left."
abbrev pub version_free : Room → Bool
version_free r = ltb (version_count r.versions) r.settings.capacity

-- The tests of a command in the state of a room, in their order, given whether a version is free; with `true` they say what would be
-- accepted if one were. "12 a named console is absent (fork: the old one). 13 fork's new console is present." "22 fork, merge or
-- fast-forward not through console 0, tested after 13": "one party of each merge and fast-forward is console 0, and only console 0 is forked
-- from". "14 merge or fast-forward: giver's head is an ancestor of receiver's. 15 merge: receiver's head is an ancestor of giver's. 16
-- fast-forward: receiver's head isn't an ancestor of giver's."
abbrev pub receiver_giver_tests : Room → ℕ → ℕ → List (ℕ × Bool)
receiver_giver_tests r receiver giver =
    12 when (absent r receiver || absent r giver)
    ∷ 22 when (beside_hub r receiver && beside_hub r giver)
    ∷ 14 when behind r giver receiver
    ∷ []

abbrev pub fork_tests : Room → ℕ → ℕ → List (ℕ × Bool)
fork_tests r new old = 12 when absent r old ∷ 13 when present r new ∷ 22 when beside_hub r old ∷ []

abbrev pub entry_tests : Room → Bool → ℕ → List (ℕ × Bool)
entry_tests r free console = 12 when absent r console ∷ 18 when not free ∷ []

abbrev pub merge_tests : Room → Bool → ℕ → ℕ → List (ℕ × Bool)
merge_tests r free receiver giver =
    receiver_giver_tests r receiver giver
    ++ (15 when behind r receiver giver
    ∷ 17 when some_third_splits r receiver giver
    ∷ 18 when not free
    ∷ [])

abbrev pub fast_forward_tests : Room → ℕ → ℕ → List (ℕ × Bool)
fast_forward_tests r receiver giver =
    receiver_giver_tests r receiver giver
    ++ (16 when not (behind r receiver giver)
    ∷ [])

-- "21 no other head descends from its head, tested last."
abbrev pub leave_tests : Room → ℕ → List (ℕ × Bool)
leave_tests r console = 12 when absent r console ∷ 21 when not (some_other_descends r console) ∷ []

-- "23 the room can't enter, tested last."
abbrev pub hub_tests : Room → List (ℕ × Bool)
hub_tests r = 23 when not (can_make_hub r) ∷ []

unfoldable pub state_tests : Room → Bool → Command → List (ℕ × Bool)
state_tests r free (Fork new old) = fork_tests r new.0 old.0
state_tests r free (Entry console code strip operand) = entry_tests r free console.0
state_tests r free (Merge receiver giver) = merge_tests r free receiver.0 giver.0
state_tests r free (FastForward receiver giver) = fast_forward_tests r receiver.0 giver.0
state_tests r free (Leave console) = leave_tests r console.0
state_tests r free MakeHub = hub_tests r

-- the first refusal that applies, or 0
unfoldable pub step_refusal : Room → Command → ℕ
step_refusal r c = first_refusal (state_tests r (version_free r) c)

-- console 0 is the hub
abbrev pub hub_made : Room → Room
hub_made r = record { settings = with_hub r.settings; versions = r.versions; heads = r.heads }

-- console c moves to the head given, or has none any more
abbrev pub moved : Room → ℕ → Option ℕ → Room
moved r c h = record { settings = r.settings; versions = r.versions; heads = set r.heads c h }

-- console c moves to a new version
abbrev pub grown : Room → ℕ → Node → Room
grown r c n =
    record {
      settings = r.settings;
      versions = n ∷ r.versions;
      heads = set r.heads c (some (version_count r.versions));
    }

-- "Codes 02 to 08 make an entry version on the console's head, also when nothing visible changes." "Fork gives the new console the old
-- one's head and makes no version. Fast-forward gives the receiver the giver's head and makes no version. Merge makes a version on the
-- receiver." "Code 0B with one console removes it": it has no head any more, and there is no version more or less. "Code 0C,
-- no operands, puts the room in this way for good; again, it changes nothing."
unfoldable pub step : Room → Command → Room
step r (Fork new old) = moved r new.0 (head_of r old.0)
step r (Entry console code strip operand) =
    grown r console.0 (entry (head r console.0) code strip.0 operand)
step r (Merge receiver giver) = grown r receiver.0 (merge (head r receiver.0) (head r giver.0))
step r (FastForward receiver giver) = moved r receiver.0 (head_of r giver.0)
step r (Leave console) = moved r console.0 none
step r MakeHub = hub_made r

-- "An accepted merge reports the number, 0 to 64; all other commands report 0.": of the merge whose board the new version has. What a command
-- counts where it is not refused.
unfoldable pub clash_count : Room → Command → ℕ
clash_count r (Fork new old) = 0
clash_count r (Entry console code strip operand) = 0
clash_count r (Merge receiver giver) =
    (merge_of (board_of r.versions) (base_of r.versions) (head r receiver.0) (head r giver.0)).clashes
clash_count r (FastForward receiver giver) = 0
clash_count r (Leave console) = 0
clash_count r MakeHub = 0
