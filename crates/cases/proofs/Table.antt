-- The theorems of the tables: what the definitions give is what the paper and the requests say, by computation.
use Prim.Native.Nat.{ℕ}
use mathlib.Core.Path.{◌≡◌, refl, ap}
use mathlib.Core.Bool.{true}
use mathlib.Core.List.{List, [], ◌∷◌, map}
use Rattle.board.specs.Board.{merge_flag, merge_strip, merge_strips, enter}
use Rattle.board.specs.Pane.{student_strip, strips}
use Rattle.graph.specs.Below.{every_below, some_below, highest_below, first_nonzero}
use Rattle.graph.specs.Graph.{ancestor, is_meet, meet, every_version}
use Rattle.refusal.specs.Refusal.{first_refusal}
use Rattle.graph.specs.declared.Console.{Console}
use Rattle.command.specs.declared.Command.TheVariants.{Entry}
use Rattle.std.specs.Prelude.{Ok}
use Rattle.command.specs.Code.{console_count, shape_of, length_of, number_at, operands_of, is_operand, kind_of}
use Rattle.command.specs.Decode.{command_refusal, decode, command_bytes}
use Rattle.room.specs.Room.{common}
use Rattle.room.specs.Boards.{board_made, board_of}
use Rattle.room.specs.Origin.{origin_of, origin}
use Rattle.room.specs.Sound.{heads_meet, all_behind_heads, can_make_hub, sound_room}
use Rattle.room.specs.Step.{state_tests, step_refusal, step, clash_count}
use Rattle.room.specs.Unseen.{is_unseen, none, same, unseen, RoomsAgree}
use Rattle.room.specs.Mergeable.{pair_number, first_pair, heads_agree, mergeable}
use Rattle.room.specs.Gathering.{hub_takes, hub_gives, after_all, for_each, gathering}
use Rattle.store.specs.Layout.{holds_store}
use Rattle.unit.specs.Calls.{command, origin_reply, view_part, view_at_reply, view_refusal_reply, mergeable_reply, pane_outcome, step_outcome, command_outcome, resumed, resume_outcome}
use Rattle.claims.specs.Secrecy.{EntersUnseen, entries, ListsAgree, next}
use Rattle.claims.specs.Secrecy as calls
use Rattle.tape.specs.Record.{record_from, record_in}
use Rattle.tape.specs.Tape.{version_records, head_records, tape_of, after_record, read_on, content_of, head_slots, consoles_rise, heads_named}
use Rattle.cases.specs.Run.{Case, merge, forward, answer_in, count_in, room_after, made, replies, session}
use Rattle.cases.specs.Requests.{origin_cases, leave_cases, everywhere, clash_cases, stuck_cases, agree_cases, pair_cases, hub_cases, hub_tape_cases, stuck_hub_cases, spelled, gather_cases, view_cases, after, session₁, session₂, pane_cases}
use Rattle.cases.specs.Starred.{crossed, stuck, accepted_by, accepted, starred}

-- the stuck room takes no merge and no fast-forward: its own declarations, for the checker's bound on the steps of one
stuck_merges : accepted stuck merge console_count ≡ 0
unfolding every_below some_below highest_below ancestor is_meet meet first_refusal shape_of length_of number_at operands_of is_operand kind_of command_refusal decode common state_tests step_refusal step answer_in room_after made stuck accepted_by accepted
stuck_merges = refl

stuck_forwards : accepted stuck forward console_count ≡ 0
unfolding every_below some_below highest_below ancestor is_meet meet first_refusal shape_of length_of number_at operands_of is_operand kind_of command_refusal decode common state_tests step_refusal step answer_in room_after made stuck accepted_by accepted
stuck_forwards = refl

-- the cases that the paper marks *
pub starred_hold : map (λ (c : Case). c.got) starred ≡ map (λ (c : Case). c.due) starred
unfolding merge_flag merge_strip every_below some_below highest_below ancestor is_meet meet first_refusal shape_of length_of number_at operands_of is_operand kind_of command_refusal decode common state_tests step_refusal step version_records head_records tape_of answer_in room_after made replies session crossed stuck starred
starred_hold = rw (stuck_merges, stuck_forwards)

-- those of the requests
pub origins_hold : map (λ (c : Case). c.got) origin_cases ≡ map (λ (c : Case). c.due) origin_cases
unfolding merge_flag merge_strip merge_strips enter every_below some_below highest_below ancestor is_meet meet first_refusal shape_of length_of number_at operands_of is_operand kind_of command_refusal decode common state_tests step_refusal step board_made board_of origin_of origin holds_store origin_reply answer_in room_after made origin_cases
origins_hold = refl

pub leaves_hold : map (λ (c : Case). c.got) leave_cases ≡ map (λ (c : Case). c.due) leave_cases
unfolding every_below some_below highest_below ancestor is_meet meet first_refusal shape_of length_of number_at operands_of is_operand kind_of command_refusal decode common state_tests step_refusal step holds_store step_outcome command_outcome version_records head_records tape_of answer_in room_after made replies session leave_cases
leaves_hold = refl

pub clashes_hold : map (λ (c : Case). c.got) clash_cases ≡ map (λ (c : Case). c.due) clash_cases
unfolding merge_flag merge_strip merge_strips enter every_below some_below highest_below ancestor is_meet meet first_refusal shape_of length_of number_at operands_of is_operand kind_of command_refusal decode common state_tests step_refusal step clash_count board_made board_of answer_in count_in room_after made replies everywhere clash_cases
clashes_hold = refl

-- the stuck room has no pair: its own declaration, for the same bound
stuck_pair : mergeable stuck ≡ 256
unfolding every_below some_below highest_below first_nonzero ancestor is_meet meet first_refusal shape_of length_of number_at operands_of is_operand kind_of command_refusal decode common state_tests step_refusal step pair_number first_pair heads_agree mergeable answer_in room_after made stuck
stuck_pair = refl

pub stuck_holds : map (λ (c : Case). c.got) stuck_cases ≡ map (λ (c : Case). c.due) stuck_cases
unfolding stuck_cases
stuck_holds = ap (λ (n : ℕ). (n ∷ []) ∷ []) stuck_pair

pub agree_hold : map (λ (c : Case). c.got) agree_cases ≡ map (λ (c : Case). c.due) agree_cases
unfolding every_below some_below highest_below first_nonzero ancestor is_meet meet first_refusal shape_of length_of number_at operands_of is_operand kind_of command_refusal decode common state_tests step_refusal step pair_number first_pair heads_agree mergeable answer_in room_after made agree_cases
agree_hold = refl

pub pairs_hold : map (λ (c : Case). c.got) pair_cases ≡ map (λ (c : Case). c.due) pair_cases
unfolding every_below some_below highest_below first_nonzero ancestor is_meet meet first_refusal shape_of length_of number_at operands_of is_operand kind_of command_refusal decode common state_tests step_refusal step pair_number first_pair heads_agree mergeable holds_store mergeable_reply answer_in room_after made replies crossed pair_cases
pairs_hold = refl

pub hub_holds : map (λ (c : Case). c.got) hub_cases ≡ map (λ (c : Case). c.due) hub_cases
unfolding every_below some_below highest_below ancestor is_meet meet first_refusal shape_of length_of number_at operands_of is_operand kind_of command_refusal decode common can_make_hub state_tests step_refusal step holds_store step_outcome command_outcome answer_in room_after made replies session hub_cases
hub_holds = refl

pub hub_tapes_hold : map (λ (c : Case). c.got) hub_tape_cases ≡ map (λ (c : Case). c.due) hub_tape_cases
unfolding every_below some_below highest_below ancestor is_meet meet every_version first_refusal shape_of length_of number_at operands_of is_operand kind_of command_refusal decode common heads_meet all_behind_heads can_make_hub sound_room state_tests step_refusal step record_from record_in version_records head_records tape_of after_record read_on content_of head_slots consoles_rise heads_named resumed resume_outcome answer_in room_after made hub_tape_cases
hub_tapes_hold = refl

pub stuck_hub_holds : map (λ (c : Case). c.got) stuck_hub_cases ≡ map (λ (c : Case). c.due) stuck_hub_cases
unfolding every_below some_below highest_below ancestor is_meet meet first_refusal shape_of length_of number_at operands_of is_operand kind_of command_refusal decode common can_make_hub state_tests step_refusal step answer_in room_after made replies stuck stuck_hub_cases
stuck_hub_holds = refl

pub gathers_hold : map (λ (c : Case). c.got) gather_cases ≡ map (λ (c : Case). c.due) gather_cases
unfolding every_below some_below highest_below ancestor is_meet meet first_refusal shape_of length_of number_at operands_of is_operand kind_of command_refusal decode command_bytes common can_make_hub state_tests step_refusal step hub_takes hub_gives after_all for_each gathering answer_in room_after made spelled gather_cases
gathers_hold = refl

pub views_hold : map (λ (c : Case). c.got) view_cases ≡ map (λ (c : Case). c.due) view_cases
unfolding enter every_below some_below highest_below ancestor is_meet meet first_refusal shape_of length_of number_at operands_of is_operand kind_of command_refusal decode common state_tests step_refusal step board_made board_of holds_store view_part view_at_reply view_refusal_reply answer_in room_after made view_cases
views_hold = refl

pub panes_hold : map (λ (c : Case). c.got) pane_cases ≡ map (λ (c : Case). c.due) pane_cases
unfolding merge_flag merge_strip merge_strips enter student_strip strips every_below some_below highest_below ancestor is_meet meet first_refusal shape_of length_of number_at operands_of is_operand kind_of command_refusal decode common state_tests step_refusal step board_made board_of holds_store pane_outcome answer_in room_after made pane_cases
panes_hold = refl

-- the two sessions of these rows agree but for what a student does not see: `KeptFromStudents` speaks of them
pub sessions_agree : RoomsAgree (after session₁) (after session₂)
unfolding every_below some_below highest_below ancestor is_meet meet first_refusal shape_of length_of number_at operands_of is_operand kind_of command_refusal decode common state_tests step_refusal step answer_in room_after made
sessions_agree =
    record { versions = same _ (unseen 3 _ _ refl refl (unseen 3 _ _ refl refl (unseen 2 _ _ refl refl (same _ (same _ none))))); heads = refl }

-- and so do their commands, call by call
enters : {console : Console} {bytes : List ℕ} (code k x : ℕ) → decode bytes ≡ Ok (Entry console code (record { 0 = k }) x) → is_unseen code x ≡ true
    → EntersUnseen console bytes
enters code k x told kind = record { code = code; strip = record { 0 = k }; operand = x; decoded = told; unseen = kind }

pub commands_agree : ListsAgree (map command session₁) (map command session₂)
unfolding first_refusal shape_of length_of number_at operands_of is_operand kind_of command_refusal decode
commands_agree =
    next (calls.same _)
    (next (calls.same _)
    (next (entries (enters 0x06 5 0 refl refl) (enters 0x08 9 0 refl refl))
    (next (calls.same _)
    (next (entries (enters 0x07 5 0 refl refl) (enters 0x05 7 15 refl refl))
    (next (entries (enters 0x04 6 8 refl refl) (enters 0x06 31 0 refl refl)) (next (calls.same _) calls.none))))))
