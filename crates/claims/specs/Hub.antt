-- "Schools that saw "stuck" want a room where it can't happen." When console 0 is made the hub, and what is true of a store whose hub it is, in
-- terms of the calls.
use Rattle.std.specs.Prelude.{ℕ, pred, ◌*◌, ◌≤◌, ◌≡◌, ◌⊎◌, Bool, true, not, ◌&&◌, List, [], ◌∷◌, map, eqb, length}
use Rattle.buffer.specs.Field.{put_word}
use Rattle.graph.specs.Graph.{ancestor}
use Rattle.command.specs.declared.Command.{Command}
use Rattle.command.specs.Code.{fork_command, merge_command, fast_forward_command, make_hub_command}
use Rattle.command.specs.Decode.{command_bytes}
use Rattle.room.specs.Mergeable.{stuck, all_agree, number_of}
use Rattle.room.specs.Gathering.{consoles_in, versions_free, gathering}
use Rattle.store.specs.Layout.{store_size, hub_at, room_in, holds_store}
use Rattle.unit.specs.Calls.{Outcome, Call, command, replied, reply_to, store_after, store_after_all, command_outcome, common_reply, mergeable_reply, pause_outcome, paused_tape, resume_outcome}
use Rattle.claims.specs.Journal.{Journal, feed}
use Rattle.claims.specs.Mergeable.{answer_for, head_reply, OneHead}
use Rattle.claims.specs.Convergence.{begins}

abbrev pub hub_bytes : List ℕ
hub_bytes = make_hub_command ∷ []

abbrev pub hub_outcome : List ℕ → Outcome
hub_outcome store = command_outcome store hub_bytes

-- the bytes hold a sound store, and console 0 is its hub
abbrev pub has_hub : List ℕ → Bool
has_hub store = holds_store store && (room_in store).settings.hub

-- each call of a list, given one after the other, is answered with 0
unfoldable pub all_answered : List ℕ → List Call → Bool
all_answered store [] = true
all_answered store (c ∷ calls) = eqb (reply_to store c).answer 0 && all_answered (store_after store c) calls

-- no call of a list opens or resumes a room in the buffer
unfoldable pub none_begins : List Call → Bool
none_begins [] = true
none_begins (c ∷ calls) = not (begins c) && none_begins calls

-- "0 takes from each, then each from 0", as calls
abbrev pub as_calls : List Command → List Call
as_calls commands = map (λ (c : Command). command (command_bytes c)) commands

abbrev pub gather_calls : List ℕ → List Call
gather_calls store = as_calls (gathering (room_in store))

-- "at most 2(n − 1) accepted commands bring all to one head"
pub record Gathered (store : List ℕ) (after : List ℕ) : Type 0 where
  pub few : length (gather_calls store) ≤ 2 * pred (consoles_in (room_in store))
  pub answered : all_answered store (gather_calls store) ≡ true
  pub hub : has_hub after ≡ true
  pub one_head : OneHead after
  pub agree : mergeable_reply after ≡ replied 0 (number_of all_agree)
  -- each console that was here still is, and no other
  pub all_here : (c : ℕ) → (head_reply after c).answer ≡ (head_reply store c).answer

-- true of every store whose hub is console 0
pub record ThroughHub (store : List ℕ) : Type 0 where
  -- "puts the room in this way for good; again, it changes nothing"
  pub for_good : (calls : List Call) → none_begins calls ≡ true → has_hub (store_after_all store calls) ≡ true
  pub again : hub_outcome store ≡ record { reply = replied 0 0; buffer = store }
  -- "From then on one party of each merge and fast-forward is console 0, and only console 0 is forked from."
  pub merges : (c d : ℕ) → answer_for store merge_command c d ≡ 0 → (c ≡ 0) ⊎ (d ≡ 0)
  pub fast_forwards : (c d : ℕ) → answer_for store fast_forward_command c d ≡ 0 → (c ≡ 0) ⊎ (d ≡ 0)
  pub forks : (new old : ℕ) → answer_for store fork_command new old ≡ 0 → old ≡ 0
  -- "In such a room 17 never occurs."
  pub never17 : (bytes : List ℕ) → (command_outcome store bytes).reply.answer ≡ 17 → ⊥
  pub never_stuck : mergeable_reply store ≡ replied 0 (number_of stuck) → ⊥
  -- "With n consoles and n − 1 versions free"
  pub gathers : pred (consoles_in (room_in store)) ≤ versions_free (room_in store) → Gathered store (store_after_all store (gather_calls store))
  -- a pause and a resume keep the hub
  pub resumes : (output buffer : List ℕ) → (pause_outcome store output).reply.answer ≡ 0
      → store_size (room_in store).settings.capacity ≤ length buffer
      → ((resume_outcome (paused_tape store output) buffer).reply ≡ replied 0 0) × (has_hub (resume_outcome (paused_tape store output) buffer).buffer ≡ true)

-- "accepted when the common version of every two consoles is an ancestor of console 0's head"
pub record MayMakeHub (store : List ℕ) : Type 0 where
  pub sound : holds_store store ≡ true
  pub behind_hub : (c d m h : ℕ) → (c ≡ d → ⊥) → common_reply store c d ≡ replied 0 m → common_reply store 0 0 ≡ replied 0 h
      → ancestor (room_in store).versions m h ≡ true

-- true of any bytes: when `0C` is accepted and what it does, and what is true where console 0 is the hub
pub record MakingHub (store : List ℕ) : Type 0 where
  pub accepted : MayMakeHub store → (hub_outcome store).reply ≡ replied 0 0
  pub allowed : (hub_outcome store).reply.answer ≡ 0 → MayMakeHub store
  pub refused : holds_store store ≡ true → (MayMakeHub store → ⊥) → hub_outcome store ≡ record { reply = replied 23 0; buffer = store }
  -- then console 0 is the hub, and no byte but its field has changed
  pub made : (hub_outcome store).reply.answer ≡ 0 → has_hub (hub_outcome store).buffer ≡ true
  pub written : (hub_outcome store).reply.answer ≡ 0 → (hub_outcome store).buffer ≡ put_word store hub_at 1
  -- "It never changes the book."
  pub journal_kept : (j : Journal) (answer : ℕ) → feed j (command hub_bytes) answer ≡ j
  pub through : has_hub store ≡ true → ThroughHub store
