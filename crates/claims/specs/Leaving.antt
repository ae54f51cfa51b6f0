-- "Code 0B with one console removes it, provided that its head is an ancestor of another present head. Its number may then be forked again;
-- meanwhile the store has no common for it, and the book of demand 3 no head." When a leave is accepted, and what the store and the journal
-- are then, on any bytes.
use Rattle.std.specs.Prelude.{ℕ, ◌+◌, ◌<◌, ◌≡◌, Bool, true, cond, ◌||◌, List, [], ◌∷◌, eqb, length, get_or}
use Rattle.std.proofs.Math.Option.{none}
use Rattle.board.specs.declared.Viewer.{Viewer}
use Rattle.graph.specs.Below.{some_below}
use Rattle.command.specs.Code.{console_count, merge_command, fast_forward_command, leave_command}
use Rattle.store.specs.Layout.{common_at, holds_store}
use Rattle.unit.specs.Calls.{Outcome, replied, command_outcome, pane_outcome, heard_reply, common_reply, origin_reply, command}
use Rattle.claims.specs.Absent.{Absent}
use Rattle.claims.specs.Journal.{Journal, move_to, feed}

abbrev pub leave_bytes : ℕ → List ℕ
leave_bytes c = leave_command ∷ c ∷ []

abbrev pub leave_outcome : List ℕ → ℕ → Outcome
leave_outcome store c = command_outcome store (leave_bytes c)

-- "provided that its head is an ancestor of another present head": what it has in common with another one is what it has with itself, its
-- head. Console 0 never leaves.
pub record MayLeave (store : List ℕ) (c : ℕ) : Type 0 where
  pub not_console0 : 0 < c
  pub here : (common_reply store c c).answer ≡ 0
  pub other : ℕ
  pub another : other ≡ c → ⊥
  pub in_common : common_reply store c other ≡ common_reply store c c

-- byte i is one of the two bytes of the field of consoles c and d
abbrev pub in_field : ℕ → ℕ → ℕ → Bool
in_field c d i = eqb i (common_at c d) || eqb i (common_at c d + 1)

-- byte i is in console c's row or column of the table of common versions; its head stands where the two cross
abbrev pub in_row_or_column : ℕ → ℕ → Bool
in_row_or_column c i = some_below console_count (λ d. in_field c d i || in_field d c i)

-- `after` is what `store` becomes when console c leaves
pub record Gone (store : List ℕ) (c : ℕ) (after : List ℕ) : Type 0 where
  -- "Every version is still an ancestor of a head": the store is sound
  pub sound : holds_store after ≡ true
  -- the console's row and column are cleared, and no other byte is touched
  pub same_length : length after ≡ length store
  pub bytes : (i : ℕ) → get_or after i 0 ≡ cond (in_row_or_column c i) 0 (get_or store i 0)
  pub absent : Absent after c
  -- whoever remains is shown what it was shown: its board, which is the instructor's pane, and the student's
  pub panes : (d : ℕ) → (d ≡ c → ⊥) → (viewer : Viewer) (output : List ℕ) → pane_outcome viewer after d output ≡ pane_outcome viewer store d output
  pub heard : (d : ℕ) → (d ≡ c → ⊥) → heard_reply after d ≡ heard_reply store d
  pub commons : (d e : ℕ) → (d ≡ c → ⊥) → (e ≡ c → ⊥) → common_reply after d e ≡ common_reply store d e
  pub origins : (d k cell : ℕ) → (d ≡ c → ⊥) → origin_reply after d k cell ≡ origin_reply store d k cell
  -- and can merge and fast-forward as it could
  pub merges : (d e : ℕ) → (d ≡ c → ⊥) → (e ≡ c → ⊥)
      → (command_outcome after (merge_command ∷ d ∷ e ∷ [])).reply ≡ (command_outcome store (merge_command ∷ d ∷ e ∷ [])).reply
  pub fast_forwards : (d e : ℕ) → (d ≡ c → ⊥) → (e ≡ c → ⊥)
      → (command_outcome after (fast_forward_command ∷ d ∷ e ∷ [])).reply ≡ (command_outcome store (fast_forward_command ∷ d ∷ e ∷ [])).reply

-- of any bytes and any number: a leave is accepted, and counts 0, exactly where the console may leave; then it is gone, and any journal that is fed
-- has "no head" for it
pub record Leaves (store : List ℕ) (c : ℕ) : Type 0 where
  pub accepted : MayLeave store c → (leave_outcome store c).reply ≡ replied 0 0
  pub allowed : (leave_outcome store c).reply.answer ≡ 0 → MayLeave store c
  pub gone : (leave_outcome store c).reply.answer ≡ 0 → Gone store c (leave_outcome store c).buffer
  pub dropped : (leave_outcome store c).reply.answer ≡ 0 → (j : Journal) → feed j (command (leave_bytes c)) 0 ≡ move_to j c none

-- the claim
abbrev pub ConsolesLeave : Type 0
ConsolesLeave = (store : List ℕ) (c : ℕ) → Leaves store c
