-- "Each of the three is given only when true", a pair with its kind, and always when it is true: what the question answers, set against what
-- 09, 0A and the question of the common version answer on the same bytes. True of any bytes.
use Rattle.std.specs.Prelude.{ℕ, ◌<◌, ◌≡◌, ◌⊎◌, Bool, true, false, ◌||◌, List, [], ◌∷◌, eqb}
use Rattle.command.specs.Code.{console_count, merge_command, fast_forward_command}
use Rattle.room.specs.Step.{version_free}
use Rattle.room.specs.Mergeable.{Verdict, all_agree, stuck, merge, fast_forward, number_of}
use Rattle.store.specs.Layout.{room_in, holds_store}
use Rattle.unit.specs.declared.Reply.{Reply}
use Rattle.unit.specs.Calls.{replied, command_outcome, common_reply, mergeable_reply}

-- what a command of this code answers, with receiver c and giver d
abbrev pub answer_for : List ℕ → ℕ → ℕ → ℕ → ℕ
answer_for store code c d = (command_outcome store (code ∷ c ∷ d ∷ [])).reply.answer

-- "a merge .. would be accepted if versions were free": it is accepted, or refused with 18, the last of a merge's tests
abbrev pub merges_if_free : List ℕ → ℕ → ℕ → Bool
merges_if_free store c d = eqb (answer_for store merge_command c d) 0 || eqb (answer_for store merge_command c d) 18

-- a fast-forward makes no version, so that 18 is none of its refusals
abbrev pub fast_forwards : List ℕ → ℕ → ℕ → Bool
fast_forwards store c d = eqb (answer_for store fast_forward_command c d) 0

-- neither of the two would be accepted
abbrev pub Neither : List ℕ → ℕ → ℕ → Type 0
Neither store c d = (merges_if_free store c d ≡ false) × (fast_forwards store c d ≡ false)

-- nor for any pair before, "receiver, then giver, both rising"
abbrev pub NeitherBefore : List ℕ → ℕ → ℕ → Type 0
NeitherBefore store c d = (e f : ℕ) → (e < c) ⊎ ((e ≡ c) × (f < d)) → Neither store e f

-- "the first pair": this command would be accepted for it, and neither before
pub record First (accepts : List ℕ → ℕ → ℕ → Bool) (store : List ℕ) (c d : ℕ) : Type 0 where
  pub accepted : accepts store c d ≡ true
  pub first : NeitherBefore store c d

-- "of a console with itself: its head"; of an absent one there is none, and 12 is answered
abbrev pub head_reply : List ℕ → ℕ → Reply
head_reply store c = common_reply store c c

-- "every head is one version"
pub record OneHead (store : List ℕ) : Type 0 where
  pub sound : holds_store store ≡ true
  pub same : (c d : ℕ) → (head_reply store c).answer ≡ 0 → (head_reply store d).answer ≡ 0 → head_reply store c ≡ head_reply store d

-- there is no pair, and there are two heads
pub record Stuck (store : List ℕ) : Type 0 where
  pub no_pair : (c d : ℕ) → Neither store c d
  pub one : ℕ
  pub other : ℕ
  pub one_is_here : (head_reply store one).answer ≡ 0
  pub other_is_here : (head_reply store other).answer ≡ 0
  pub two_heads : head_reply store one ≡ head_reply store other → ⊥

abbrev pub IsTrue : List ℕ → Verdict → Type 0
IsTrue store all_agree = OneHead store
IsTrue store stuck = Stuck store
IsTrue store (merge c d) = First merges_if_free store c d
IsTrue store (fast_forward c d) = First fast_forwards store c d

-- both below 16, else 16 × receiver + giver is another pair's too
abbrev pub NamesConsoles : Verdict → Type 0
NamesConsoles all_agree = Unit {0}
NamesConsoles stuck = Unit {0}
NamesConsoles (merge c d) = (c < console_count) × (d < console_count)
NamesConsoles (fast_forward c d) = (c < console_count) × (d < console_count)

-- the command that is named is accepted, a merge where a version is free
abbrev pub IsAccepted : List ℕ → Verdict → Type 0
IsAccepted store all_agree = Unit {0}
IsAccepted store stuck = Unit {0}
IsAccepted store (merge c d) = version_free (room_in store) ≡ true → answer_for store merge_command c d ≡ 0
IsAccepted store (fast_forward c d) = answer_for store fast_forward_command c d ≡ 0

abbrev pub Says : List ℕ → Verdict → Type 0
Says store v = mergeable_reply store ≡ replied 0 (number_of v)

pub record MergeableTold (store : List ℕ) : Type 0 where
  -- each is said when it is true, and only then
  pub said : (v : Verdict) → IsTrue store v → Says store v
  pub only_true : (v : Verdict) → NamesConsoles v → Says store v → IsTrue store v
  -- in every sound store one of them is true, and no other; bytes that hold none give 11
  pub always : holds_store store ≡ true → (v : Verdict) × NamesConsoles v × IsTrue store v
  pub only_one : (v w : Verdict) → IsTrue store v → IsTrue store w → v ≡ w
  pub refused : holds_store store ≡ false → mergeable_reply store ≡ replied 11 0
  -- of one pair at most one of the two commands would be accepted
  pub one_kind : (c d : ℕ) → merges_if_free store c d ≡ true → fast_forwards store c d ≡ false
  pub accepted : (v : Verdict) → NamesConsoles v → Says store v → IsAccepted store v
