-- The reply of resume and the lent buffer, from what the crate `resume` says of them.
-- Assumes nothing.
use mathlib.Core.Path.{◌≡◌, refl, sym, ◌∙◌}
use lib.Dec.{eqb}
use mathlib.Core.List.{List}
use Rattle.laws.proofs.Logic.{cond_same}
use mathlib.Core.Option.{Option, none, some}
use Prim.Native.Nat.{ℕ}
use Rattle.refusal.specs.Answer.{answer_of}
use Rattle.refusal.specs.Refusal.{first_refusal}
use Rattle.refusal.specs.declared.Refusal.{Refusal}
use Rattle.std.specs.Prelude.{Result, Ok, Err}
use Rattle.std.specs.Result.{result_and}
use Rattle.unit.specs.Answers.{reply_of}
use Rattle.tape.specs.Tape.{Content, content_of}
use Rattle.resume.specs.Resumed.{resume_refusal, resumed_store}
use Rattle.unit.specs.Calls.{replied, resume_tests, resumed, resume_outcome}
use Rattle.unit.proofs.Answered.{Went}

-- a call that counts nothing: its reply has its answer and 0
pub uncounted : {A : Type 0} (outcome : Result A Refusal) → reply_of (result_and outcome (Ok 0)) ≡ replied (answer_of outcome) 0
uncounted (Ok _) = refl
uncounted (Err refusal) = refl

-- what resume refuses, there and here
resume_refused : (o : Option Content) (store : List ℕ) → resume_refusal o store ≡ first_refusal (resume_tests o store)
unfolding first_refusal
resume_refused none store = refl
resume_refused (some t) store = refl

-- a tape that is none leaves the buffer
resumed_none : (old : List ℕ) → resumed_store none old ≡ old
unfolding resumed_store first_refusal
resumed_none old = refl

resumed_told : (o : Option Content) (old new : List ℕ) (n : ℕ) → n ≡ resume_refusal o old → new ≡ resumed_store o old
    → Went (replied n 0) new (resumed o old)
unfolding resumed resumed_store
resumed_told none old new n e f = rw (e, ← (resume_refused none old)) (refl, f ∙ resumed_none old ∙ sym (cond_same (eqb (resume_refusal none old) 0) old))
resumed_told (some t) old new n e f = (rw e, f)

pub taken : (tape old new : List ℕ) (n : ℕ) → n ≡ resume_refusal (content_of tape) old → new ≡ resumed_store (content_of tape) old
    → Went (replied n 0) new (resume_outcome tape old)
unfolding resume_outcome
taken tape = resumed_told (content_of tape)
