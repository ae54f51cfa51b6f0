-- `unit::resuming::room_resume` meets its contract.
use mathlib.Core.Path.{ap, ◌∙◌}
use Rattle.unit.specs.Answers.{reply_of}
use Rattle.unit.proofs.Taken.{taken, uncounted}
use Rattle.unit.proofs.resuming.room_resume.Goals as goal

pub returns : goal.returns
returns c = let a = c.args in
    rw (c.from.ensures ∙ ap reply_of c.and.ensures ∙ uncounted c.resume_tape.result)
    (taken a.tape.now a.store.now _ _ c.resume_tape.ensures.0 c.resume_tape.ensures.1)
