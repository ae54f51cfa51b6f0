-- `resume::resuming::resume_tape` meets its contract: the scan's refusal, or what is said of a whole tape.
use mathlib.Core.Path.{◌≡◌}
use mathlib.Core.Option.{some}
use borrow.Author.Rules.{rules}
use Rattle.tape.specs.Tape.{content_of}
use Rattle.resume.proofs.Resumes.{scanned_some}
use Rattle.resume.proofs.resuming.resume_tape.Goals as goal

pub returns : goal.returns
returns c =
    let whole : content_of c.args.tape.now ≡ some c.in_ok-whole.whole = scanned_some _ (search rules) in
    rw whole (search rules)
