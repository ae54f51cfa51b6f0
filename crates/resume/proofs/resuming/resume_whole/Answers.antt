-- `resume::resuming::resume_whole` meets its contract: 8, 9, or what is said of a tape in range.
use mathlib.Core.Path.{◌≡◌, ap, ◌∙◌}
use borrow.Author.Rules.{rules}
use Rattle.std.specs.Prelude.{Err}
use Rattle.refusal.specs.Answer.{answer_of}
use Rattle.resume.proofs.Resumes.{range_refused, range_passed}
use Rattle.resume.proofs.resuming.resume_whole.Goals as goal

pub returns-in_err-ranged : goal.returns-in_err-ranged
returns-in_err-ranged c =
    let told = range_refused c.args.tape c.of.ensures c.args.store.now c.in_err-ranged.field-0.0 (search rules) in
    let e : c.from_residual.result ≡ Err c.in_err-ranged.field-0.0 = search rules in
    (ap answer_of e ∙ told.0, told.1)

pub returns : goal.returns
returns c =
    let same : c.in_ok-ranged.ranged ≡ c.args.tape = range_passed c.args.tape c.of.ensures (search rules) in
    rw same at c.resume_ranged.ensures
