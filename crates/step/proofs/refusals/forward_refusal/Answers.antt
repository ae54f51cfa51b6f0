-- `step::refusals::forward_refusal` meets its contract.
use mathlib.Core.Path.{refl}
use Rattle.std.proofs.lemmas.Result.{err_from_is_err_and}
use Rattle.room.specs.Step.{receiver_giver_tests}
use Rattle.step.proofs.Groups.{refused_first}
use Rattle.step.proofs.refusals.forward_refusal.Goals as goal

pub returns-in_err-receiver_giver_refusal : goal.returns-in_err-receiver_giver_refusal
returns-in_err-receiver_giver_refusal c =
    let a = c.args in
    let p = err_from_is_err_and c.from_residual.result c.from_residual.ensures.1 in
    rw (p.1, p.2) (refused_first (receiver_giver_tests a.store.now a.receiver.0 a.giver.0) _ refl _ c.in_err-receiver_giver_refusal.ensures)
