-- `update::commons::join_commons` meets its contract. The loop's invariant: the fields of the consoles before `k` are written.
use native.Mathlib.Omega.{arith}
use Rattle.update.proofs.CommonsTable.{others_none, others_again, others_all, joined_ahead}
use Rattle.update.proofs.commons.join_commons.Goals as goal

pub loop-k-init : goal.loop-k-init
loop-k-init c = others_none _ _ _

pub loop-k-preserved : goal.loop-k-preserved
loop-k-preserved c = let inv = c.loop-k.invariant in
    others_again inv (omega arith) (λ nc. rw c.joined_field-common.ensures (joined_ahead inv _ (omega arith) (omega arith) nc)) c.put_other.ensures

pub returns : goal.returns
returns c = others_all c.loop-k.invariant (omega arith)
