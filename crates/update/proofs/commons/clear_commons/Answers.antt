-- `update::commons::clear_commons` meets its contract. The loop's invariant: the fields of the consoles before `k` are written.
use mathlib.Core.Path.{refl}
use native.Mathlib.Omega.{arith}
use Rattle.update.proofs.CommonsTable.{others_none, others_again, others_all}
use Rattle.update.proofs.commons.clear_commons.Goals as goal

pub loop-k-init : goal.loop-k-init
loop-k-init c = others_none _ _ _

pub loop-k-preserved : goal.loop-k-preserved
loop-k-preserved c = others_again c.loop-k.invariant (omega arith) (λ _. refl) c.put_other.ensures

pub returns : goal.returns
returns c = others_all c.loop-k.invariant (omega arith)
