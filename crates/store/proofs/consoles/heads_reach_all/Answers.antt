-- `store::consoles::heads_reach_all` meets its contract.
use mathlib.Core.Path.{refl, ◌∙◌}
use native.Mathlib.Omega.{arith}
use Rattle.store.proofs.Heads.{behind_none, behind_more}
use Rattle.store.proofs.consoles.heads_reach_all.Goals as goal

pub loop-c-init : goal.loop-c-init
loop-c-init c = (refl, behind_none _ _)

pub loop-c-preserved : goal.loop-c-preserved
loop-c-preserved c = (omega arith, c.add_head.ensures ∙ behind_more _ _ _ _ _ c.loop-c.invariant.1 c.common_in.ensures.0)
