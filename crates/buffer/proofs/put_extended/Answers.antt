-- `buffer::put_extended` meets its contract.
use mathlib.Core.Path.{refl, ◌∙◌}
use native.Mathlib.Omega.{arith}
use Rattle.buffer.specs.Row.{with_member, row_width}
use Rattle.buffer.proofs.Rows.{with_member-length}
use Rattle.buffer.proofs.Patches.{changed_lent}
use Rattle.buffer.proofs.put_extended.Goals as goal

pub returns : goal.returns
returns c = let a = c.args in
    changed_lent a.s.now _ _ (λ x. with_member x a.v) a.from a.to a.to row_width refl (omega arith) (omega arith)
    (λ x e. with_member-length x a.v ∙ e) c.copy_within.ensures c.add_member.ensures
