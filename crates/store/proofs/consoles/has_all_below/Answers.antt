-- `store::consoles::has_all_below` meets its contract. The loop's invariant: the bytes before `k` have been compared with those of the full row.
use mathlib.Core.Path.{sym, ap, ◌∙◌}
use native.Mathlib.Omega.{arith}
use lib.Dec.{ltb}
use lib.Bits.{bit_xor}
use lib.ListN.{get_or}
use Rattle.buffer.specs.Row.{row}
use Rattle.buffer.proofs.Accumulate.{compared_none, compared_more, compared_all}
use Rattle.store.specs.Layout.{row_size}
use Rattle.store.proofs.Full.{full_length, full_at}
use Rattle.store.proofs.consoles.has_all_below.Goals as goal

pub loop-k-init : goal.loop-k-init
loop-k-init c = let a = c.args in
    compared_none a.acc.now (row (λ v. ltb v a.n) row_size) (c.requires ∙ sym (full_length a.n))

pub loop-k-preserved : goal.loop-k-preserved
loop-k-preserved c = let a = c.args in
    let k = c.loop-k.k in
    compared_more c.loop-k.invariant (omega arith)
    (ap (bit_xor (get_or a.acc.now k 0)) (full_at a.n k (omega arith) ∙ sym c.full_byte.ensures))

pub returns : goal.returns
returns c = compared_all c.loop-k.invariant (omega arith)
