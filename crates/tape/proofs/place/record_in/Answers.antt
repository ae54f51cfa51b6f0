-- `tape::place::record_in` meets its contract.
use native.Mathlib.Omega.{arith}
use mathlib.Core.Path.{◌∙◌, ap}
use Prim.Native.Nat.{ℕ}
use Rattle.command.specs.Code.{shape_of, length_of}
use Rattle.command.proofs.Shapes.{narrow_shape}
use Rattle.tape.proofs.Records.{record_begins}
use Rattle.tape.proofs.Places.{record_short, record_found}
use Rattle.tape.proofs.place.record_in.Goals as goal

pub returns-then-t-record_length : goal.returns-then-t-record_length
returns-then-t-record_length c = record_begins _ _ (λ i. (omega (arith, c.type_inv.t i))) (record_short _ _ c.record_length.ensures c.if-t-record_length.true)

pub operands_of-requires : goal.operands_of-requires
operands_of-requires c = let shape = c.widths_of.ensures.0 in
    let long = ap length_of shape ∙ ap (λ (k : ℕ). length_of (shape_of k)) c.front_code-code.ensures in
    (rw shape (narrow_shape _), omega arith)

pub returns : goal.returns
returns c = record_begins _ _ (λ i. (omega (arith, c.type_inv.t i)))
    (record_found _ _ c.record_length.ensures c.if-t-record_length.false _ c.front_code-code.ensures _ c.widths_of.ensures.0 _ c.operands_of.ensures _ c.record_from.ensures)
