-- `buffer::add_union` meets its contract. The loop's invariant: the bytes before `i` have been written over with those of the union.
use Prim.Native.Nat.{ℕ}
use mathlib.Core.Path.{sym, ap, ◌∙◌}
use native.Mathlib.Omega.{arith}
use lib.Bits.{bit_or}
use lib.ListN.{get_or}
use Rattle.buffer.specs.Row.{union}
use Rattle.buffer.proofs.Bytewise.{bytewise_length, bytewise_at}
use Rattle.buffer.proofs.Written.{written_none, written_ahead, written_more, written_all}
use Rattle.buffer.proofs.add_union.Goals as goal

pub loop-i-init : goal.loop-i-init
loop-i-init c = let a = c.args in
    written_none a.dst.now (union a.dst.now a.src.now) (sym (bytewise_length bit_or a.dst.now a.src.now c.requires))

pub loop-i-preserved : goal.loop-i-preserved
loop-i-preserved c = let d = c.args.dst.now in
    let s = c.args.src.now in
    let i = c.loop-i.i in
    written_more c.loop-i.invariant (omega arith)
    (bytewise_at bit_or d s i (omega arith) (omega arith)
    ∙ ap (λ (x : ℕ). bit_or x (get_or s i 0)) (sym (written_ahead c.loop-i.invariant (omega arith))))

pub returns : goal.returns
returns c = written_all c.loop-i.invariant (omega arith)
