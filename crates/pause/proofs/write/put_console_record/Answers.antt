-- `pause::write::put_console_record` meets its contract.
use native.Mathlib.Omega.{arith}
use mathlib.Core.Path.{◌∙◌, sym}
use Rattle.buffer.proofs.Laid.{laid_none}
use Rattle.pause.proofs.Pieces.{present_piece, absent_piece}
use Rattle.pause.proofs.write.put_console_record.Goals as goal

pub put_head_record-requires : goal.put_head_record-requires
put_head_record-requires c = let piece = present_piece c.args.store.now c.args.c.0 (sym c.is_present.ensures ∙ c.if-is_present.true) in
    rw (← piece) at c.requires.in_bounds

pub returns-then-is_present : goal.returns-then-is_present
returns-then-is_present c = let piece = present_piece c.args.store.now c.args.c.0 (sym c.is_present.ensures ∙ c.if-is_present.true) in
    rw (← piece, ← c.head_of.ensures.0) c.put_head_record.ensures

pub returns : goal.returns
returns c = let a = c.args in
    rw (← absent_piece a.store.now a.c.0 (sym c.is_present.ensures ∙ c.if-is_present.false)) (laid_none a.tape.now a.at (omega arith)).put
