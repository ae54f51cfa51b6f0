-- `pause::write::put_head_records` meets its contract. The loop's invariant is `Piled`: the head records before c are written.
use native.Mathlib.Omega.{arith}
use Rattle.command.specs.Code.{console_count}
use Rattle.pause.proofs.Piled.{piled_none, piled_fits, piled_more}
use Rattle.pause.proofs.Pieces.{head_pieces_lem}
use Rattle.pause.proofs.write.put_head_records.Goals as goal

pub loop-c-init : goal.loop-c-init
loop-c-init c = piled_none (head_pieces_lem c.args.store.now) _ _ console_count c.requires

pub put_console_record-at-requires-clause-in_bounds : goal.put_console_record-at-requires-clause-in_bounds
put_console_record-at-requires-clause-in_bounds c = piled_fits (head_pieces_lem c.args.store.now) c.loop-c.invariant (omega arith)

pub loop-c-preserved : goal.loop-c-preserved
loop-c-preserved c = piled_more (head_pieces_lem c.args.store.now) c.loop-c.invariant (omega arith) c.put_console_record-at.ensures

pub shape_of-tape : goal.shape_of-tape
shape_of-tape c = c.loop-c.invariant.laid.kept
