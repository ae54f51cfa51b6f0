-- `pause::write::put_hub_records` meets its contract.
use native.Mathlib.Omega.{arith}
use Rattle.buffer.proofs.Laid.{laid_none}
use Rattle.pause.proofs.Pieces.{no_hub_piece}
use Rattle.pause.proofs.write.put_hub_records.Goals as goal

pub returns : goal.returns
returns c = let a = c.args in
    let piece = no_hub_piece a.store.now c.settings.ensures.0 c.if-settings.false in
    rw (← piece) (laid_none a.tape.now a.at (omega arith)).put
