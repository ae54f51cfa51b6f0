-- `pause::write_tape` meets its contract.
use native.Mathlib.Omega.{arith}
use Prim.Native.Nat.{◌-◌}
use Rattle.pause.proofs.Tapes.{tape_size, records_written}
use Rattle.pause.proofs.write_tape.Goals as goal

pub returns : goal.returns
returns c = records_written c.bytes-bytes.result.now _ c.bytes-bytes.ensures.1 (c.version_count-last.result - 1) (omega arith) c.args.tape.now c.requires
    (rw c.settings.ensures.0 at c.put_start_record-versions.ensures) c.put_version_records-heads.ensures c.put_head_records-hub.ensures c.put_hub_records-end.ensures c.put_end_record.ensures

pub put_start_record-versions-requires : goal.put_start_record-versions-requires
put_start_record-versions-requires c = omega (arith, tape_size _ c.args.store.now c.bytes-bytes.ensures.1 (c.version_count-last.result - 1) (omega arith))
