-- `tape::writer::put_record_byte` meets its contract.
use mathlib.Core.Path.{refl}
use Rattle.buffer.specs.Field.{byte}
use Rattle.buffer.proofs.Patches.{set_part}
use Rattle.tape.proofs.writer.put_record_byte.Goals as goal

pub returns : goal.returns
returns c = (refl, set_part c.args.tape.now c.args.at (byte c.args.x) c.requires)
