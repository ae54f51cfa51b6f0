-- `tape::writer::put_start_record` meets its contract.
use native.Mathlib.Omega.{arith}
use mathlib.Core.List.{[], ◌∷◌}
use Rattle.buffer.specs.Field.{word}
use Rattle.command.specs.Code.{start_record}
use Rattle.buffer.proofs.Laid.{laid_one, laid_more}
use Rattle.tape.proofs.writer.put_start_record.Goals as goal

pub returns : goal.returns
returns c = let coded = laid_one (start_record ∷ []) (omega arith) c.put_record_byte-coded.ensures in
    (laid_more (word c.args.settings.capacity) coded (omega arith) c.put_record_word.ensures).put
