-- `tape::writer::put_head_record` meets its contract.
use native.Mathlib.Omega.{arith}
use mathlib.Core.List.{[], ◌∷◌}
use Rattle.buffer.specs.Field.{byte, word}
use Rattle.command.specs.Code.{head_record}
use Rattle.buffer.proofs.Laid.{laid_one, laid_more}
use Rattle.tape.proofs.writer.put_head_record.Goals as goal

pub returns : goal.returns
returns c = let a = c.args in
    let coded = laid_one (head_record ∷ []) (omega arith) c.put_record_byte-coded.ensures in
    let named = laid_more (byte a.console.0 ∷ []) coded (omega arith) c.put_record_byte-second.ensures in
    (laid_more (word a.version.0) named (omega arith) c.put_record_word.ensures).put
