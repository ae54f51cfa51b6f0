-- `tape::writer::put_merge_record` meets its contract.
use native.Mathlib.Omega.{arith}
use mathlib.Core.List.{[], ◌∷◌}
use Rattle.buffer.specs.Field.{word}
use Rattle.command.specs.Code.{merge_record}
use Rattle.buffer.proofs.Laid.{laid_one, laid_more}
use Rattle.tape.proofs.writer.put_merge_record.Goals as goal

pub returns : goal.returns
returns c = let a = c.args in
    let coded = laid_one (merge_record ∷ []) (omega arith) c.put_record_byte-coded.ensures in
    let received = laid_more (word a.receiver.0) coded (omega arith) c.put_record_word-second.ensures in
    (laid_more (word a.giver.0) received (omega arith) c.put_record_word.ensures).put
