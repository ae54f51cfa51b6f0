-- `tape::writer::put_entry_record` meets its contract.
use native.Mathlib.Omega.{arith}
use mathlib.Core.List.{[], ◌∷◌}
use Rattle.buffer.specs.Field.{byte, word}
use Rattle.command.specs.Code.{entry_record}
use Rattle.buffer.proofs.Laid.{laid_one, laid_more}
use Rattle.tape.proofs.writer.put_entry_record.Goals as goal

pub returns : goal.returns
returns c = let a = c.args in
    let g₁ = laid_one (entry_record ∷ []) (omega arith) c.put_record_byte-coded.ensures in
    let g₂ = laid_more (word a.parent.0) g₁ (omega arith) c.put_record_word-second.ensures in
    let g₃ = laid_more (byte a.code ∷ []) g₂ (omega arith) c.put_record_byte-third.ensures in
    let g₄ = laid_more (byte a.strip.0 ∷ []) g₃ (omega arith) c.put_record_byte-fourth.ensures in
    (laid_more (word a.operand) g₄ (omega arith) c.put_record_word.ensures).put
