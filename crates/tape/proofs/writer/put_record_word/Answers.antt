-- `tape::writer::put_record_word` meets its contract.
use mathlib.Core.Path.{refl, ◌∙◌}
use Rattle.buffer.proofs.Patches.{word_part}
use Rattle.tape.proofs.writer.put_record_word.Goals as goal

pub returns : goal.returns
returns c = (refl, c.put_word.ensures ∙ word_part c.args.tape.now c.args.at c.args.x c.requires)
