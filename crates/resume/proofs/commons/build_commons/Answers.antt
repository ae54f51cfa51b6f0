-- `resume::commons::build_commons` meets its contract: the heads are put onto the diagonal, and the table is filled and judged.
use Rattle.resume.proofs.HeadsJudged.{heads_low, heads_judged}
use Rattle.resume.proofs.RoomJudged.{range_facts}
use Rattle.resume.proofs.commons.build_commons.Goals as goal

pub build_pairs-requires : goal.build_pairs-requires
build_pairs-requires c = let t = c.args.tape.now in
    let k = range_facts t c.whole-whole.ensures.1 c.whole-whole.ensures.2 in
    record {
      by_index = heads_low t k.rise k.named (rw c.whole-whole.ensures.0 at c.put_heads.ensures) k.small;
    }

pub returns : goal.returns
returns c = let t = c.args.tape.now in
    let k = range_facts t c.whole-whole.ensures.1 c.whole-whole.ensures.2 in
    heads_judged t k.rise k.named (rw c.whole-whole.ensures.0 at c.put_heads.ensures) k.small c.requires.rows_of c.build_pairs.ensures.0 c.build_pairs.ensures.1
