-- `buffer::is_intersection` meets its contract: what is put together of all bytes is 0 exactly when they are those of the intersection.
use Rattle.std.proofs.Common.{rules}
use Rattle.std.proofs.lemmas.Iterator.{YieldsList-from_slice, YieldsList-from_zip}
use Rattle.std.proofs.lemmas.Iterator.Consumers.{fold_from_yields_List}
use lib.Bits.{bit_and}
use Rattle.buffer.proofs.Accumulate.{differ_from, fold_differ_from}
use Rattle.buffer.proofs.is_intersection.Goals as goal

pub returns : goal.returns
returns c = let a = c.args in
    rw (fold_from_yields_List _ (differ_from bit_and) _ _ c.fold.ensures.ran
    (YieldsList-from_zip (YieldsList-from_zip (YieldsList-from_slice a.s.now cc) (YieldsList-from_slice a.p.now cc)) (YieldsList-from_slice a.q.now cc))
    (λ a x r q k. search rules))
    (fold_differ_from bit_and a.s.now a.p.now a.q.now 0 c.requires.s_len c.requires.s_len_2)
