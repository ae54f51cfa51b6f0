-- `buffer::is_same` meets its contract: what is put together of all bytes is 0 exactly when they are the same.
use Rattle.std.proofs.Common.{rules}
use Rattle.std.proofs.lemmas.Iterator.{YieldsList-from_slice, YieldsList-from_zip}
use Rattle.std.proofs.lemmas.Iterator.Consumers.{fold_from_yields_List}
use Rattle.buffer.proofs.Accumulate.{differ, fold_differ}
use Rattle.buffer.proofs.is_same.Goals as goal

pub returns : goal.returns
returns c = let a = c.args in
    rw (fold_from_yields_List _ differ _ _ c.fold.ensures.ran (YieldsList-from_zip (YieldsList-from_slice a.s.now cc) (YieldsList-from_slice a.t.now cc)) (λ a x r q k. search rules)) (fold_differ a.s.now a.t.now 0 c.requires)
