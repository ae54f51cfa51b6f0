-- `buffer::is_zero` meets its contract: what is put together of all bytes is 0 exactly when each is.
use Rattle.std.proofs.Common.{rules}
use Rattle.std.proofs.lemmas.Iterator.{YieldsList-from_slice}
use Rattle.std.proofs.lemmas.Iterator.Consumers.{fold_from_yields_List}
use lib.Bits.{bit_or}
use Rattle.buffer.proofs.Accumulate.{fold_or}
use Rattle.buffer.proofs.is_zero.Goals as goal

pub returns : goal.returns
returns c = let s = c.args.s.now in
    rw (fold_from_yields_List _ bit_or _ _ c.fold.ensures.ran (YieldsList-from_slice s cc) (λ a x r q k. search rules)) (fold_or s 0)
