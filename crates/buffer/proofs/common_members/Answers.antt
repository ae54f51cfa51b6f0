-- `buffer::common_members` meets its contract: the sum over the words is the count, and fits by the bound on that.
use Prim.Native.Nat.{◌/◌}
use native.Mathlib.Omega.{arith}
use lib.ListN.{length}
use Rattle.std.proofs.Common.{refl, rules}
use Rattle.std.proofs.lemmas.Iterator.{YieldsList-from_slice, YieldsList-from_zip, YieldsList-from_map}
use Rattle.std.proofs.lemmas.Iterator.Consumers.{YieldsList-at, sum_from_yields_List, fits_from_yields_list}
use Rattle.std.specs.Simd.{first_chunks}
use Rattle.buffer.proofs.Ones.{in_word, all_words}
use Rattle.buffer.proofs.common_members.Goals as goal

pub sum-requires-clause-fits : goal.sum-requires-clause-fits
sum-requires-clause-fits c = let s = c.args.s.now in
    let t = c.args.t.now in
    let counted = all_words s t (λ k. omega (arith, c.type_inv.s k)) c.requires.s_len c.requires.s_len_2 c.requires.s_len_bound in
    fits_from_yields_list c.map.result _
    (YieldsList-from_map _ in_word (YieldsList-at c.map.ensures.source
    (YieldsList-from_zip (YieldsList-from_slice (first_chunks 8 (length s / 8) s) cc) (YieldsList-from_slice (first_chunks 8 (length t / 8) t) cc))) c.map.ensures.closure
    (λ x r q k. search rules))
    (omega arith)

pub returns : goal.returns
returns c = let s = c.args.s.now in
    let t = c.args.t.now in
    let counted = all_words s t (λ k. omega (arith, c.type_inv.s k)) c.requires.s_len c.requires.s_len_2 c.requires.s_len_bound in
    rw (
      sum_from_yields_List c.map.result _ c.sum.ensures.ran
          (YieldsList-from_map _ in_word (YieldsList-at c.map.ensures.source
          (YieldsList-from_zip (YieldsList-from_slice (first_chunks 8 (length s / 8) s) cc) (YieldsList-from_slice (first_chunks 8 (length t / 8) t) cc))) c.map.ensures.closure
          (λ x r q k. search rules)),
      counted.0,
    ) (refl, counted.1)
