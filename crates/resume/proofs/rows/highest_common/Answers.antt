-- `resume::rows::highest_common` meets its contract. The loop's invariant: the rows share no member from word `k` on.
use mathlib.Core.Path.{◌≡◌}
use native.Mathlib.Omega.{arith}
use Rattle.resume.proofs.Highest.{above_more, above_found, above_all}
use Rattle.resume.proofs.rows.highest_common.Goals as goal

pub returns-then-x-ne0 : goal.returns-then-x-ne0
returns-then-x-ne0 c =
    above_found _ _ (λ i. omega (arith, c.type_inv.p i)) (λ i. omega (arith, c.type_inv.q i)) c.requires.p_len c.requires.q_len
    c.loop-k.invariant c.loop-k-test.true c.top_bit.result c.top_bit.ensures.0 cc

pub loop-k-preserved : goal.loop-k-preserved
loop-k-preserved c =
    above_more _ _ (λ i. omega (arith, c.type_inv.p i)) (λ i. omega (arith, c.type_inv.q i)) c.requires.p_len c.requires.q_len
    c.loop-k.invariant c.loop-k-test.true cc

pub returns : goal.returns
returns c = let e : c.loop-k.k ≡ 0 = omega arith in
    (above_all _ _ (rw e at c.loop-k.invariant), omega arith)
