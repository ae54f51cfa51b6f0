-- `store::version::versions_right` meets its contract. The loop's invariant: the versions up to `k` are right. The measure is what is left of them.
use native.Mathlib.Omega.{arith}
use borrow.Author.Tests.{not-false}
use Rattle.laws.proofs.Logic.{not_e}
use Rattle.store.proofs.VersionTests.{passed_none, passed_more, passed_all, versions_none, versions_less}
use Rattle.store.proofs.version.versions_right.Goals as goal

pub returns-then-not-root_right : goal.returns-then-not-root_right
returns-then-not-root_right c = let a = c.args in
    versions_none a.blocks.now.bytes.now a.n _ c.root_right.ensures (not_e c.root_right.result c.if-not-root_right.true-raw)

pub loop-k-init : goal.loop-k-init
loop-k-init c = let a = c.args in
    passed_none a.blocks.now.bytes.now a.n _ c.root_right.ensures (not-false c.root_right.result c.if-not-root_right.false-raw)

pub returns-then-not-version_right : goal.returns-then-not-version_right
returns-then-not-version_right c = versions_less _ _ _ _ (omega arith) c.version_right.ensures (not_e c.version_right.result c.if-not-version_right.true-raw)

pub loop-k-preserved : goal.loop-k-preserved
loop-k-preserved c = passed_more _ c.loop-k.invariant (omega arith) c.version_right.ensures (not-false c.version_right.result c.if-not-version_right.false-raw)

pub returns : goal.returns
returns c = passed_all c.loop-k.invariant (omega arith)
