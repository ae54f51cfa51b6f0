-- `tape::scan::scan_on` meets its contract. The loop's invariant is `Scanning`, the measure what is left of the tape.
use mathlib.Core.Path.{◌≡◌, ◌∙◌}
use native.Mathlib.Omega.{arith}
use borrow.Author.Rules.{rules}
use Rattle.std.specs.Prelude.{Some, None}
use Rattle.tape.specs.declared.scan.Role.TheVariants.{Version, Head, Hub, End}
use Rattle.tape.proofs.Scans.{scanning_starts, scanning_out, scanning_refused, scanning_version, scanning_head, scanning_hub, scanning_ended}
use Rattle.tape.proofs.scan.scan_on.Goals as goal

pub loop-at-init : goal.loop-at-init
loop-at-init c = scanning_starts _ _ _ c.requires.0 c.requires.1

pub returns-in_err-role : goal.returns-in_err-role
returns-in_err-role c = let e : c.from_residual.result ≡ None = search rules in
    let k : c.role_of-role.result ≡ None = search rules in
    e ∙ scanning_refused c.loop-at.invariant c.loop-at-test.true c.read_at-read.ensures.0 c.role_of-role.ensures k

pub loop-at-smaller-in-Version : goal.loop-at-smaller-in-Version
loop-at-smaller-in-Version c = let k : c.role_of-role.result ≡ Some Version = search rules in
    let on = scanning_version c.loop-at.invariant c.loop-at-test.true c.read_at-read.ensures.0 c.role_of-role.ensures c.read_at-read.ensures.1 c.read_at-read.ensures.2 k in
    omega (arith, on.0)

pub loop-at-preserved-in-Version : goal.loop-at-preserved-in-Version
loop-at-preserved-in-Version c = let k : c.role_of-role.result ≡ Some Version = search rules in
    (scanning_version c.loop-at.invariant c.loop-at-test.true c.read_at-read.ensures.0 c.role_of-role.ensures c.read_at-read.ensures.1 c.read_at-read.ensures.2 k).1

pub loop-at-smaller-in-Head : goal.loop-at-smaller-in-Head
loop-at-smaller-in-Head c = let k : c.role_of-role.result ≡ Some Head = search rules in
    let on = scanning_head c.loop-at.invariant c.loop-at-test.true c.read_at-read.ensures.0 c.role_of-role.ensures c.read_at-read.ensures.1 c.read_at-read.ensures.2 k in
    omega (arith, on.0)

pub loop-at-preserved-in-Head : goal.loop-at-preserved-in-Head
loop-at-preserved-in-Head c = let k : c.role_of-role.result ≡ Some Head = search rules in
    (scanning_head c.loop-at.invariant c.loop-at-test.true c.read_at-read.ensures.0 c.role_of-role.ensures c.read_at-read.ensures.1 c.read_at-read.ensures.2 k).1

pub loop-at-smaller : goal.loop-at-smaller
loop-at-smaller c = let k : c.role_of-role.result ≡ Some Hub = search rules in
    let on = scanning_hub c.loop-at.invariant c.loop-at-test.true c.read_at-read.ensures.0 c.role_of-role.ensures c.read_at-read.ensures.1 c.read_at-read.ensures.2 k in
    omega (arith, on.0)

pub loop-at-preserved : goal.loop-at-preserved
loop-at-preserved c = let k : c.role_of-role.result ≡ Some Hub = search rules in
    (scanning_hub c.loop-at.invariant c.loop-at-test.true c.read_at-read.ensures.0 c.role_of-role.ensures c.read_at-read.ensures.1 c.read_at-read.ensures.2 k).1

pub returns-in-End : goal.returns-in-End
returns-in-End c = let k : c.role_of-role.result ≡ Some End = search rules in
    scanning_ended c.loop-at.invariant c.loop-at-test.true c.read_at-read.ensures.0 c.role_of-role.ensures c.read_at-read.ensures.1 k _ (search rules)

pub returns : goal.returns
returns c = scanning_out c.loop-at.invariant c.loop-at-test.false
