-- `resume::ranges::past_versions` meets its contract. The loop's invariant: the first `k` versions were read from the bytes, and are in range.
use mathlib.Core.Path.{◌≡◌, ◌∙◌}
use mathlib.Core.Bool.{true, false}
use native.Mathlib.Omega.{arith}
use borrow.Author.Rules.{rules}
use Rattle.std.specs.Prelude.{Err}
use Rattle.refusal.specs.declared.Refusal.TheVariants.{TapeOutOfRange}
use Rattle.resume.proofs.Along.{version_inside}
use Rattle.resume.proofs.Passed.{ranged_none, ranged_more, versions_refused}
use Rattle.resume.proofs.ranges.past_versions.Goals as goal

pub loop-k-init : goal.loop-k-init
loop-k-init c = (λ k. (omega (arith, c.type_inv.bytes k)), ranged_none c.args.tape.now c.coded_length-at.ensures)

pub read_version-read-requires : goal.read_version-read-requires
read_version-read-requires c = version_inside c.bytes-bytes.result.now _ c.loop-k.invariant.0 c.bytes-bytes.ensures c.loop-k.invariant.1 (omega arith)

pub returns-in_err-refuse_if : goal.returns-in_err-refuse_if
returns-in_err-refuse_if c =
    let e : c.from_residual.result ≡ Err TapeOutOfRange = search rules in
    let out : c.node_in_range-in_range.result ≡ false = search rules in
    e ∙ rw (versions_refused c.bytes-bytes.result.now _ c.loop-k.invariant.0 c.bytes-bytes.ensures c.loop-k.invariant.1 (omega arith) c.read_version-read.ensures.0 (search rules))

pub loop-k-preserved : goal.loop-k-preserved
loop-k-preserved c = let read = c.read_version-read.ensures in
    let fits : c.node_in_range-in_range.result ≡ true = search rules in
    (c.loop-k.invariant.0, ranged_more c.bytes-bytes.result.now _ c.loop-k.invariant.0 c.bytes-bytes.ensures c.loop-k.invariant.1 (omega arith) read.0 (search rules) read.1)
