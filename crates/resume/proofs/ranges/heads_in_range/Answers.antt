-- `resume::ranges::heads_in_range` meets its contract. The loop's invariant: the first `j` heads were read from the bytes and are in range, and `last` is the console of the last of them.
use mathlib.Core.Path.{◌≡◌, ◌∙◌}
use mathlib.Core.Bool.{true, false}
use native.Mathlib.Omega.{arith}
use borrow.Author.Rules.{rules}
use Rattle.std.specs.Prelude.{Err}
use Rattle.refusal.specs.declared.Refusal.TheVariants.{TapeOutOfRange}
use Rattle.resume.proofs.Along.{head_inside}
use Rattle.resume.proofs.Passed.{followed_none, followed_all, followed_more, heads_refused, no_heads}
use Rattle.resume.proofs.ranges.heads_in_range.Goals as goal

pub returns-in_err-refuse_if : goal.returns-in_err-refuse_if
returns-in_err-refuse_if c =
    let e : c.from_residual.result ≡ Err TapeOutOfRange = search rules in
    e ∙ rw (no_heads c.args.tape.now (search rules))

pub loop-j-init : goal.loop-j-init
loop-j-init c = (λ k. (omega (arith, c.type_inv.bytes k)), followed_none c.args.tape.now c.requires.0)

pub read_head-read-requires : goal.read_head-read-requires
read_head-read-requires c = head_inside c.bytes-bytes.result.now _ c.loop-j.invariant.0 c.bytes-bytes.ensures c.loop-j.invariant.1 (omega arith)

pub returns-in_err-refuse_if-2 : goal.returns-in_err-refuse_if-2
returns-in_err-refuse_if-2 c =
    let read = c.read_head-read.ensures in
    let e : c.from_residual-in_err-refuse_if-2.result ≡ Err TapeOutOfRange = search rules in
    let out : c.head_in_range-in_range.result ≡ false = search rules in
    e ∙ rw (heads_refused c.bytes-bytes.result.now _ c.loop-j.invariant.0 c.bytes-bytes.ensures c.loop-j.invariant.1 (omega arith) c.requires.1 read.0 read.1 (search rules))

pub loop-j-preserved : goal.loop-j-preserved
loop-j-preserved c = let read = c.read_head-read.ensures in
    let fits : c.head_in_range-in_range.result ≡ true = search rules in
    (c.loop-j.invariant.0, followed_more c.bytes-bytes.result.now _ c.loop-j.invariant.0 c.bytes-bytes.ensures c.loop-j.invariant.1 (omega arith) c.requires.1 read.0 read.1 (search rules) read.2)

pub returns : goal.returns
returns c = rw (followed_all c.args.tape.now c.loop-j.invariant.1 (omega arith) (search rules))
