-- `resume::soundness::build_rows` meets its contract. The loop's invariant: the rows of the first `k` versions were written, and `based` says whether each merge among them has a base.
use Rattle.resume.proofs.Along.{version_inside}
use Rattle.resume.proofs.Grown.{rows_root}
use Rattle.resume.proofs.Reread.{rowed_none, rowed_more, next_ranged}
use native.Mathlib.Omega.{arith}
use Rattle.resume.proofs.soundness.build_rows.Goals as goal

pub loop-k-init : goal.loop-k-init
loop-k-init c = rowed_none c.args.tape.now c.coded_length-at.ensures (rw c.put_root.ensures (rows_root c.args.rows.now.0 (omega arith)))

pub read_version-read-requires : goal.read_version-read-requires
read_version-read-requires c = version_inside c.bytes-bytes.result.now _ (λ k. (omega (arith, c.type_inv.bytes k))) c.bytes-bytes.ensures c.loop-k.invariant (omega arith)

pub build_row-here-requires : goal.build_row-here-requires
build_row-here-requires c = (
  omega arith,
  next_ranged c.bytes-bytes.result.now _ (λ k. (omega (arith, c.type_inv.bytes k))) c.bytes-bytes.ensures c.requires.tape_value c.loop-k.invariant (omega arith) c.read_version-read.ensures.0,
)

pub loop-k-preserved : goal.loop-k-preserved
loop-k-preserved c = let made = c.build_row-here.ensures in
    let read = c.read_version-read.ensures in
    rowed_more c.bytes-bytes.result.now _ (λ k. (omega (arith, c.type_inv.bytes k))) c.bytes-bytes.ensures c.requires.tape_value (omega arith) c.loop-k.invariant (omega arith)
    read.0 made.0 made.1 read.1
