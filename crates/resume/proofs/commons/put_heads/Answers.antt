-- `resume::commons::put_heads` meets its contract. The loop's invariant: the first `j` heads stand in the header.
use Rattle.resume.proofs.Along.{head_inside}
use Rattle.resume.proofs.Reread.{headed_none, headed_more, head_bounds}
use native.Mathlib.Omega.{arith}
use Rattle.resume.proofs.commons.put_heads.Goals as goal

pub loop-j-init : goal.loop-j-init
loop-j-init c = headed_none c.args.tape.now c.requires.tape_bound.1 (omega arith) c.requires.header_value

pub read_head-read-requires : goal.read_head-read-requires
read_head-read-requires c = head_inside c.bytes-bytes.result.now _ (λ k. (omega (arith, c.type_inv.bytes k))) c.bytes-bytes.ensures c.loop-j.invariant (omega arith)

pub put_head-requires : goal.put_head-requires
put_head-requires c = let read = c.read_head-read.ensures in
    let bounds = head_bounds c.bytes-bytes.result.now c.args.tape.now (λ k. (omega (arith, c.type_inv.bytes k))) c.bytes-bytes.ensures c.loop-j.invariant (omega arith) read.0 read.1 c.requires.tape_value.0 c.requires.tape_value.1 in
    let long = c.loop-j.invariant.built.0 in
    record {
      header_size_in_bounds = omega arith;
      c_lt_console_count = bounds.0;
    }

pub loop-j-preserved : goal.loop-j-preserved
loop-j-preserved c = let read = c.read_head-read.ensures in
    headed_more c.bytes-bytes.result.now _ (λ k. (omega (arith, c.type_inv.bytes k))) c.bytes-bytes.ensures c.loop-j.invariant (omega arith) read.0 read.1
    c.put_head.ensures read.2
