-- `buffer::put_extended_union` meets its contract.
use mathlib.Core.Path.{sym, ◌∙◌}
use native.Mathlib.Omega.{arith}
use lib.Bits.{bit_or}
use lib.Seq.{length-take-le}
use Rattle.buffer.specs.Field.{part}
use Rattle.buffer.specs.Row.{with_member, union, row_width}
use Rattle.buffer.proofs.Bytewise.{bytewise_length}
use Rattle.buffer.proofs.Fields.{part_length}
use Rattle.buffer.proofs.Rows.{with_member-length}
use Rattle.buffer.proofs.Patches.{put_back, part_before}
use Rattle.buffer.proofs.put_extended_union.Goals as goal

pub slice_bounds-row-end-2 : goal.slice_bounds-row-end-2
slice_bounds-row-end-2 c = sym (length-take-le 128 _ (omega (arith, c.split_at_mut-before.ensures.back_len)))

pub copy_from_slice-requires : goal.copy_from_slice-requires
copy_from_slice-requires c = length-take-le 128 _ (omega (arith, c.split_at_mut-before.ensures.back_len)) ∙ sym c.part_of.ensures.1

pub returns : goal.returns
returns c = let a = c.args in
    let s = a.s.now in
    let one = part s a.p row_width in
    let other = part s a.q row_width in
    let e = c.split_at_mut-before.ensures in
    let long = part_length s a.p row_width (omega arith) in
    let written = rw (
      c.copy_from_slice.ensures.after,
      c.part_of.ensures.0,
      c.part_of-2.ensures.0,
      e.front,
      part_before s a.p row_width a.to (omega arith) (omega arith),
      part_before s a.q row_width a.to (omega arith) (omega arith),
    ) at c.add_extended.ensures in
    rw (e.front, e.back, written)
    (put_back s (with_member (union one other) a.v) a.to row_width (with_member-length (union one other) a.v ∙ bytewise_length bit_or one other (long ∙ sym (part_length s a.q row_width (omega arith))) ∙ long))
