-- `update::append::put_merge_board` meets its contract.
use mathlib.Core.Path.{sym}
use native.Mathlib.Omega.{arith}
use lib.Seq.{length-take-le}
use Rattle.update.proofs.Appended.{merged_put}
use Rattle.update.proofs.append.put_merge_board.Goals as goal

pub slice_bounds-merge_board-end-2 : goal.slice_bounds-merge_board-end-2
slice_bounds-merge_board-end-2 c = sym (length-take-le 384 _ (omega (arith, c.split_at_mut-before.ensures.back_len)))

pub merge_board-requires : goal.merge_board-requires
merge_board-requires c = (
  length-take-le 384 _ (omega (arith, c.split_at_mut-before.ensures.back_len)),
  c.board_part-base.ensures.1,
  c.board_part-mine.ensures.1,
  c.board_part-given.ensures.1,
)

pub returns : goal.returns
returns c = let a = c.args in
    let e = c.split_at_mut-before.ensures in
    let place = c.board_at.ensures in
    let merged = rw (c.board_part-base.ensures.0, c.board_part-mine.ensures.0, c.board_part-given.ensures.0, e.front, place) at c.merge_board.ensures in
    rw (e.front, e.back, place)
    (merged_put a.s.now a.n.0 c.requires.4 a.p.0 a.q.0 a.l.0 c.requires.0 c.requires.1 c.requires.2 merged)
