-- `pause::write::put_version_records` meets its contract. The loop's invariant is `Piled`: the records before that of k are written.
use native.Mathlib.Omega.{arith}
use Prim.Native.Nat.{◌+◌, ◌-◌}
use mathlib.Core.Path.{◌≡◌}
use Rattle.pause.proofs.Piled.{piled_none, piled_fits, piled_more}
use Rattle.pause.proofs.Pieces.{version_pieces_lem}
use Rattle.pause.proofs.write.put_version_records.Goals as goal

pub loop-k-init : goal.loop-k-init
loop-k-init c = piled_none (version_pieces_lem c.args.s.now) _ _ _ c.requires.n_in_bounds

pub put_version_record-at-requires : goal.put_version_record-at-requires
put_version_record-at-requires c =
    let k = c.loop-k.k in
    let this : k - 1 + 1 ≡ k = omega arith in
    rw c.read_node.ensures (rw this at (piled_fits (version_pieces_lem c.args.s.now) c.loop-k.invariant (omega arith)))

pub loop-k-preserved : goal.loop-k-preserved
loop-k-preserved c =
    let k = c.loop-k.k in
    let after : k + 1 - 1 ≡ k - 1 + 1 = omega arith in
    let this : k ≡ k - 1 + 1 = omega arith in
    rw after (piled_more (version_pieces_lem c.args.s.now) c.loop-k.invariant (omega arith) (rw (c.read_node.ensures, this) at c.put_version_record-at.ensures))

pub shape_of-tape : goal.shape_of-tape
shape_of-tape c = c.loop-k.invariant.laid.kept
