-- `update::append::list_entry` meets its contract.
use native.Mathlib.Omega.{arith}
use mathlib.Core.Path.{refl}
use Rattle.buffer.specs.Row.{with_member}
use Rattle.buffer.proofs.Fields.{part_length}
use Rattle.store.specs.Layout.{row_size, entries_at}
use Rattle.store.specs.Check.{entries_part}
use Rattle.buffer.proofs.Patches.{put_lent}
use Rattle.update.proofs.Appended.{member_keeps}
use Rattle.update.proofs.append.list_entry.Goals as goal

pub returns : goal.returns
returns c = let s = c.args.s.now in
    put_lent s _ (with_member (entries_part s) c.args.n.0) entries_at entries_at row_size refl c.add_member.ensures
    (member_keeps row_size c.args.n.0 (entries_part s) (part_length s entries_at row_size (omega arith)))
