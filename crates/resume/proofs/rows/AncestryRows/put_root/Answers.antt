-- `resume::rows::AncestryRows::put_root` meets its contract: the part that was lent comes back.
use mathlib.Core.Path.{refl, ◌∙◌}
use Rattle.buffer.specs.Field.{zeros}
use Rattle.buffer.specs.Row.{with_member}
use Rattle.buffer.proofs.Fields.{zeros_length}
use Rattle.buffer.proofs.Rows.{with_member-length}
use Rattle.buffer.proofs.Patches.{put_lent}
use Rattle.store.specs.Layout.{row_size}
use Rattle.resume.proofs.rows.AncestryRows.put_root.Goals as goal

pub returns : goal.returns
returns c = put_lent c.args.self.now.0 _ (with_member (zeros row_size) 0) 0 0 row_size refl c.make_root.ensures (with_member-length (zeros row_size) 0 ∙ zeros_length row_size)
