-- `resume::writing::put_header` meets its contract: the count was written, and the table's part that was lent comes back as the header's.
use mathlib.Core.Path.{refl, ap, ◌∙◌}
use mathlib.Core.List.{List}
use Prim.Native.Nat.{ℕ}
use native.Mathlib.Omega.{arith}
use Rattle.buffer.specs.Field.{part, with_part}
use Rattle.buffer.proofs.Fields.{part_length}
use Rattle.buffer.proofs.Patches.{put_lent}
use Rattle.store.specs.Layout.{commons_at, commons_size}
use Rattle.resume.specs.Writing.{with_header}
use Rattle.resume.proofs.writing.put_header.Goals as goal

pub returns : goal.returns
unfolding with_header
returns c = let header = c.args.header.now in
    let table = part header commons_at commons_size in
    put_lent c.put_word.new.s _ table commons_at commons_at commons_size refl c.copy_from_slice.ensures.after (part_length header commons_at commons_size (omega arith))
    ∙ ap (λ (s : List ℕ). with_part s commons_at table) c.put_word.ensures
