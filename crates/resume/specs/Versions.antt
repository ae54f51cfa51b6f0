-- The rows of a tape's versions as they are made one after the other, and the base of a merge by them.
use Rattle.std.specs.Prelude.{ℕ, ◌*◌, Bool, true, List}
use Rattle.buffer.specs.Field.{with_part}
use Rattle.buffer.specs.Row.{with_member, union}
use Rattle.graph.specs.declared.Node.{Node}
use Rattle.graph.specs.declared.Node.TheVariants.{Entry, Merge}
use Rattle.graph.specs.Graph.{serves_as_base}
use Rattle.store.specs.Layout.{row_size, head_from}
use Rattle.resume.specs.Rows.{highest_common, own_row, meet_field}

-- the rows with that of version v
abbrev pub rows_with : List ℕ → ℕ → Node → List ℕ
rows_with rows v (Entry p code strip operand) = with_part rows (row_size * v) (with_member (own_row rows p.0) v)
rows_with rows v (Merge p q) = with_part rows (row_size * v) (with_member (union (own_row rows p.0) (own_row rows q.0)) v)

-- the parents of a merge have a meet that is neither of them
abbrev pub base_found : List ℕ → Node → Bool
base_found rows (Entry p code strip operand) = true
base_found rows (Merge p q) = serves_as_base p.0 q.0 (head_from (meet_field rows p.0 q.0))

-- the base of a merge: the highest version that the rows of its parents have in common; an entry has none, and 0 stands for it
abbrev pub base_in : List ℕ → Node → ℕ
base_in rows (Entry p code strip operand) = 0
base_in rows (Merge p q) = highest_common (own_row rows p.0) (own_row rows q.0)
