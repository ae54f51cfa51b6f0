-- The rules of one version, of its numbers and rows wherever they stand: in a store, or on a tape and in rows of its own.
use Rattle.std.specs.Prelude.{ℕ, Bool, not, ◌&&◌, List, eqb, ltb}
use Rattle.buffer.specs.Field.{same}
use Rattle.buffer.specs.Row.{intersection}
use Rattle.graph.specs.declared.Node.{Node}
use Rattle.graph.specs.declared.Node.TheVariants.{Entry, Merge}
use Rattle.command.specs.Code.{is_entry_code, is_strip, is_operand}

-- "parents are lower numbers", "entry codes, strips and operands are in range": version v as an entry on p
abbrev pub entry_ranges : ℕ → ℕ → ℕ → ℕ → ℕ → Bool
entry_ranges v p code strip operand = is_entry_code code && is_strip strip && is_operand code operand && ltb p v

-- and as a merge of q into p
abbrev pub both_below : ℕ → ℕ → ℕ → Bool
both_below v p q = ltb p v && ltb q v

-- the numbers of version v, whatever made it
abbrev pub node_in_range : ℕ → Node → Bool
node_in_range v (Entry p code strip operand) = entry_ranges v p.0 code strip.0 operand
node_in_range v (Merge p q) = both_below v p.0 q.0

-- "a single lowest common ancestor, equal to neither": l as the base of a merge of q into p, by the rows of the three
abbrev pub is_base : ℕ → ℕ → ℕ → List ℕ → List ℕ → List ℕ → Bool
is_base l p q base mine given = not (eqb l p) && not (eqb l q) && same base (intersection mine given)
