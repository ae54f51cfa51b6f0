-- "Versions are numbered from 0. Version 0 has an empty board and no parent. Every later version is an entry (one parent, one strip
-- change) or a merge (receiver's parent, giver's parent, base)." The version graph, ancestors, and the meet of two versions.
use Rattle.std.specs.Prelude.{ℕ, suc, Bool, true, false, cond, not, ◌&&◌, ◌||◌, List, [], ◌∷◌, eqb, ltb, length}
use Rattle.std.proofs.Math.Option.{Option, none, some, get_or}
use Rattle.graph.specs.declared.Node.{Node}
use Rattle.graph.specs.declared.Node.TheVariants.{Entry, Merge}
use Rattle.graph.specs.Below.{every_below, highest_below}

-- A version after version 0, by its numbers: an entry's parent, code, strip and operand; a merge's receiver's version and giver's version.
abbrev pub entry : ℕ → ℕ → ℕ → ℕ → Node
entry parent code strip operand = Entry (record { 0 = parent }) code (record { 0 = strip }) operand

abbrev pub merge : ℕ → ℕ → Node
merge receiver giver = Merge (record { 0 = receiver }) (record { 0 = giver })

-- the versions after version 0, the newest first, so that each stands before all that it can descend from
abbrev pub Graph : Type 0
Graph = List Node

-- how many versions there are, version 0 included
abbrev pub version_count : Graph → ℕ
version_count g = suc (length g)

-- some parent of a version passes a test
abbrev pub some_parent : (ℕ → Bool) → Node → Bool
some_parent f (Entry p code strip operand) = f p.0
some_parent f (Merge p q) = f p.0 || f q.0

-- "For each version an ancestry row, one bit per version, says which versions it descends from, itself included":
-- u is an ancestor of v. A number that names no version has no ancestor.
unfoldable pub ancestor : Graph → ℕ → ℕ → Bool
ancestor [] u v = eqb v 0 && eqb u 0
ancestor (n ∷ g) u v =
    cond (eqb v (version_count g)) (eqb u v || some_parent (ancestor g u) n) (ancestor g u v)

-- version v; none for version 0, and for a number that names no version
unfoldable pub node_of : Graph → ℕ → Option Node
node_of [] v = none
node_of (n ∷ g) v = cond (eqb v (version_count g)) (some n) (node_of g v)

-- what made a version is an entry
abbrev pub is_entry_node : Option Node → Bool
is_entry_node none = false
is_entry_node (some (Entry p code strip operand)) = true
is_entry_node (some (Merge p q)) = false

-- version v is an entry
abbrev pub is_entry : Graph → ℕ → Bool
is_entry g v = is_entry_node (node_of g v)

abbrev pub common_ancestor : Graph → ℕ → ℕ → ℕ → Bool
common_ancestor g u v w = ancestor g w u && ancestor g w v

-- "the ancestor of both heads of which every other common ancestor is an ancestor": m is the meet (the single lowest common ancestor)
-- of u and v
unfoldable pub is_meet : Graph → ℕ → ℕ → ℕ → Bool
is_meet g u v m =
    common_ancestor g u v m && every_below (version_count g) (λ w. not (common_ancestor g u v w) || ancestor g w m)

-- the meet, where there is one; no two versions pass the test, so that the highest that does is the only one
unfoldable pub meet : Graph → ℕ → ℕ → Option ℕ
meet g u v = highest_below (version_count g) (is_meet g u v)

-- the number of the meet, for where there is one
abbrev pub meet_number : Graph → ℕ → ℕ → ℕ
meet_number g u v = get_or (meet g u v) 0

abbrev pub is_some : Option ℕ → Bool
is_some none = false
is_some (some m) = true

-- every version after version 0 passes a test, which is given the versions before it and the version
unfoldable pub every_version : (Graph → Node → Bool) → Graph → Bool
every_version f [] = true
every_version f (n ∷ g) = f g n && every_version f g

-- "parents are lower numbers": below the number of the version itself, which is the count of those before it
abbrev pub parents_lower : Graph → Node → Bool
parents_lower g (Entry p code strip operand) = ltb p.0 (version_count g)
parents_lower g (Merge p q) = ltb p.0 (version_count g) && ltb q.0 (version_count g)

-- "the two parents of a merge have a single lowest common ancestor, equal to neither, and it is the base": the base of a merge is the
-- meet of its parents among the versions before it
abbrev pub base_of : Graph → ℕ → ℕ → ℕ
base_of g p q = meet_number g p q

abbrev pub serves_as_base : ℕ → ℕ → Option ℕ → Bool
serves_as_base p q none = false
serves_as_base p q (some m) = not (eqb m p) && not (eqb m q)

abbrev pub merge_has_base : Graph → Node → Bool
merge_has_base g (Entry p code strip operand) = true
merge_has_base g (Merge p q) = serves_as_base p.0 q.0 (meet g p.0 q.0)
