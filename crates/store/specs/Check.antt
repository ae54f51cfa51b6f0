-- The test that the code makes of lent bytes, in one pass over the versions: each version is held against the parts of its parents and its
-- base, which were tested before it. That it says of any bytes what `holds_store` says is a theorem, so a reader need not believe this file.
use Rattle.std.specs.Prelude.{ℕ, zero, suc, pred, ◌+◌, ◌-◌, ◌*◌, Bool, cond, not, ◌&&◌, ◌||◌, List, eqb, leb, ltb, length, Option, Some, None}
use Rattle.buffer.specs.Field.{word_at, zeros, part, same, all_zero}
use Rattle.buffer.specs.Row.{row, member, with_member, union, intersection, none_from}
use Rattle.board.specs.Board.{Merged, board_size, enter, merge_board}
use Rattle.graph.specs.Below.{every_below}
use Rattle.graph.specs.declared.Node.{Node}
use Rattle.graph.specs.declared.Version.{Version}
use Rattle.graph.specs.declared.Node.TheVariants.{Entry, Merge}
use Rattle.command.specs.Code.{console_count}
use Rattle.room.specs.Sound.{settings_in_range}
use Rattle.store.specs.Rules.{node_in_range, is_base}
use Rattle.store.specs.Layout.{header_size, node_size, row_size, block_size, store_size, capacity_at, hub_at, count_at, spare_at, entries_at, commons_end, common_at, block_at, node_strip_at, node_giver_at, node_base_at, row_at, board_at, node_in, settings_in}

abbrev pub row_part : List ℕ → ℕ → List ℕ
row_part s v = part s (row_at v) row_size

abbrev pub board_part : List ℕ → ℕ → List ℕ
board_part s v = part s (board_at v) board_size

-- the merge of the boards of p and q over that of l
abbrev pub merge_of_boards : List ℕ → ℕ → ℕ → ℕ → Merged
merge_of_boards s p q l = merge_board (board_part s l) (board_part s p) (board_part s q)

abbrev pub entries_part : List ℕ → List ℕ
entries_part s = part s entries_at row_size

-- version 0: no node, itself as its only ancestor, an empty board, no entry
unfoldable pub root_right : List ℕ → Bool
root_right s =
    all_zero (part s (block_at 0) node_size)
    && same (row_part s 0) (with_member (zeros row_size) 0)
    && all_zero (board_part s 0)
    && not (member (entries_part s) 0)

-- an entry on p: what its node does not use is zero, its row and its board are made of its parent's, and it is listed as an entry
unfoldable pub entry_parts : List ℕ → ℕ → ℕ → ℕ → ℕ → ℕ → Bool
entry_parts s v p code strip operand =
    all_zero (part s (node_giver_at v) (node_size - 6))
    && same (row_part s v) (with_member (row_part s p) v)
    && same (board_part s v) (enter code strip operand (board_part s p))
    && member (entries_part s) v

-- a merge of q into p with the base l: the base is theirs, and its row made of theirs
abbrev pub merge_rows : List ℕ → ℕ → ℕ → ℕ → ℕ → Bool
merge_rows s v p q l =
    is_base l p q (row_part s l) (row_part s p) (row_part s q)
    && same (row_part s v) (with_member (union (row_part s p) (row_part s q)) v)

-- what its node does not use is zero, its rows, its board is made of the three, and it is not listed as an entry
unfoldable pub merge_parts : List ℕ → ℕ → ℕ → ℕ → ℕ → Bool
merge_parts s v p q l =
    all_zero (part s (node_strip_at v) 3)
    && all_zero (part s (node_base_at v + 2) (node_size - 10))
    && merge_rows s v p q l
    && same (board_part s v) (merge_of_boards s p q l).bytes
    && not (member (entries_part s) v)

-- the parts of version v, as its node says; a base must be below it
abbrev pub node_parts : List ℕ → ℕ → Node → Bool
node_parts s v (Entry p code strip operand) = entry_parts s v p.0 code strip.0 operand
node_parts s v (Merge p q) = ltb (word_at s (node_base_at v)) v && merge_parts s v p.0 q.0 (word_at s (node_base_at v))

unfoldable pub version_right : List ℕ → ℕ → Bool
version_right s v = node_in_range v (node_in s v) && node_parts s v (node_in s v)

-- versions 0 to n
unfoldable pub versions_right : List ℕ → ℕ → Bool
versions_right s zero = root_right s
versions_right s (suc n) = versions_right s n && version_right s (suc n)

-- A field of the table of commons: 0, or 1 more than a version.
abbrev pub common_in : List ℕ → ℕ → ℕ → ℕ
common_in s c d = word_at s (common_at c d)

-- the field that stands for a version, or for none
abbrev pub field_number : Option Version → ℕ
field_number None = 0
field_number (Some v) = suc v.0

-- m as the field of two consoles whose own fields are u and v, of n versions: 0 where one is absent, else 1 more than the version whose row is
-- the intersection of their heads'
abbrev pub meet_right : List ℕ → ℕ → ℕ → ℕ → ℕ → Bool
meet_right s n m u v =
    cond (eqb u 0 || eqb v 0)
    (eqb m 0)
    (ltb 0 m && leb m n && same (row_part s (pred m)) (intersection (row_part s (pred u)) (row_part s (pred v))))

-- consoles c and d: the field stands at both of its places, and is right
unfoldable pub pair_right : List ℕ → ℕ → ℕ → ℕ → Bool
pair_right s n c d = eqb (common_in s d c) (common_in s c d) && meet_right s n (common_in s c d) (common_in s c c) (common_in s d d)

-- console c: its head is a version, and its pairs with the consoles below it are right
unfoldable pub console_right : List ℕ → ℕ → ℕ → Bool
console_right s n c = leb (common_in s c c) n && every_below c (pair_right s n c)

-- the versions that are an ancestor of a head of one of the first c consoles; row_of gives the row of a version
unfoldable pub behind_heads : List ℕ → (ℕ → List ℕ) → ℕ → List ℕ
behind_heads s row_of zero = zeros row_size
behind_heads s row_of (suc c) =
    cond (eqb (common_in s c c) 0) (behind_heads s row_of c) (union (behind_heads s row_of c) (row_of (pred (common_in s c c))))

-- the spare bytes of the header are zero
abbrev pub spare_zero : List ℕ → Bool
spare_zero s = all_zero (part s spare_at (entries_at - spare_at)) && all_zero (part s commons_end (header_size - commons_end))

-- nothing stands past the last of n versions: no bit of the row of entries, and no byte of the blocks that are free
abbrev pub rest_zero : List ℕ → ℕ → ℕ → Bool
rest_zero s capacity n = none_from (entries_part s) n && all_zero (part s (block_at n) (block_size * (capacity - n)))

abbrev pub consoles_right : List ℕ → ℕ → Bool
consoles_right s n = every_below console_count (console_right s n)

-- console 0 is present, and every version is an ancestor of a head
abbrev pub heads_cover : List ℕ → ℕ → Bool
heads_cover s n = ltb 0 (common_in s 0 0) && same (behind_heads s (row_part s) console_count) (row (λ v. ltb v n) row_size)

-- the common version of consoles c and d, where both are present, is a member of a row
abbrev pub common_in_row : List ℕ → List ℕ → ℕ → ℕ → Bool
common_in_row s members c d = eqb (common_in s c d) 0 || member members (pred (common_in s c d))

-- of every two consoles
unfoldable pub commons_in_row : List ℕ → List ℕ → Bool
commons_in_row s members = every_below console_count (λ c. every_below c (common_in_row s members c))

-- where console 0 is the hub, it could be made so: every two consoles' common version is in the row of its head
abbrev pub hub_right : List ℕ → Bool
hub_right s = not (settings_in s).hub || commons_in_row s (row_part s (pred (common_in s 0 0)))

-- what the room is set to can be, and its hub's field is that of a room with a hub or of one without
abbrev pub settings_right : List ℕ → Bool
settings_right s = settings_in_range (settings_in s) && leb (word_at s hub_at) 1

-- A store of this capacity with n versions, group by group as the code tests them: where one fails, none behind it is looked at.
unfoldable pub contents_right : List ℕ → ℕ → ℕ → Bool
contents_right s capacity n =
    leb 1 n
    && (leb n capacity
    && (spare_zero s
    && (versions_right s (pred n)
    && (rest_zero s capacity n
    && (consoles_right s n
    && heads_cover s n)))))

unfoldable pub store_right : List ℕ → Bool
store_right s =
    leb header_size (length s)
    && (settings_right s
    && (leb (store_size (word_at s capacity_at)) (length s)
    && (contents_right s (word_at s capacity_at) (word_at s count_at)
    && hub_right s)))
