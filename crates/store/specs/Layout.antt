-- "A store takes 4,096 + 544 × capacity bytes at the front of the lent buffer; .. Its layout is the team's, written in docs/, with unused
-- parts zero, so that one store has one encoding." docs/LAYOUT.md says the same in words.
use Rattle.std.specs.Prelude.{ℕ, zero, suc, ◌+◌, ◌-◌, ◌*◌, ◌/◌, pred, Bool, true, false, cond, ◌&&◌, List, [], ◌∷◌, ◌++◌, eqb, leb, length, get_or, take}
use Rattle.std.proofs.Math.Option.{Option, none, some}
use Rattle.buffer.specs.Field.{byte, word, word_at, zeros, same}
use Rattle.buffer.specs.Row.{row}
use Rattle.board.specs.Board.{board_size}
use Rattle.graph.specs.declared.Node.{Node}
use Rattle.graph.specs.declared.Node.TheVariants.{Entry, Merge}
use Rattle.graph.specs.Graph.{Graph, entry, merge, version_count, ancestor, is_entry, node_of, base_of}
use Rattle.command.specs.Code.{console_count}
use Rattle.room.specs.declared.Settings.{Settings}
use Rattle.room.specs.Room.{Room, present, common}
use Rattle.room.specs.Sound.{max_capacity, sound_room}
use Rattle.room.specs.Boards.{board_of}

-- Sizes: a store is a header and one block for each version that it may hold; a block is a node (what made the version), an ancestry row and
-- a board.
abbrev pub header_size : ℕ
header_size = 4096

abbrev pub node_size : ℕ
node_size = 32

-- one bit for each version that a store of the highest capacity may hold
abbrev pub row_size : ℕ
row_size = max_capacity / 8

abbrev pub block_size : ℕ
block_size = node_size + row_size + board_size

abbrev pub store_size : ℕ → ℕ
store_size capacity = header_size + block_size * capacity

-- Places in the header: what the room is set to, the number of versions, a spare part, the row of the entry versions, the table of common
-- versions.
abbrev pub settings_at : ℕ
settings_at = 0

abbrev pub capacity_at : ℕ
capacity_at = settings_at

abbrev pub hub_at : ℕ
hub_at = capacity_at + 2

abbrev pub settings_end : ℕ
settings_end = hub_at + 2

abbrev pub count_at : ℕ
count_at = settings_end

abbrev pub spare_at : ℕ
spare_at = count_at + 2

abbrev pub entries_at : ℕ
entries_at = 128

abbrev pub commons_at : ℕ
commons_at = entries_at + row_size

abbrev pub commons_size : ℕ
commons_size = 2 * console_count * console_count

abbrev pub commons_end : ℕ
commons_end = commons_at + commons_size

-- the place of the field of consoles c and d, which stands for their common version; of a console with itself, for its head
abbrev pub common_at : ℕ → ℕ → ℕ
common_at c d = commons_at + 2 * (console_count * c + d)

abbrev pub head_at : ℕ → ℕ
head_at c = common_at c c

-- the place of the block of version v, and of what it is made of
abbrev pub block_at : ℕ → ℕ
block_at v = header_size + block_size * v

-- the code of a merge in its node; no entry has it
abbrev pub merge_node_code : ℕ
merge_node_code = 0x09

-- the fields of the node: code, strip, operand, parent (a merge: the receiver's version), giver's version, base
abbrev pub node_code_at : ℕ → ℕ
node_code_at v = block_at v

abbrev pub node_strip_at : ℕ → ℕ
node_strip_at v = block_at v + 1

abbrev pub node_operand_at : ℕ → ℕ
node_operand_at v = block_at v + 2

abbrev pub node_parent_at : ℕ → ℕ
node_parent_at v = block_at v + 4

abbrev pub node_giver_at : ℕ → ℕ
node_giver_at v = block_at v + 6

abbrev pub node_base_at : ℕ → ℕ
node_base_at v = block_at v + 8

abbrev pub row_at : ℕ → ℕ
row_at v = block_at v + node_size

abbrev pub board_at : ℕ → ℕ
board_at v = block_at v + node_size + row_size

-- A field of the table: 0 where one of the two consoles is absent, else 1 more than their common version.
abbrev pub field_where : Bool → Room → ℕ → ℕ → ℕ
field_where true r c d = suc (common r c d)
field_where false r c d = 0

abbrev pub common_field : Room → ℕ → ℕ → ℕ
common_field r c d = field_where (present r c && present r d) r c d

-- the fields of n consoles against c, from console d on
unfoldable pub common_fields : Room → ℕ → ℕ → ℕ → List ℕ
common_fields r c d zero = []
common_fields r c d (suc n) = word (common_field r c d) ++ common_fields r c (suc d) n

-- the rows of n consoles, from console c on
unfoldable pub common_table : Room → ℕ → ℕ → List ℕ
common_table r c zero = []
common_table r c (suc n) = common_fields r c 0 console_count ++ common_table r (suc c) n

-- what a room is set to: its capacity, and 1 where console 0 is its hub, else 0
abbrev pub hub_number : Bool → ℕ
hub_number hub = cond hub 1 0

abbrev pub settings_bytes : Settings → List ℕ
settings_bytes settings = word settings.capacity ++ word (hub_number settings.hub)

unfoldable pub header : Room → List ℕ
header r =
    settings_bytes r.settings ++ word (version_count r.versions) ++ zeros (entries_at - spare_at)
    ++ row (is_entry r.versions) row_size
    ++ common_table r 0 console_count
    ++ zeros (header_size - commons_end)

-- The node of a version: a merge has a code of its own, version 0 has 0; what a version does not have is 0.
abbrev pub entry_node_bytes : ℕ → ℕ → ℕ → ℕ → List ℕ
entry_node_bytes p code strip operand = byte code ∷ byte strip ∷ word operand ++ word p ++ zeros (node_size - 6)

-- with l, the base of the merge of q into p
abbrev pub merge_node_bytes : ℕ → ℕ → ℕ → List ℕ
merge_node_bytes p q l = merge_node_code ∷ 0 ∷ 0 ∷ 0 ∷ word p ++ word q ++ word l ++ zeros (node_size - 10)

unfoldable pub node_bytes : Graph → Option Node → List ℕ
node_bytes g none = zeros node_size
node_bytes g (some (Entry p code strip operand)) = entry_node_bytes p.0 code strip.0 operand
node_bytes g (some (Merge p q)) = merge_node_bytes p.0 q.0 (base_of g p.0 q.0)

-- the block of version v of a graph
unfoldable pub block : Graph → ℕ → List ℕ
block g v = node_bytes g (node_of g v) ++ row (λ u. ancestor g u v) row_size ++ board_of g v

-- the blocks of the first n versions
unfoldable pub blocks : Graph → ℕ → List ℕ
blocks g zero = []
blocks g (suc n) = blocks g n ++ block g n

-- the one encoding of a room
unfoldable pub encode : Room → List ℕ
encode r =
    header r
    ++ blocks r.versions (version_count r.versions)
    ++ zeros (block_size * (r.settings.capacity - version_count r.versions))

-- Reading a room off bytes: the fields as they stand, whatever they hold.
unfoldable pub node_in : List ℕ → ℕ → Node
node_in s v =
    cond (eqb (get_or s (node_code_at v) 0) merge_node_code)
    (merge (word_at s (node_parent_at v)) (word_at s (node_giver_at v)))
    (entry (word_at s (node_parent_at v)) (get_or s (node_code_at v) 0) (get_or s (node_strip_at v) 0) (word_at s (node_operand_at v)))

-- versions 1 to n, the newest first
unfoldable pub versions_in : List ℕ → ℕ → Graph
versions_in s zero = []
versions_in s (suc n) = node_in s (suc n) ∷ versions_in s n

-- the head that a field stands for
abbrev pub head_from : ℕ → Option ℕ
head_from zero = none
head_from (suc v) = some v

-- the heads of n consoles, from console c on
unfoldable pub heads_in : List ℕ → ℕ → ℕ → List (Option ℕ)
heads_in s c zero = []
heads_in s c (suc n) = head_from (word_at s (head_at c)) ∷ heads_in s (suc c) n

abbrev pub settings_in : List ℕ → Settings
settings_in s = record { capacity = word_at s capacity_at; hub = eqb (word_at s hub_at) 1 }

unfoldable pub room_in : List ℕ → Room
room_in s =
    record {
      settings = settings_in s;
      versions = versions_in s (pred (word_at s count_at));
      heads = heads_in s 0 console_count;
    }

-- "the bytes are its one encoding, ancestry rows included": the bytes hold a sound store at their front
unfoldable pub holds_store : List ℕ → Bool
holds_store s =
    leb (store_size (word_at s capacity_at)) (length s)
    && sound_room (room_in s)
    && same (take (store_size (word_at s capacity_at)) s) (encode (room_in s))
