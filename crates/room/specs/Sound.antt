-- "A store is sound when: .." The clauses on the room, one by one. That its bytes show the right boards, rows, bases and commons is the
-- clause "the bytes are its one encoding", in the store's Layout (`holds_store`), as those are functions of the room.
use Rattle.std.specs.Prelude.{ℕ, Bool, true, not, ◌&&◌, ◌||◌, eqb, leb, ltb, length}
use Rattle.std.proofs.Math.Option.{Option, none, some}
use Rattle.graph.specs.Below.{every_below, some_below}
use Rattle.graph.specs.declared.Node.{Node}
use Rattle.graph.specs.declared.Node.TheVariants.{Entry, Merge}
use Rattle.graph.specs.Graph.{Graph, version_count, ancestor, meet, is_some, every_version, parents_lower, merge_has_base}
use Rattle.command.specs.Code.{console_count, within, is_entry_code, is_strip, is_operand}
use Rattle.room.specs.declared.Settings.{Settings}
use Rattle.room.specs.Room.{Room, head_of, present, head, common}

-- "Capacity, 1 to 1,024, counts versions, version 0 included."
abbrev pub max_capacity : ℕ
max_capacity = 1024

abbrev pub is_capacity : ℕ → Bool
is_capacity capacity = within 1 max_capacity capacity

-- a room can be set to these
abbrev pub settings_in_range : Settings → Bool
settings_in_range settings = is_capacity settings.capacity

-- "entry codes, strips and operands are in range"
abbrev pub entry_in_range : Graph → Node → Bool
entry_in_range g (Entry p code strip operand) = is_entry_code code && is_strip strip.0 && is_operand code operand
entry_in_range g (Merge p q) = true

-- a head names a version; an absent console has none to name
abbrev pub names_version : Graph → Option ℕ → Bool
names_version g none = true
names_version g (some v) = ltb v (version_count g)

abbrev pub heads_name_versions : Room → Bool
heads_name_versions r = every_below console_count (λ c. names_version r.versions (head_of r c))

-- "every two heads have one too, and it is recorded"
abbrev pub two_meet : Room → ℕ → ℕ → Bool
two_meet r c d = not (present r c) || not (present r d) || is_some (meet r.versions (head r c) (head r d))

unfoldable pub heads_meet : Room → Bool
heads_meet r = every_below console_count (λ c. every_below console_count (λ d. two_meet r c d))

-- "every version is an ancestor of a head"
abbrev pub behind_head : Room → ℕ → Bool
behind_head r v = some_below console_count (λ c. present r c && ancestor r.versions v (head r c))

unfoldable pub all_behind_heads : Room → Bool
all_behind_heads r = every_below (version_count r.versions) (behind_head r)

-- "the common version of every two consoles is an ancestor of console 0's head": that of c and d, where both are present
abbrev pub common_behind_hub : Room → ℕ → ℕ → Bool
common_behind_hub r c d = not (present r c) || not (present r d) || ancestor r.versions (common r c d) (head r 0)

-- each two once, c and a lower d: two consoles have one common version, whichever is named first
unfoldable pub can_make_hub : Room → Bool
can_make_hub r = every_below console_count (λ c. every_below c (common_behind_hub r c))

-- "A store in this way whose heads couldn't enter isn't sound"
abbrev pub hub_is_right : Room → Bool
hub_is_right r = not r.settings.hub || can_make_hub r

-- the clauses in the paper's order, and the request's behind them; a head that is none of the versions, and a list of other than 16 heads, are
-- no room's
unfoldable pub sound_room : Room → Bool
sound_room r =
    every_version parents_lower r.versions
    && every_version merge_has_base r.versions
    && eqb (length r.heads) console_count && heads_name_versions r && heads_meet r
    && present r 0
    && all_behind_heads r
    && settings_in_range r.settings && leb (version_count r.versions) r.settings.capacity
    && every_version entry_in_range r.versions
    && hub_is_right r
