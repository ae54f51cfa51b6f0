-- "One store serves one training room: up to 16 consoles, each a branch of one version graph." What a store holds, without its bytes.
use Rattle.std.specs.Prelude.{ℕ, Bool, true, false, ◌&&◌, List, [], get_or, set, replicate}
use Rattle.std.proofs.Math.Option
use Rattle.std.proofs.Math.Option.{Option, none, some}
use Rattle.graph.specs.Below.{count_below}
use Rattle.graph.specs.Graph.{Graph, version_count, ancestor, is_entry, meet_number, is_some}
use Rattle.command.specs.Code.{console_count}
use Rattle.room.specs.declared.Settings.{Settings}

-- What the room is set to, its versions and its heads; rows, boards, bases and commons are functions of the versions and heads. The versions
-- are the code's own nodes; a head, and a version or console that is asked about, is a plain number here, as it is counted, compared and
-- looked up.
pub record Room : Type 0 where
  pub settings : Settings
  pub versions : Graph
  -- for each console number its head, or none while it is absent
  pub heads : List (Option ℕ)

-- "Each present console has a head."
abbrev pub head_of : Room → ℕ → Option ℕ
head_of r c = get_or r.heads c none

abbrev pub present : Room → ℕ → Bool
present r c = is_some (head_of r c)

-- the head's number, for where the console is present
abbrev pub head : Room → ℕ → ℕ
head r c = Option.get_or (head_of r c) 0

-- "the ancestor of both heads of which every other common ancestor is an ancestor"; "of a console with itself: its head"
unfoldable pub common : Room → ℕ → ℕ → ℕ
common r c d = meet_number r.versions (head r c) (head r d)

-- "The entries heard by a console are the entry versions among its head's ancestors."
abbrev pub hears : Room → ℕ → ℕ → Bool
hears r c v = is_entry r.versions v && ancestor r.versions v (head r c)

-- "The heard count is the number of set bits of that row at entry versions."
unfoldable pub heard_count : Room → ℕ → ℕ
heard_count r c = count_below (version_count r.versions) (hears r c)

-- "Opening makes version 0 with console 0 on it.", in a room with these settings
abbrev pub fresh_room : Settings → Room
fresh_room settings = record { settings = settings; versions = []; heads = set (replicate console_count none) 0 (some 0) }

-- what opening with a capacity sets a room to
abbrev pub open_settings : ℕ → Settings
open_settings capacity = record { capacity = capacity; hub = false }

-- "puts the room in this way for good": console 0 is the hub
abbrev pub with_hub : Settings → Settings
with_hub settings = record { capacity = settings.capacity; hub = true }

abbrev pub fresh : ℕ → Room
fresh capacity = fresh_room (open_settings capacity)
