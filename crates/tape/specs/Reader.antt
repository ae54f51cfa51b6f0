-- "The reading place moves past one whole record at a time."
use Rattle.std.specs.Prelude.{ℕ, suc, ◌+◌, ◌-◌, ◌*◌, Bool, cond, ◌||◌, List, eqb, ltb, length, get_or, drop}
use Rattle.std.specs.Prelude.{Option as Found, Some, None}
use Rattle.std.proofs.Math.Option.{Option, none, some}
use Rattle.graph.specs.declared.Node.{Node}
use Rattle.graph.specs.Graph.{Graph, merge}
use Rattle.command.specs.Code.{start_record, head_record, hub_record, end_record, shape_of, length_of}
use Rattle.tape.specs.declared.Record.{Record}
use Rattle.tape.specs.declared.Record.TheVariants as record_is
use Rattle.tape.specs.declared.scan.Role.{Role}
use Rattle.tape.specs.declared.scan.Role.TheVariants as role_is
use Rattle.tape.specs.declared.scan.Counts.{Counts}
use Rattle.tape.specs.Record.{record_length, no_tape}
use Rattle.tape.specs.Tape.{Content, version_records}

-- the place past the record at a place; where no whole record stands there, the place itself
abbrev pub place_after : List ℕ → ℕ → ℕ
place_after t at = cond (ltb (length (drop at t)) (record_length (drop at t))) at (at + record_length (drop at t))

-- the node of a version's record; of another or none, which no caller asks for, a merge of version 0 with itself
abbrev pub node_on : Found Record → Node
node_on None = merge 0 0
node_on (Some (record_is.Start settings)) = merge 0 0
node_on (Some (record_is.Version node)) = node
node_on (Some (record_is.Head console version)) = merge 0 0
node_on (Some record_is.Hub) = merge 0 0
node_on (Some record_is.End) = merge 0 0

-- console and version of a head's record; of another or none, which no caller asks for, 0 and 0
abbrev pub head_on : Found Record → ℕ × ℕ
head_on None = (0, 0)
head_on (Some (record_is.Start settings)) = (0, 0)
head_on (Some (record_is.Version node)) = (0, 0)
head_on (Some (record_is.Head console version)) = (console.0, version.0)
head_on (Some record_is.Hub) = (0, 0)
head_on (Some record_is.End) = (0, 0)

-- the first k versions after version 0 of a graph, the newest first
abbrev pub first_versions : ℕ → Graph → Graph
first_versions k g = drop (length g - k) g

-- the node of version suc k, for where there is one
abbrev pub next_node : Graph → ℕ → Node
next_node g k = get_or g (length g - suc k) (merge 0 0)

-- the first j heads of a tape, the last first
abbrev pub first_heads : ℕ → List (ℕ × ℕ) → List (ℕ × ℕ)
first_heads j heads = drop (length heads - j) heads

-- console and version of head number j, from the front of the tape, for where there is one
abbrev pub next_head : List (ℕ × ℕ) → ℕ → ℕ × ℕ
next_head heads j = get_or heads (length heads - suc j) (0, 0)

-- how many bytes the first record, a head's, the hub's and the last take
abbrev pub start_length : ℕ
start_length = length_of (shape_of start_record)

abbrev pub head_length : ℕ
head_length = length_of (shape_of head_record)

abbrev pub hub_length : ℕ
hub_length = length_of (shape_of hub_record)

abbrev pub end_length : ℕ
end_length = length_of (shape_of end_record)

-- the place of the record of version suc k
abbrev pub version_place : Graph → ℕ → ℕ
version_place g k = start_length + length (version_records (first_versions k g))

-- the place of the head record number j
abbrev pub head_place : Content → ℕ → ℕ
head_place t j = version_place t.versions (length t.versions) + head_length * j

-- the scan's answer: what the tape says, where it "is such a sequence of whole records"
abbrev pub scanned_of : Option Content → Found Content
scanned_of none = None
scanned_of (some t) = Some t

-- and what it counts on the way: what the room is set to, and how many versions and heads it has
abbrev pub counted_of : Option Content → Found Counts
counted_of none = None
counted_of (some t) = Some (record { settings = t.settings; versions = length t.versions; heads = length t.heads })

-- the paper's number for the scan's answer: 0, or that of a tape which is none
abbrev pub scan_refusal : Found Content → ℕ
scan_refusal None = no_tape
scan_refusal (Some t) = 0

-- what a record is to the scan after so many heads, and after the hub's or not; one that may not stand there is nothing to it
unfoldable pub role_of : Found Record → ℕ → Bool → Found Role
role_of None heads hub = None
role_of (Some (record_is.Start settings)) heads hub = None
role_of (Some (record_is.Version node)) heads hub = cond (eqb heads 0) (Some role_is.Version) None
role_of (Some (record_is.Head console version)) heads hub = cond hub None (Some role_is.Head)
role_of (Some record_is.Hub) heads hub = cond (eqb heads 0 || hub) None (Some role_is.Hub)
role_of (Some record_is.End) heads hub = cond (eqb heads 0) None (Some role_is.End)
