-- The records of a tape: the one that stands at the front of some bytes, and the bytes of each.
use Rattle.std.specs.Prelude.{ℕ, cond, List, [], ◌∷◌, ◌++◌, eqb, ltb, length, get_or, Option, Some, None}
use Rattle.buffer.specs.Field.{byte, word}
use Rattle.graph.specs.declared.Node.{Node}
use Rattle.graph.specs.declared.Node.TheVariants.{Entry, Merge}
use Rattle.graph.specs.Graph.{entry, merge}
use Rattle.command.specs.declared.Operands.{Operands}
use Rattle.command.specs.Code.{start_record, entry_record, merge_record, head_record, end_record, hub_record, shape_of, length_of, operands_of}
use Rattle.room.specs.Room.{open_settings}
use Rattle.tape.specs.declared.Record.{Record}
use Rattle.tape.specs.declared.Record.TheVariants.{Start, Version, Head, Hub, End}

-- how many bytes the record at the front takes
abbrev pub record_length : List ℕ → ℕ
record_length t = length_of (shape_of (get_or t 0 0))

-- the record of a code and what follows it; no other code is a record's. That console 0 is the hub is said by a record of its own.
unfoldable pub record_from : ℕ → Operands → Option Record
record_from code o =
    cond (eqb code start_record) (Some (Start (open_settings o.first)))
    (cond (eqb code entry_record) (Some (Version (entry o.first o.second o.third o.fourth)))
    (cond (eqb code merge_record) (Some (Version (merge o.first o.second)))
    (cond (eqb code head_record) (Some (Head (record { 0 = o.first }) (record { 0 = o.second })))
    (cond (eqb code hub_record) (Some Hub)
    (cond (eqb code end_record) (Some End) None)))))

-- the record at the front of a tape, where it is there whole
unfoldable pub record_in : List ℕ → Option Record
record_in t =
    cond (ltb (length t) (record_length t)) None
    (record_from (get_or t 0 0) (operands_of (shape_of (get_or t 0 0)) t))

-- The paper's code and values for each record. "21: parent (16 bits), entry code 02 to 08 (8), strip (8), operand (16; ..). 22:
-- receiver's version, giver's version (16 each). 23: console (8), version (16)." "25 just before 24"
abbrev pub version_bytes : Node → List ℕ
version_bytes (Entry parent code strip operand) =
    entry_record ∷ word parent.0 ++ (byte code ∷ byte strip.0 ∷ word operand)
version_bytes (Merge receiver giver) = merge_record ∷ word receiver.0 ++ word giver.0

abbrev pub record_bytes : Record → List ℕ
record_bytes (Start settings) = start_record ∷ word settings.capacity
record_bytes (Version node) = version_bytes node
record_bytes (Head console version) = head_record ∷ byte console.0 ∷ word version.0
record_bytes Hub = hub_record ∷ []
record_bytes End = end_record ∷ []

-- the bytes of a record where one is found, else none
abbrev pub found_bytes : Option Record → List ℕ
found_bytes None = []
found_bytes (Some x) = record_bytes x

-- no record takes more bytes than an entry's
abbrev pub longest_record : ℕ
longest_record = length (version_bytes (entry 0 0 0 0))

-- "7 tape isn't such a sequence of whole records, with at least one head."
abbrev pub no_tape : ℕ
no_tape = 7

-- the paper's number for what is found: 0 for a record, else that of a tape which is none
abbrev pub record_refusal : Option Record → ℕ
record_refusal None = no_tape
record_refusal (Some x) = 0
