-- "20, capacity (16 bits); one record per version from 1 upward; one head record per present console, consoles rising; 24, the last
-- byte." "The tape carries 25 just before 24", where console 0 is the hub. The tape of a room, the grammar of tapes, the room of a tape, and the
-- refusals 7 to 10.
use Rattle.std.specs.Prelude.{ℕ, zero, suc, Bool, true, false, cond, not, ◌&&◌, List, [], ◌∷◌, ◌++◌, eqb, leb, ltb, length, drop, set, replicate}
use Rattle.std.specs.Prelude.{Option as Found, Some, None}
use Rattle.std.proofs.Math.Option.{Option, none, some}
use Rattle.graph.specs.declared.Node.{Node}
use Rattle.graph.specs.Graph.{Graph, version_count, every_version, parents_lower}
use Rattle.refusal.specs.Refusal.{◌when◌, first_refusal}
use Rattle.command.specs.Code.{console_count, is_console}
use Rattle.room.specs.Room.{Room, open_settings, with_hub}
use Rattle.room.specs.declared.Settings.{Settings}
use Rattle.room.specs.Sound.{settings_in_range, entry_in_range, sound_room}
use Rattle.tape.specs.declared.Record.{Record}
use Rattle.tape.specs.declared.Record.TheVariants.{Start, Version, Head, Hub, End}
use Rattle.tape.specs.Record.{record_in, record_length, version_bytes, record_bytes, no_tape}

-- The tape of a room: "one record per version from 1 upward"
unfoldable pub version_records : Graph → List ℕ
version_records [] = []
version_records (n ∷ g) = version_records g ++ version_bytes n

-- "one head record per present console, consoles rising", from console c on
unfoldable pub head_records : ℕ → List (Option ℕ) → List ℕ
head_records c [] = []
head_records c (none ∷ later) = head_records (suc c) later
head_records c (some v ∷ later) = record_bytes (Head (record { 0 = c }) (record { 0 = v })) ++ head_records (suc c) later

-- "the tape carries 25"
abbrev pub hub_records : Settings → List ℕ
hub_records settings = cond settings.hub (record_bytes Hub) []

unfoldable pub tape_of : Room → List ℕ
tape_of r =
    record_bytes (Start r.settings) ++ version_records r.versions ++ head_records 0 r.heads ++ hub_records r.settings
    ++ record_bytes End

-- The grammar: what was read so far, the newest version and the last head first.
pub record Content : Type 0 where
  pub settings : Settings
  pub versions : Graph
  -- console and version of each head record
  pub heads : List (ℕ × ℕ)

abbrev pub with_version : Content → Node → Content
with_version t n = record { settings = t.settings; versions = n ∷ t.versions; heads = t.heads }

abbrev pub with_head : Content → ℕ → ℕ → Content
with_head t c v = record { settings = t.settings; versions = t.versions; heads = (c, v) ∷ t.heads }

abbrev pub with_hub_read : Content → Content
with_hub_read t = record { settings = with_hub t.settings; versions = t.versions; heads = t.heads }

-- what may follow: versions or the first head; further heads, the hub or the end; the end
pub data Stage : Type 0 where
  in_versions : Stage
  in_heads : Stage
  past_hub : Stage

-- what reading does after a record
pub data Follow : Type 0 where
  go_on : Stage → Content → Follow
  finish : Follow
  refuse : Follow

unfoldable pub after_record : Stage → Content → Found Record → Follow
after_record stage t None = refuse
after_record in_versions t (Some (Start settings)) = refuse
after_record in_versions t (Some (Version node)) = go_on in_versions (with_version t node)
after_record in_versions t (Some (Head console version)) = go_on in_heads (with_head t console.0 version.0)
after_record in_versions t (Some Hub) = refuse
after_record in_versions t (Some End) = refuse
after_record in_heads t (Some (Start settings)) = refuse
after_record in_heads t (Some (Version node)) = refuse
after_record in_heads t (Some (Head console version)) = go_on in_heads (with_head t console.0 version.0)
after_record in_heads t (Some Hub) = go_on past_hub (with_hub_read t)
after_record in_heads t (Some End) = finish
after_record past_hub t (Some (Start settings)) = refuse
after_record past_hub t (Some (Version node)) = refuse
after_record past_hub t (Some (Head console version)) = refuse
after_record past_hub t (Some Hub) = refuse
after_record past_hub t (Some End) = finish

-- "The reading place moves past one whole record at a time." The rest of a tape from a place on; no tape has more records than bytes,
-- which is what the first number is for.
unfoldable pub read_on : ℕ → Stage → Content → List ℕ → Option Content
read_on zero stage t rest = none
read_on (suc k) stage t rest =
    elim (after_record stage t (record_in rest)) [
      | go_on next more ↦ read_on k next more (drop (record_length rest) rest)
      | finish ↦ cond (eqb (length rest) (record_length rest)) (some t) none
      | refuse ↦ none
    ]

abbrev pub read_from : ℕ → List ℕ → Found Record → Option Content
read_from k rest None = none
read_from k rest (Some (Start settings)) = read_on k in_versions (record { settings = settings; versions = []; heads = [] }) rest
read_from k rest (Some (Version node)) = none
read_from k rest (Some (Head console version)) = none
read_from k rest (Some Hub) = none
read_from k rest (Some End) = none

-- what a tape says, where it is "such a sequence of whole records, with at least one head"
unfoldable pub content_of : List ℕ → Option Content
content_of t = read_from (length t) (drop (record_length t) t) (record_in t)

-- what a whole tape says; of a broken one, nothing
abbrev pub told : Option Content → Content
told none = record { settings = open_settings 0; versions = []; heads = [] }
told (some t) = t

abbrev pub content_in : List ℕ → Content
content_in tape = told (content_of tape)

-- The room of a tape: "Boards, bases and commons aren't on the tape; resume works them out."
unfoldable pub head_slots : List (ℕ × ℕ) → List (Option ℕ)
head_slots [] = replicate console_count none
head_slots (h ∷ before) = set (head_slots before) h.0 (some h.1)

abbrev pub room_of : Content → Room
room_of t = record { settings = t.settings; versions = t.versions; heads = head_slots t.heads }

-- none of "the first console not 0, a console not above the one before it or above 15"
unfoldable pub consoles_rise : List (ℕ × ℕ) → Bool
consoles_rise [] = false
consoles_rise (h ∷ []) = eqb h.0 0
consoles_rise (h ∷ (before ∷ rest)) = ltb before.0 h.0 && is_console h.0 && consoles_rise (before ∷ rest)

-- nowhere "a head that names no version"
unfoldable pub heads_named : Graph → List (ℕ × ℕ) → Bool
heads_named g [] = true
heads_named g (h ∷ before) = ltb h.1 (version_count g) && heads_named g before

-- None of "9 on a tape: more versions than capacity, a parent not below its own version, an entry code, strip or operand out of range, the
-- first console not 0, a console not above the one before it or above 15, a head that names no version."
abbrev pub in_range : Content → Bool
in_range t =
    leb (version_count t.versions) t.settings.capacity
    && every_version parents_lower t.versions
    && every_version entry_in_range t.versions
    && consoles_rise t.heads
    && heads_named t.versions t.heads

-- "8 capacity outside 1 to 1,024.", 9, "10 the tape's versions and heads give no sound store."
abbrev pub content_tests : Content → List (ℕ × Bool)
content_tests t =
    8 when not (settings_in_range t.settings)
    ∷ 9 when not (in_range t)
    ∷ 10 when not (sound_room (room_of t))
    ∷ []

-- 7 for what is no tape, and 8 to 10 for one
abbrev pub tape_tests : Option Content → List (ℕ × Bool)
tape_tests none = no_tape when true ∷ []
tape_tests (some t) = content_tests t

unfoldable pub content_refusal : Option Content → ℕ
content_refusal o = first_refusal (tape_tests o)
