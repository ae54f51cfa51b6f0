-- The records of versions, of heads and of the hub, one after the other, are read on to the content that they were written from.
-- Assumes nothing.
use Prim.Native.Nat.{ℕ, zero, suc, ◌+◌, ◌≤◌, ◌<◌}
use mathlib.Core.Path.{◌≡◌, refl, ◌∙◌}
use mathlib.Core.Bool.{Bool, true, false, cond}
use mathlib.Core.List.{List, [], ◌∷◌, ◌++◌, append_assoc}
use mathlib.Core.Option.{Option, none, some}
use native.Mathlib.Omega.{arith}
use native.Mathlib.Nat.{zero-add, not-suc-le-zero}
use lib.Dec.{eqb}
use lib.ListN.{length, get_or, drop, length-append}
use borrow.Author.Tests.{ltb-true}
use Rattle.laws.proofs.Logic.{clash, and_l, and_r}
use Rattle.graph.specs.declared.Node.{Node}
use Rattle.graph.specs.declared.Node.TheVariants.{Entry, Merge}
use Rattle.graph.specs.Graph.{Graph, version_count, is_some, every_version, parents_lower}
use Rattle.graph.proofs.Parent.{parent_lower, receiver, giver}
use Rattle.command.specs.Code.{console_count, shape_of, length_of}
use Rattle.command.proofs.Limits.{entry_below}
use Rattle.room.specs.declared.Settings.{Settings}
use Rattle.room.specs.Room.{open_settings}
use Rattle.room.specs.Sound.{entry_in_range}
use Rattle.std.specs.Prelude.{Some}
use Rattle.tape.specs.declared.Record.{Record}
use Rattle.tape.specs.declared.Record.TheVariants.{Version, Head, Hub, End}
use Rattle.tape.specs.Record.{record_in, record_length, record_from, version_bytes, record_bytes}
use Rattle.tape.specs.Tape.{Content, Stage, in_versions, in_heads, past_hub, Follow, go_on, finish, refuse, after_record, read_on, with_head, with_hub_read, version_records, head_records, hub_records}
use Rattle.tape.proofs.Records.{NodeFits, Fits, record_read, record_rest}
use Rattle.tape.proofs.Heads.{heads_from, Named, named_tail}

-- one step of reading, over what the record at the front says of it
abbrev pub go : ℕ → Content → List ℕ → Follow → Option Content
go k t rest (go_on next more) = read_on k next more (drop (record_length rest) rest)
go k t rest finish = cond (eqb (length rest) (record_length rest)) (some t) none
go k t rest refuse = none

pub read_step : (k : ℕ) (stage : Stage) (t : Content) (rest : List ℕ) (n : Follow) → after_record stage t (record_in rest) ≡ n
    → read_on (suc k) stage t rest ≡ go k t rest n
unfolding read_on
read_step k stage t rest (go_on next more) e = cc
read_step k stage t rest finish e = cc
read_step k stage t rest refuse e = cc

-- a record that may stand there is read, and reading goes on after it
read_one : (k : ℕ) (stage next : Stage) (t more : Content) (x : Record) (rest : List ℕ) → Fits x
    → after_record stage t (Some x) ≡ go_on next more → read_on (suc k) stage t (record_bytes x ++ rest) ≡ read_on k next more rest
read_one k stage next t more x rest fits e =
    read_step k stage t (record_bytes x ++ rest) (go_on next more) (rw (record_read x rest fits) e) ∙ rw (record_rest x rest fits)

node_fits : (g : Graph) (n : Node) → parents_lower g n ≡ true → entry_in_range g n ≡ true → length g < 65535 → NodeFits n
node_fits g (Entry p code strip operand) lower range l =
    let below = entry_below code strip.0 operand range in omega (arith, ltb-true p.0 (version_count g) lower)
node_fits g (Merge p q) lower range l =
    omega (arith, parent_lower g lower receiver, parent_lower g lower giver)

-- each version takes a byte at least
pub versions_long : (g : Graph) → length g ≤ length (version_records g)
unfolding version_records
versions_long [] = omega arith
versions_long (Entry p code strip operand ∷ g) = simp length-append (omega (arith, versions_long g))
versions_long (Merge p q ∷ g) = simp length-append (omega (arith, versions_long g))

pub read_versions : (g : Graph) (k : ℕ) (settings : Settings) (rest : List ℕ) → every_version parents_lower g ≡ true
    → every_version entry_in_range g ≡ true → length g < 65536
    → read_on (length g + k) in_versions (record { settings = settings; versions = []; heads = [] }) (version_records g ++ rest)
    ≡ read_on k in_versions (record { settings = settings; versions = g; heads = [] }) rest
unfolding version_records after_record every_version
read_versions [] k settings rest lower range l = rw zero-add
read_versions (n ∷ g) k settings rest lower range l =
    let fits = node_fits g n (and_l _ _ lower) (and_l _ _ range) (omega arith) in
    let fuel : suc (length g) + k ≡ length g + suc k = omega arith in
    let lower-before = and_r (parents_lower g n) _ lower in
    let range-before = and_r (entry_in_range g n) _ range in
    rw (fuel, append_assoc)
    (read_versions g (suc k) settings (version_bytes n ++ rest) lower-before range-before (omega arith)
    ∙ read_one k in_versions in_versions _ _ (Version n) rest fits refl)

-- the end is read behind a head and behind the hub
read_end : (k : ℕ) (stage : Stage) (t : Content) → after_record stage t (Some End) ≡ finish → read_on (suc k) stage t (record_bytes End) ≡ some t
unfolding record_in record_from shape_of length_of
read_end k stage t e = read_step k stage t (record_bytes End) finish e

-- what stands behind the heads is read up to the end: the hub's record where there is a hub
read_last : (k capacity : ℕ) (hub : Bool) (g : Graph) (heads : List (ℕ × ℕ)) → length (hub_records (record { capacity = capacity; hub = hub })) < k
    → read_on k in_heads (record { settings = open_settings capacity; versions = g; heads = heads }) (hub_records (record { capacity = capacity; hub = hub }) ++ record_bytes End)
    ≡ some (record { settings = record { capacity = capacity; hub = hub }; versions = g; heads = heads })
unfolding after_record
read_last zero capacity hub g heads fuel = absurd (not-suc-le-zero fuel)
read_last (suc k) capacity false g heads fuel = read_end k in_heads _ refl
read_last (suc zero) capacity true g heads fuel = absurd (omega arith)
read_last (suc (suc k)) capacity true g heads fuel =
    let t : Content = record { settings = open_settings capacity; versions = g; heads = heads } in
    read_one (suc k) in_heads past_hub t (with_hub_read t) Hub (record_bytes End) tt refl ∙ read_end k past_hub (with_hub_read t) refl

-- a tape may begin with these heads: console 0 is there; behind a head any may stand, behind the hub none
abbrev MayStand : Stage → List (Option ℕ) → Type 0
MayStand in_versions heads = is_some (get_or heads 0 none) ≡ true
MayStand in_heads heads = Unit {0}
MayStand past_hub heads = ⊥

-- a head record is read wherever heads may stand
read_head : (k c v : ℕ) (later : List (Option ℕ)) (stage : Stage) (t : Content) (rest : List ℕ) → MayStand stage (some v ∷ later) → c < 256 → v < 65536
    → read_on (suc k) stage t (record_bytes (Head (record { 0 = c }) (record { 0 = v })) ++ rest)
    ≡ read_on k in_heads (with_head t c v) rest
unfolding after_record
read_head k c v later in_versions t rest may hc hv = read_one k in_versions in_heads t (with_head t c v) (Head (record { 0 = c }) (record { 0 = v })) rest (hc, hv) refl
read_head k c v later in_heads t rest may hc hv = read_one k in_heads in_heads t (with_head t c v) (Head (record { 0 = c }) (record { 0 = v })) rest (hc, hv) refl
read_head k c v later past_hub t rest may hc hv = absurd may

-- the heads from console c on, with what stands behind them, are read up to the end
pub read_heads : (k c : ℕ) (stage : Stage) (heads : List (Option ℕ)) (settings : Settings) (g : Graph) (before : List (ℕ × ℕ))
    → length (head_records c heads) + length (hub_records settings) < k → MayStand stage heads → Named g heads → length g < 65535 → c + length heads ≤ console_count
    → read_on k stage (record { settings = open_settings settings.capacity; versions = g; heads = before }) (head_records c heads ++ (hub_records settings ++ record_bytes End))
    ≡ some (record { settings = settings; versions = g; heads = heads_from c heads before })
unfolding head_records
read_heads zero c stage heads settings g before fuel may named l fit = absurd (not-suc-le-zero fuel)
read_heads (suc k) c in_versions [] settings g before fuel may named l fit = clash may refl
read_heads (suc k) c in_heads [] settings g before fuel may named l fit = read_last (suc k) settings.capacity settings.hub g before (omega arith)
read_heads (suc k) c past_hub [] settings g before fuel may named l fit = absurd may
read_heads (suc k) c in_versions (none ∷ later) settings g before fuel may named l fit = clash may refl
read_heads (suc k) c in_heads (none ∷ later) settings g before fuel may named l fit =
    read_heads (suc k) (suc c) in_heads later settings g before fuel tt (named_tail g none later named) l (omega arith)
read_heads (suc k) c past_hub (none ∷ later) settings g before fuel may named l fit = absurd may
read_heads (suc k) c stage (some v ∷ later) settings g before fuel may named l fit =
    let version = ltb-true v (version_count g) (named 0 (omega arith)) in
    read_head k c v later stage _ _ may (omega arith) (omega arith)
    ∙ read_heads k (suc c) in_heads later settings g ((c, v) ∷ before) (omega arith) tt (named_tail g (some v) later named) l (omega arith)
