-- The scan of a tape counts what reading it gives: what is left to scan, with what was counted, is what `read_on` makes of the rest.
-- Assumes nothing.
use Prim.Native.Nat.{ℕ, zero, suc, ◌+◌, ◌-◌, ◌≤◌, ◌<◌}
use mathlib.Core.Path.{◌≡◌, refl, sym, ◌∙◌, ap}
use mathlib.Core.Logic.{inl, inr, ◌≢◌}
use mathlib.Core.Bool.{Bool, true, false, cond}
use mathlib.Core.List.{List, []}
use mathlib.Core.Option.{Option, none, some}
use native.Mathlib.Omega.{arith}
use lib.Dec.{eqb, ltb}
use lib.ListN.{length, get_or, drop, length-drop, drop_of_length-le}
use lib.Seq.{drop-drop}
use borrow.Author.Tests.{eq-eqb, ne_eqb, eqb-true, le-ltb, ltb-false}
use Rattle.laws.proofs.Logic.{decide, bool_ext, cond_true, cond_false}
use Rattle.buffer.proofs.Parts.{Bytes}
use Rattle.command.specs.declared.Operands.{Operands}
use Rattle.command.specs.Code.{start_record, entry_record, merge_record, head_record, hub_record, end_record, shape_of, length_of}
use Rattle.graph.specs.declared.Node.{Node}
use Rattle.room.specs.declared.Settings.{Settings}
use Rattle.room.specs.Room.{with_hub}
use Rattle.std.specs.Prelude.{Option as Found, Some, None}
use Rattle.tape.specs.declared.Record.{Record}
use Rattle.tape.specs.declared.Record.TheVariants as record_is
use Rattle.tape.specs.declared.scan.Role.{Role}
use Rattle.tape.specs.declared.scan.Role.TheVariants.{Version, Head, Hub, End}
use Rattle.tape.specs.declared.scan.Counts.{Counts}
use Rattle.tape.specs.Record.{record_in, record_length, record_from, record_refusal}
use Rattle.tape.specs.Tape.{Content, Stage, in_versions, in_heads, past_hub, Follow, go_on, finish, refuse, after_record, read_on, content_of, told, with_version, with_head, with_hub_read, read_from}
use Rattle.tape.specs.Reader.{place_after, counted_of, role_of}
use Rattle.tape.proofs.Records.{unknown, record_whole}
use Rattle.tape.proofs.Reading.{go, read_step}

-- a code of no length is no record's
lengthless : (c : ℕ) (o : Operands) → length_of (shape_of c) ≡ 0 → record_from c o ≡ None
unfolding shape_of length_of
lengthless c o h =
    let other : (d : ℕ) → 0 < length_of (shape_of d) → c ≢ d = λ d long e. let none = rw e at h in omega arith in
    unknown c o (other start_record (omega arith)) (other entry_record (omega arith)) (other merge_record (omega arith)) (other head_record (omega arith))
    (other hub_record (omega arith)) (other end_record (omega arith))

-- a record that is there is there whole, and takes at least a byte
record Here (t : List ℕ) : Type 0 where
  whole : record_length t ≤ length t
  long : 0 < record_length t

here : (t : List ℕ) → record_refusal (record_in t) ≡ 0 → Here t
unfolding record_in
here t there =
    elim (decide (ltb (length t) (record_length t))) [
      | inl s ↦ absurd (refused (cond_true _ _ _ s))
      | inr l ↦ record {
        whole = ltb-false _ _ l;
        long = nonzero (record_length t) (λ z. refused (cond_false _ _ _ l ∙ lengthless (get_or t 0 0) _ z));
      }
    ]
  where
    refused : record_in t ≡ None → ⊥
    refused e = omega (arith, there, ap record_refusal e)

    nonzero : (n : ℕ) → (n ≡ 0 → ⊥) → 0 < n
    nonzero n h = omega arith

-- the stage of reading goes by whether a head was read, and whether the hub was
abbrev Staged : Stage → Content → Type 0
Staged in_versions t = (length t.heads ≡ 0) × (t.settings.hub ≡ false)
Staged in_heads t = (0 < length t.heads) × (t.settings.hub ≡ false)
Staged past_hub t = (0 < length t.heads) × (t.settings.hub ≡ true)

-- reading goes on at this stage with this content
abbrev GoesOn : Found Record → Follow → Stage → Content → Type 0
GoesOn x f stage t = (record_refusal x ≡ 0) × (f ≡ go_on stage t) × Staged stage t

-- what a record is to the scan, and what reading does after it
abbrev Agrees : Content → Found Record → Found Role → Follow → Type 0
Agrees t x None f = f ≡ refuse
Agrees t x (Some Version) f = (n : Node) × GoesOn x f in_versions (with_version t n)
Agrees t x (Some Head) f = (c : ℕ) × (v : ℕ) × GoesOn x f in_heads (with_head t c v)
Agrees t x (Some Hub) f = GoesOn x f past_hub (with_hub_read t)
Agrees t x (Some End) f = (record_refusal x ≡ 0) × (f ≡ finish)

module _ (t : Content) where
  -- the test whether no head was read
  none_read : length t.heads ≡ 0 → eqb (length t.heads) 0 ≡ true
  none_read h = eq-eqb (length t.heads) 0 h

  some_read : 0 < length t.heads → eqb (length t.heads) 0 ≡ false
  some_read h = ne_eqb (length t.heads) 0 (omega arith)

  agrees : (stage : Stage) (x : Found Record) → Staged stage t → Agrees t x (role_of x (length t.heads) t.settings.hub) (after_record stage t x)
  unfolding after_record role_of
  agrees stage None st = refl
  agrees in_versions (Some (record_is.Start settings)) st = refl
  agrees in_versions (Some (record_is.Version node)) st = rw (none_read st.0) (node, (refl, refl, st))
  agrees in_versions (Some (record_is.Head console version)) st = rw st.1 (console.0, version.0, (refl, refl, (omega arith, refl)))
  agrees in_versions (Some record_is.Hub) st = rw (none_read st.0)
  agrees in_versions (Some record_is.End) st = rw (none_read st.0)
  agrees in_heads (Some (record_is.Start settings)) st = refl
  agrees in_heads (Some (record_is.Version node)) st = rw (some_read st.0)
  agrees in_heads (Some (record_is.Head console version)) st = rw st.1 (console.0, version.0, (refl, refl, (omega arith, refl)))
  agrees in_heads (Some record_is.Hub) st = rw (some_read st.0, st.1) (refl, refl, (st.0, refl))
  agrees in_heads (Some record_is.End) st = rw (some_read st.0) (refl, refl)
  agrees past_hub (Some (record_is.Start settings)) st = refl
  agrees past_hub (Some (record_is.Version node)) st = rw (some_read st.0)
  agrees past_hub (Some (record_is.Head console version)) st = rw st.1
  agrees past_hub (Some record_is.Hub) st = rw (some_read st.0, st.1)
  agrees past_hub (Some record_is.End) st = rw (some_read st.0) (refl, refl)

-- nothing is read where no byte is left
read_nothing : (k : ℕ) (stage : Stage) (t : Content) → read_on k stage t [] ≡ none
unfolding read_on record_in record_from shape_of length_of after_record
read_nothing zero stage t = refl
read_nothing (suc k) in_versions t = refl
read_nothing (suc k) in_heads t = refl
read_nothing (suc k) past_hub t = refl

-- what is read from a place on, where nothing was read before
abbrev pub scan_from : List ℕ → ℕ → Settings → Found Counts
scan_from tape start settings = counted_of (read_on (length tape) in_versions (record { settings = settings; versions = []; heads = [] }) (drop start tape))

-- the loop: what was counted, and what the room is set to so far, is what some content has, and what is left to read behind that content is
-- what was to read at the start, with a step left for each byte that is left
pub record Scanning (tape : List ℕ) (start : ℕ) (settings : Settings) (at versions heads : ℕ) (so_far : Settings) : Type 0 where
  pub within : at ≤ length tape
  pub passed : versions + heads ≤ at
  steps : ℕ
  enough : length tape ≤ at + steps
  stage : Stage
  told : Content
  staged : Staged stage told
  set : told.settings ≡ so_far
  versioned : length told.versions ≡ versions
  headed : length told.heads ≡ heads
  same : scan_from tape start settings ≡ counted_of (read_on steps stage told (drop at tape))

pub scanning_starts : (tape : List ℕ) (start : ℕ) (settings : Settings) → start ≤ length tape → settings.hub ≡ false → Scanning tape start settings start 0 0 settings
scanning_starts tape start settings h no-hub =
    record {
      within = h;
      passed = omega arith;
      steps = length tape;
      enough = omega arith;
      stage = in_versions;
      told = record { settings = settings; versions = []; heads = [] };
      staged = (refl, no-hub);
      set = refl;
      versioned = refl;
      headed = refl;
      same = refl;
    }

module _ {tape : List ℕ} {start : ℕ} {settings : Settings} {at versions heads : ℕ} {so_far : Settings} (i : Scanning tape start settings at versions heads so_far) where
  -- no byte is left
  pub scanning_out : length tape ≤ at → None ≡ scan_from tape start settings
  scanning_out h = sym (i.same ∙ rw (drop_of_length-le tape h, read_nothing))

  module _ (more : at < length tape) {x : Found Record} (e : x ≡ record_in (drop at tape)) {kind : Found Role} (is : kind ≡ role_of x heads so_far.hub) where
    abbrev rest : List ℕ
    rest = drop at tape

    abbrev after : Follow
    after = after_record i.stage i.told (record_in rest)

    agreed : (found : Found Role) → kind ≡ found → Agrees i.told (record_in rest) found after
    agreed found k =
        let sort : role_of (record_in rest) (length i.told.heads) i.told.settings.hub ≡ found = rw (i.headed, i.set, ← e) (sym is ∙ k) in
        rw sort at (agrees i.told i.stage (record_in rest) i.staged)

    step : (f : Follow) → after ≡ f → scan_from tape start settings ≡ counted_of (go (i.steps - 1) i.told rest f)
    step f a =
        let fuel : i.steps ≡ suc (i.steps - 1) = omega (arith, i.enough) in
        i.same ∙ ap (λ (k : ℕ). counted_of (read_on k i.stage i.told rest)) fuel ∙ ap counted_of (read_step _ i.stage i.told rest f a)

    pub scanning_refused : kind ≡ None → None ≡ scan_from tape start settings
    scanning_refused k = sym (step refuse (agreed None k))

    module _ {next : ℕ} (n : next ≡ place_after tape at) where
      -- what the place past a record is, where a record is there
      ahead : Here rest → next ≡ at + record_length rest
      ahead h = n ∙ rw (le-ltb (length rest) (record_length rest) h.whole)

      -- one record more was read
      goes_on : next ≤ length tape → (stage : Stage) (told : Content) (v h : ℕ) (s : Settings) → GoesOn (record_in rest) after stage told → told.settings ≡ s
          → length told.versions ≡ v → length told.heads ≡ h → v + h ≤ suc (versions + heads) → (at < next) × Scanning tape start settings next v h s
      goes_on w stage told v h s on set versioned headed one =
          let there = here rest on.0 in
          let place = ahead there in
          let forth : at < next = omega (arith, there.long) in
          let left : drop (record_length rest) rest ≡ drop next tape = drop-drop (record_length rest) at tape ∙ ap (λ (m : ℕ). drop m tape) (sym place) in (
            forth,
            record {
              within = w;
              passed = omega (arith, i.passed);
              steps = i.steps - 1;
              enough = omega (arith, i.enough);
              stage = stage;
              told = told;
              staged = on.2;
              set = set;
              versioned = versioned;
              headed = headed;
              same = step (go_on stage told) on.1 ∙ rw left;
            },
          )

      pub scanning_version : next ≤ length tape → kind ≡ Some Version → (at < next) × Scanning tape start settings next (versions + 1) heads so_far
      scanning_version w k =
          let a = agreed (Some Version) k in
          goes_on w in_versions (with_version i.told a.0) (versions + 1) heads so_far a.1 i.set (omega (arith, i.versioned)) i.headed (omega arith)

      pub scanning_head : next ≤ length tape → kind ≡ Some Head → (at < next) × Scanning tape start settings next versions (heads + 1) so_far
      scanning_head w k =
          let a = agreed (Some Head) k in
          goes_on w in_heads (with_head i.told a.0 a.1) versions (heads + 1) so_far a.2 i.set i.versioned (omega (arith, i.headed)) (omega arith)

      pub scanning_hub : next ≤ length tape → kind ≡ Some Hub → (at < next) × Scanning tape start settings next versions heads (with_hub so_far)
      scanning_hub w k = goes_on w past_hub (with_hub_read i.told) versions heads (with_hub so_far) (agreed (Some Hub) k) (ap with_hub i.set) i.versioned i.headed (omega arith)

      pub scanning_ended : kind ≡ Some End → (y : Found Counts) → y ≡ cond (eqb next (length tape)) (Some (record { settings = so_far; versions = versions; heads = heads })) None → y ≡ scan_from tape start settings
      scanning_ended k y h =
          let a = agreed (Some End) k in
          let place = ahead (here rest a.0) in
          let last : eqb next (length tape) ≡ eqb (length rest) (record_length rest) =
          bool_ext _ _ (λ p. eq-eqb (length rest) (record_length rest) (omega (arith, eqb-true next (length tape) p, length-drop at tape)))
          (λ p. eq-eqb next (length tape) (omega (arith, eqb-true (length rest) (record_length rest) p, length-drop at tape, i.within)))
          in
          h ∙ rw (last, ← i.set, ← i.versioned, ← i.headed) (answer (eqb (length rest) (record_length rest))) ∙ sym (step finish a.1)
        where
          answer : (b : Bool) → cond b (counted_of (some i.told)) None ≡ counted_of (cond b (some i.told) none)
          answer true = refl
          answer false = refl

-- the start of a tape says nothing of a hub
pub start_without_hub : (tape : List ℕ) {settings : Settings} → Bytes tape → record_in tape ≡ Some (record_is.Start settings) → settings.hub ≡ false
start_without_hub tape {settings} bytes start = (record_whole (record_is.Start settings) tape bytes start).1.1

-- a whole tape is scanned from behind its start on
pub scan_started : (tape : List ℕ) {settings : Settings} {next : ℕ} → record_in tape ≡ Some (record_is.Start settings) → next ≡ place_after tape 0
    → scan_from tape next settings ≡ counted_of (content_of tape)
unfolding content_of
scan_started tape {settings} {next} is n =
    let there = here tape (ap record_refusal is) in
    let place : next ≡ record_length tape = n ∙ rw (le-ltb (length tape) (record_length tape) there.whole) (omega arith) in
    rw (place, is)

-- what begins otherwise says nothing
pub scan_unstarted : (tape : List ℕ) → ((settings : Settings) → record_in tape ≡ Some (record_is.Start settings) → ⊥) → content_of tape ≡ none
unfolding content_of
scan_unstarted tape no_start = go (record_in tape) no_start
  where
    go : (found : Found Record) → ((settings : Settings) → found ≡ Some (record_is.Start settings) → ⊥) → read_from (length tape) (drop (record_length tape) tape) found ≡ none
    go None h = refl
    go (Some (record_is.Start settings)) h = absurd (h settings refl)
    go (Some (record_is.Version node)) h = refl
    go (Some (record_is.Head console version)) h = refl
    go (Some record_is.Hub) h = refl
    go (Some record_is.End) h = refl

-- what was counted says what the tape says
pub counted_none : (o : Option Content) → counted_of o ≡ None → o ≡ none
counted_none none e = refl
counted_none (some t) e = absurd (let z : ◌≡◌ {A = ℕ} 0 1 = cc in omega arith)

pub counted_some : (o : Option Content) {c : Counts} → counted_of o ≡ Some c
    → (o ≡ some (told o)) × (c.settings ≡ (told o).settings) × (c.versions ≡ length (told o).versions) × (c.heads ≡ length (told o).heads)
counted_some none e = absurd (let z : ◌≡◌ {A = ℕ} 0 1 = cc in omega arith)
counted_some (some t) e = (refl, cc, cc, cc)
