-- The rows of a whole tape's versions, made one after the other while it is read, and the heads that are put into a header.
-- Assumes nothing.
use mathlib.Core.Path.{◌≡◌, refl, ap, subst, ◌∙◌}
use mathlib.Core.Bool.{Bool, true, ◌&&◌}
use mathlib.Core.List.{List, [], ◌∷◌}
use mathlib.Core.Option.{some}
use Prim.Native.Nat.{ℕ, zero, suc, ◌+◌, ◌-◌, ◌≤◌, ◌<◌}
use native.Mathlib.Omega.{arith}
use lib.ListN.{length, drop}
use borrow.Author.Tests.{ltb-true}
use Rattle.laws.proofs.Logic.{and_l, and_r, and_i}
use Rattle.buffer.specs.Field.{zeros}
use Rattle.buffer.proofs.Writes.{put_length}
use Rattle.graph.specs.declared.Node.{Node}
use Rattle.graph.specs.declared.Node.TheVariants.{Entry, Merge}
use Rattle.graph.specs.Graph.{Graph, version_count, every_version, parents_lower, merge_has_base}
use Rattle.graph.proofs.Parent.{parent_lower, receiver, giver}
use Rattle.graph.proofs.Ancestor.{every_new}
use Rattle.command.specs.Code.{console_count}
use Rattle.room.specs.Sound.{entry_in_range, max_capacity}
use Rattle.store.specs.Layout.{header_size, common_at}
use Rattle.store.specs.Rules.{node_in_range}
use Rattle.update.specs.Commons.{put_head}
use Rattle.tape.specs.Record.{record_in}
use Rattle.tape.specs.Tape.{Content, content_of, consoles_rise, heads_named}
use Rattle.tape.specs.Reader.{place_after, node_on, head_on, first_versions, start_length, head_place}
use Rattle.buffer.proofs.Parts.{Bytes}
use Rattle.resume.specs.Ranges.{versions_in_range}
use Rattle.resume.specs.Rows.{RowsOf}
use Rattle.resume.specs.Heads.{head_table}
use Rattle.resume.specs.Versions.{rows_with, base_found}
use Rattle.resume.proofs.Along.{Versions, Heads, along_none, versions_none, version_number, version_holds, version_more, head_first, head_more}
use Rattle.resume.proofs.Passed.{node_ranged}
use Rattle.resume.proofs.Meets.{base_shown}
use Rattle.resume.proofs.Grown.{rows_entry, rows_merge}
use Rattle.resume.proofs.HeadSlots.{Listed, no_heads, one_head_lem, heads_listed}

-- a version on top of a graph: its row, and whether the parents of a merge have a base
module _ {rows : List ℕ} {g : Graph} where
  rows_made : (n : Node) → RowsOf rows g → version_count g < max_capacity → parents_lower g n ≡ true → RowsOf (rows_with rows (version_count g) n) (n ∷ g)
  rows_made (Entry p code strip operand) r small l = rows_entry p.0 code strip.0 operand r small (ltb-true p.0 (version_count g) l)
  rows_made (Merge p q) r small l = rows_merge p.0 q.0 r small (parent_lower g l receiver) (parent_lower g l giver)

  base_made : (n : Node) → RowsOf rows g → version_count g ≤ max_capacity → parents_lower g n ≡ true → base_found rows n ≡ merge_has_base g n
  base_made (Entry p code strip operand) r small l = refl
  base_made (Merge p q) r small l = base_shown r small p.0 q.0 (parent_lower g l receiver) (parent_lower g l giver)

-- the rows of the versions read so far, and whether each merge among them has a base
abbrev pub Rowed : List ℕ → Bool → Graph → Type 0
Rowed rows based g = RowsOf rows g × (based ≡ every_version merge_has_base g)

pub rowed_none : (t : Content) {rows : List ℕ} {at : ℕ} → at ≡ start_length → RowsOf rows [] → Versions t (Rowed rows true) 0 at
unfolding every_version
rowed_none t {rows} e r = versions_none t e (Rowed rows true) (r, refl)

module _ (tape : List ℕ) (t : Content) (bytes : Bytes tape) (says : content_of tape ≡ some t) (range : versions_in_range t.versions ≡ true)
    {Old : Graph → Type 0} {k at : ℕ} (a : Versions t Old k at) (l : k < length t.versions) {x : Node} (read : x ≡ node_on (record_in (drop at tape))) where
  abbrev before : Graph
  before = first_versions k t.versions

  next_lower : parents_lower (first_versions k t.versions) x ≡ true
  next_lower = every_new parents_lower x before (version_holds tape t bytes says a l read parents_lower (and_l (every_version parents_lower t.versions) _ range))

  pub next_ranged : node_in_range (k + 1) x ≡ true
  next_ranged =
      rw (version_number tape t bytes says a l, node_ranged before x)
      (and_i _ _ next_lower (every_new entry_in_range x before (version_holds tape t bytes says a l read entry_in_range (and_r (every_version parents_lower t.versions) _ range))))

pub rowed_more : (tape : List ℕ) (t : Content) (bytes : Bytes tape) (says : content_of tape ≡ some t) → versions_in_range t.versions ≡ true → length t.versions < max_capacity
    → {k at next : ℕ} {rows after : List ℕ} {based here : Bool} {x : Node} → Versions t (Rowed rows based) k at → k < length t.versions
    → x ≡ node_on (record_in (drop at tape)) → here ≡ base_found rows x → after ≡ rows_with rows (k + 1) x → next ≡ place_after tape at
    → Versions t (Rowed after (here && based)) (k + 1) next
unfolding every_version
rowed_more tape t bytes says range small {k} {rows = rows} {after = after} {here = here} {x = x} a l read found made moved =
    let before = first_versions k t.versions in
    let number = version_number tape t bytes says a l in
    let lower = next_lower tape t bytes says range a l read in
    let based : here ≡ merge_has_base before x = found ∙ base_made x a.built.0 (omega arith) lower in
    version_more tape t bytes says a l read (Rowed after (here && _)) moved
    (rw (made, number) (rows_made x a.built.0 (omega arith) lower), rw (based, a.built.1))

-- heads in range name consoles and versions
listed_drop : {n : ℕ} (m : ℕ) {heads : List (ℕ × ℕ)} → Listed n heads → Listed n (drop m heads)
listed_drop zero h = h
listed_drop (suc m) no_heads = no_heads
listed_drop (suc m) (one_head_lem a b rest) = listed_drop m rest

listed_first : {n : ℕ} {h : ℕ × ℕ} {before : List (ℕ × ℕ)} → Listed n (h ∷ before) → (h.0 < console_count) × (h.1 < n)
listed_first (one_head_lem a b rest) = (a, b)

-- the heads read so far stand in a header
abbrev pub Headed : List ℕ → List (ℕ × ℕ) → Type 0
Headed header heads = (length header ≡ header_size) × (header ≡ head_table heads)

pub headed_none : (t : Content) {at : ℕ} {header : List ℕ} → at ≡ head_place t 0 → length header ≡ header_size → header ≡ zeros header_size
    → Heads t (Headed header) 0 at
unfolding head_table
headed_none t {header = header} e long z = along_none t.heads (head_place t) (Headed header) e (long, z)

module _ (tape : List ℕ) (t : Content) (bytes : Bytes tape) (says : content_of tape ≡ some t) {j at : ℕ} {header : List ℕ}
    (a : Heads t (Headed header) j at) (l : j < length t.heads) {c v : ℕ} (console : c ≡ (head_on (record_in (drop at tape))).0) (version : v ≡ (head_on (record_in (drop at tape))).1) where
  pub head_bounds : consoles_rise t.heads ≡ true → heads_named t.versions t.heads ≡ true → (c < console_count) × (v < version_count t.versions)
  head_bounds rise named =
      listed_first
      (subst (Listed (version_count t.versions)) (head_first tape t bytes says a l console version)
      (listed_drop (length t.heads - suc j) (heads_listed t.versions t.heads rise named)))

  pub headed_more : {next : ℕ} {after : List ℕ} → after ≡ put_head header c (suc v) → next ≡ place_after tape at → Heads t (Headed after) (j + 1) next
  unfolding head_table
  headed_more {after = after} made moved =
      head_more tape t bytes says a l console version (Headed after) moved
      (ap length made ∙ put_length header (common_at c c) (suc v) ∙ a.built.0, made ∙ ap (λ (u : List ℕ). put_head u c (suc v)) a.built.1)
