-- The versions of a whole tape written into a fresh store one after the other: the block of each is its version's, and no other byte changes.
-- Assumes nothing.
use mathlib.Core.Path.{◌≡◌, refl, subst, ◌∙◌}
use mathlib.Core.Bool.{Bool, true, false}
use mathlib.Core.List.{List, [], ◌∷◌}
use mathlib.Core.Option
use mathlib.Core.Option.{Option, none, some}
use Prim.Native.Nat.{ℕ, zero, suc, ◌+◌, ◌-◌, ◌≤◌, ◌<◌}
use native.Mathlib.Omega.{arith}
use lib.ListN.{length, get_or, drop}
use borrow.Author.Tests.{ltb-true}
use Rattle.laws.proofs.Logic.{clash}
use Rattle.buffer.specs.Field.{same}
use Rattle.buffer.specs.Row.{intersection}
use Rattle.buffer.proofs.Sets.{row_ext}
use Rattle.graph.specs.declared.Node.{Node}
use Rattle.graph.specs.declared.Node.TheVariants.{Entry, Merge}
use Rattle.graph.specs.Graph.{Graph, entry, merge, version_count, ancestor, meet, base_of, serves_as_base, every_version, parents_lower, merge_has_base}
use Rattle.graph.proofs.Parent.{parent_lower, receiver, giver}
use Rattle.graph.proofs.Ancestor.{every_new, every_old, ancestor_old}
use Rattle.graph.proofs.Meet.{meet_number-below}
use Rattle.room.specs.Sound.{entry_in_range, sound_room, max_capacity}
use Rattle.room.proofs.Sound.{versions_small, sound_facts}
use Rattle.store.specs.Layout.{row_size, entries_at, block_at, head_from}
use Rattle.update.specs.Append.{appended}
use Rattle.update.proofs.AppendedBlocks.{Standing, Grew, entry_grew, merge_grew}
use Rattle.tape.specs.Record.{record_in}
use Rattle.tape.specs.Tape.{Content, content_of, room_of}
use Rattle.tape.specs.Reader.{place_after, node_on, first_versions, start_length}
use Rattle.buffer.proofs.Parts.{Bytes}
use Rattle.resume.specs.Rows.{own_row, RowsOf, field_when, meet_field}
use Rattle.resume.specs.Versions.{base_in}
use Rattle.resume.proofs.Along.{Versions, along_all, versions_none, version_number, version_first, version_more}
use Rattle.resume.proofs.Meets.{meet_shown}

-- a graph whose versions can be written, with its rows at hand
pub record Ready (rows : List ℕ) (g : Graph) : Type 0 where
  pub lower : every_version parents_lower g ≡ true
  pub ranged : every_version entry_in_range g ≡ true
  pub based : every_version merge_has_base g ≡ true
  pub small : version_count g ≤ max_capacity
  pub shown : RowsOf rows g

ready_old : {rows : List ℕ} {n : Node} {g : Graph} → Ready rows (n ∷ g) → Ready rows g
ready_old {rows} {n} {g} r =
    let s = r.small in
    record {
      lower = every_old parents_lower n g r.lower;
      ranged = every_old entry_in_range n g r.ranged;
      based = every_old merge_has_base n g r.based;
      small = omega arith;
      shown = record {
        long = r.shown.long;
        shown = λ v l.
            r.shown.shown v (omega arith)
            ∙ row_ext (λ u. ancestor (n ∷ g) u v) (λ u. ancestor g u v) row_size (λ u. ancestor_old n g u v l);
      };
    }

ready_drop : {rows : List ℕ} (m : ℕ) (g : Graph) → Ready rows g → Ready rows (drop m g)
ready_drop zero g r = r
ready_drop (suc m) [] r = r
ready_drop (suc m) (n ∷ g) r = ready_drop m g (ready_old r)

-- the versions of a sound room
pub sound_ready : (t : Content) {rows : List ℕ} → sound_room (room_of t) ≡ true → RowsOf rows t.versions → Ready rows t.versions
sound_ready t sound shown =
    let k = sound_facts (room_of t) sound in
    record {
      lower = k.lower;
      ranged = k.ranged;
      based = k.based;
      small = versions_small (room_of t) k;
      shown = shown;
    }

field_some : (b : Bool) (h m : ℕ) → head_from (field_when b h) ≡ some m → h ≡ m
field_some true h m e = cc
field_some false h m e = absurd (let z : ◌≡◌ {A = ℕ} 0 1 = cc in omega arith)

-- one version more
module _ {rows : List ℕ} {g : Graph} where
  parents : (p q : ℕ) → Ready rows (merge p q ∷ g) → (p < version_count g) × (q < version_count g)
  parents p q r = let l = every_new parents_lower (merge p q) g r.lower in (parent_lower g l receiver, parent_lower g l giver)

  -- the base of a merge is the highest version that the rows of its parents have in common
  base_read : (p q : ℕ) → Ready rows (merge p q ∷ g) → base_in rows (merge p q) ≡ base_of g p q
  unfolding meet_field
  base_read p q r = go (meet g p q) refl (every_new merge_has_base (merge p q) g r.based)
    where
      go : (o : Option ℕ) → meet g p q ≡ o → serves_as_base p q o ≡ true → base_in rows (merge p q) ≡ Option.get_or o 0
      go none e b = clash b refl
      go (some m) e b =
          let old = ready_old r in
          field_some (same (own_row rows (base_in rows (merge p q))) (intersection (own_row rows p) (own_row rows q))) (base_in rows (merge p q)) m
          (meet_shown old.shown old.small p q (parents p q r).0 (parents p q r).1 ∙ e)

  base_new : (n : Node) → Ready rows (n ∷ g) → base_in rows n < version_count g
  base_new (Entry p code strip operand) r = omega arith
  base_new (Merge p q) r = rw (base_read p.0 q.0 r) (meet_number-below g p.0 q.0)

  grew : (s : List ℕ) (n : Node) → Ready rows (n ∷ g) → Standing s g → block_at (suc (version_count g)) ≤ length s
      → Grew s (appended s (version_count g) n (base_in rows n)) g n
  grew s (Entry p code strip operand) r h fits =
      let small = r.small in
      entry_grew s g h (ready_old r).lower (omega arith) fits p.0 code strip.0 operand
      (ltb-true p.0 (version_count g) (every_new parents_lower (entry p.0 code strip.0 operand) g r.lower))
  grew s (Merge p q) r h fits =
      let small = r.small in
      merge_grew s g h (ready_old r).lower (omega arith) fits p.0 q.0 (base_in rows (merge p.0 q.0)) (parents p.0 q.0 r).0 (parents p.0 q.0 r).1 (base_read p.0 q.0 r)

-- bytes in which version 0 stands became bytes in which a graph stands, and nothing else changed
pub record Built (s t : List ℕ) (g : Graph) : Type 0 where
  pub long : length t ≡ length s
  pub standing : Standing t g
  pub kept : (k : ℕ) → (block_at 1 ≤ k → k < block_at (version_count g) → ⊥) → (entries_at ≤ k → k < entries_at + row_size → ⊥) → get_or t k 0 ≡ get_or s k 0

built_more : {s t u : List ℕ} {g : Graph} {n : Node} → Built s t g → Grew t u g n → Built s u (n ∷ g)
built_more b w =
    record {
      long = w.long ∙ b.long;
      standing = w.standing;
      kept = λ k outside apart. w.kept k (λ x y. outside (omega arith) (omega arith)) apart ∙ b.kept k (λ x y. outside x (omega arith)) apart;
    }

-- the versions read so far have been written into s, which is a fresh store
pub versions_written_none : (t : Content) {s : List ℕ} {at : ℕ} → at ≡ start_length → Standing s [] → Versions t (Built s s) 0 at
versions_written_none t {s} e h = versions_none t e (Built s s) (record { long = refl; standing = h; kept = λ k outside apart. refl })

pub versions_written_all : (t : Content) {s now : List ℕ} {k at : ℕ} → Versions t (Built s now) k at → length t.versions ≤ k → Built s now t.versions
versions_written_all t a l = (along_all _ _ a l).0

module _ (tape : List ℕ) (t : Content) (bytes : Bytes tape) (says : content_of tape ≡ some t) {rows s : List ℕ} (ready : Ready rows t.versions)
    {k at : ℕ} {now : List ℕ} (a : Versions t (Built s now) k at) (l : k < length t.versions) where
  number : k + 1 ≡ version_count (first_versions k t.versions)
  number = version_number tape t bytes says a l

  module _ {x : Node} (read : x ≡ node_on (record_in (drop at tape))) where
    next_ready : Ready rows (x ∷ first_versions k t.versions)
    next_ready = subst (Ready rows) (version_first tape t bytes says a l read) (ready_drop (length t.versions - suc k) t.versions ready)

    pub next_based : base_in rows x < k + 1
    next_based = rw number (base_new x next_ready)

  module _ (fits : block_at (version_count t.versions) ≤ length s) where
    pub next_fits : block_at (suc (k + 1)) ≤ length now
    next_fits = omega (arith, a.built.long)

    pub versions_written_more : {x : Node} (read : x ≡ node_on (record_in (drop at tape))) {next : ℕ} {after : List ℕ} → after ≡ appended now (k + 1) x (base_in rows x)
        → next ≡ place_after tape at → Versions t (Built s after) (k + 1) next
    versions_written_more {x} read {after = after} made moved =
        let grown : Grew now after (first_versions k t.versions) x =
        rw (made, number) (grew now x (next_ready read) a.built.standing (omega (arith, next_fits, number))) in
        version_more tape t bytes says a l read (Built s after) moved (built_more a.built grown)
