-- Reading along a whole tape: its versions, and then its heads, one record at a time, with what is built of those read so far as a parameter.
-- Assumes nothing.
use mathlib.Core.Path.{◌≡◌, sym, ap, subst, ◌∙◌}
use mathlib.Core.Bool.{Bool, true}
use mathlib.Core.List.{List, [], ◌∷◌}
use mathlib.Core.Option.{some}
use Prim.Native.Nat.{ℕ, zero, suc, ◌+◌, ◌-◌, ◌≤◌, ◌<◌}
use native.Mathlib.Numerals.{add-one}
use native.Mathlib.Omega.{arith}
use lib.ListN.{length, drop}
use Rattle.laws.proofs.Lists.{all_first, none_first}
use Rattle.graph.specs.declared.Node.{Node}
use Rattle.graph.specs.Graph.{Graph, version_count, every_version}
use Rattle.graph.proofs.Ancestor.{every_old}
use Rattle.tape.specs.Record.{record_in}
use Rattle.tape.specs.Tape.{Content, content_of}
use Rattle.tape.specs.Reader.{place_after, node_on, head_on, first_versions, next_node, first_heads, next_head, start_length, version_place, head_place}
use Rattle.buffer.proofs.Parts.{Bytes}
use Rattle.tape.proofs.Located.{VersionAt, HeadAt, first_place, version_at, head_at_lem}

-- the first k of the records have been read, up to a place; they stand in a list the last first
pub record Along {A : Type 0} (xs : List A) (place : ℕ → ℕ) (Built : List A → Type 0) (k at : ℕ) : Type 0 where
  pub within : k ≤ length xs
  pub placed : at ≡ place k
  pub built : Built (drop (length xs - k) xs)

module _ {A : Type 0} (xs : List A) (place : ℕ → ℕ) where
  pub along_none : (Built : List A → Type 0) {at : ℕ} → at ≡ place 0 → Built [] → Along xs place Built 0 at
  along_none Built e b = record { within = omega arith; placed = e; built = subst Built (sym (none_first xs)) b }

  pub along_all : {Built : List A → Type 0} {k at : ℕ} → Along xs place Built k at → length xs ≤ k → Built xs × (at ≡ place (length xs))
  along_all {Built} {k} a l =
      let w = a.within in
      let e : k ≡ length xs = omega arith in
      (subst Built (ap (λ (m : ℕ). drop (length xs - m) xs) e ∙ all_first xs) a.built, a.placed ∙ ap place e)

  along_more : {Old New : List A → Type 0} {k at next : ℕ} {x : A} → Along xs place Old k at → k < length xs
      → drop (length xs - suc k) xs ≡ x ∷ drop (length xs - k) xs → next ≡ place (suc k) → New (x ∷ drop (length xs - k) xs) → Along xs place New (k + 1) next
  along_more {New = New} {k = k} a l first e b =
      record {
        within = omega arith;
        placed = rw (add-one k) e;
        built = rw (add-one k) (subst New (sym first) b);
      }

-- a test of every version is a test of the first ones
every_drop : (f : Graph → Node → Bool) (m : ℕ) (g : Graph) → every_version f g ≡ true → every_version f (drop m g) ≡ true
every_drop f zero g h = h
every_drop f (suc m) [] h = h
every_drop f (suc m) (n ∷ g) h = every_drop f m g (every_old f n g h)

-- along the versions of a tape
abbrev pub Versions : Content → (Graph → Type 0) → ℕ → ℕ → Type 0
Versions t = Along t.versions (version_place t.versions)

-- the first stands behind the start
pub versions_none : (t : Content) {at : ℕ} → at ≡ start_length → (Built : Graph → Type 0) → Built [] → Versions t Built 0 at
versions_none t e Built b = along_none t.versions (version_place t.versions) Built (e ∙ first_place t.versions) b

module _ (tape : List ℕ) (t : Content) (bytes : Bytes tape) (says : content_of tape ≡ some t) {Old : Graph → Type 0} {k at : ℕ}
    (a : Versions t Old k at) (l : k < length t.versions) where
  there : VersionAt tape t.versions k (next_node t.versions k)
  there = version_at tape t bytes says k l

  pub version_inside : at ≤ length tape
  version_inside = rw a.placed there.inside

  -- the version that comes next has the number k + 1
  pub version_number : k + 1 ≡ version_count (first_versions k t.versions)
  version_number = omega (arith, there.count)

  module _ {x : Node} (read : x ≡ node_on (record_in (drop at tape))) where
    is : x ≡ next_node t.versions k
    is = read ∙ rw a.placed there.read

    pub version_first : first_versions (suc k) t.versions ≡ x ∷ first_versions k t.versions
    version_first = there.first ∙ ap (λ (n : Node). n ∷ first_versions k t.versions) (sym is)

    -- what holds of every version of the tape holds of it and those before it
    pub version_holds : (f : Graph → Node → Bool) → every_version f t.versions ≡ true → every_version f (x ∷ first_versions k t.versions) ≡ true
    version_holds f h = subst (λ (g : Graph). every_version f g ≡ true) version_first (every_drop f (length t.versions - suc k) t.versions h)

    pub version_more : (New : Graph → Type 0) {next : ℕ} → next ≡ place_after tape at → New (x ∷ first_versions k t.versions) → Versions t New (k + 1) next
    version_more New moved b = along_more t.versions (version_place t.versions) a l version_first (moved ∙ rw a.placed there.past) b

-- along the heads of a tape
abbrev pub Heads : Content → (List (ℕ × ℕ) → Type 0) → ℕ → ℕ → Type 0
Heads t = Along t.heads (head_place t)

module _ (tape : List ℕ) (t : Content) (bytes : Bytes tape) (says : content_of tape ≡ some t) {Old : List (ℕ × ℕ) → Type 0} {j at : ℕ}
    (a : Heads t Old j at) (l : j < length t.heads) where
  standing : HeadAt tape t j (next_head t.heads j)
  standing = head_at_lem tape t bytes says j l

  pub head_inside : at ≤ length tape
  head_inside = rw a.placed standing.inside

  module _ {c v : ℕ} (console : c ≡ (head_on (record_in (drop at tape))).0) (version : v ≡ (head_on (record_in (drop at tape))).1) where
    head_is : next_head t.heads j ≡ (c, v)
    head_is = sym (rw a.placed standing.read) ∙ (λ i. (sym console i, sym version i))

    pub head_first : first_heads (suc j) t.heads ≡ (c, v) ∷ first_heads j t.heads
    head_first = standing.first ∙ ap (λ (h : ℕ × ℕ). h ∷ first_heads j t.heads) head_is

    pub head_more : (New : List (ℕ × ℕ) → Type 0) {next : ℕ} → next ≡ place_after tape at → New ((c, v) ∷ first_heads j t.heads) → Heads t New (j + 1) next
    head_more New moved b = along_more t.heads (head_place t) a l head_first (moved ∙ rw a.placed standing.past) b
