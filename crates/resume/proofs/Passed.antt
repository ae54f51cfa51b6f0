-- The ranges of a whole tape, tested while it is read: versions first and then heads.
-- Assumes nothing.
use Prim.Native.Nat.{ℕ, zero, suc, ◌+◌, ◌-◌, ◌≤◌, ◌<◌}
use mathlib.Core.Path.{◌≡◌, refl, sym, ◌∙◌, ap, ap₂}
use mathlib.Core.Bool.{Bool, true, false, ◌&&◌, and-true, and_assoc, and_comm}
use mathlib.Core.List.{List, [], ◌∷◌}
use mathlib.Core.Option.{some}
use native.Mathlib.Omega.{arith}
use lib.Dec.{ltb}
use lib.ListN.{length, drop}
use borrow.Author.Tests.{le-leb, lt-leb}
use Rattle.laws.proofs.Logic.{clash, refuted, and_l, and_r, and_i, and_pairs}
use Rattle.graph.specs.declared.Node.{Node}
use Rattle.graph.specs.declared.Node.TheVariants.{Entry, Merge}
use Rattle.graph.specs.Graph.{Graph, version_count, every_version, parents_lower}
use Rattle.graph.proofs.Ancestor.{every_new}
use Rattle.command.specs.Code.{is_entry_code, is_strip, is_operand}
use Rattle.room.specs.declared.Settings.{Settings}
use Rattle.room.specs.Sound.{entry_in_range}
use Rattle.store.specs.Rules.{node_in_range}
use Rattle.tape.specs.Record.{record_in}
use Rattle.tape.specs.Tape.{Content, content_of, consoles_rise, heads_named, in_range}
use Rattle.tape.specs.Reader.{place_after, node_on, head_on, first_versions, first_heads, start_length, head_place}
use Rattle.buffer.proofs.Parts.{Bytes}
use Rattle.std.specs.Prelude.{Option as Found, Some, None}
use Rattle.graph.specs.declared.Console.{Console}
use Rattle.resume.specs.Ranges.{versions_in_range, console_follows, head_in_range}
use Rattle.resume.proofs.Along.{Versions, Heads, along_none, along_all, versions_none, version_number, version_holds, version_more, head_first, head_more}
use Rattle.resume.proofs.Follows.{last_console, rising, risen}

-- the numbers of a version on top of a graph are in range where its parents are lower and its entry is in range
pub node_ranged : (g : Graph) (n : Node) → node_in_range (version_count g) n ≡ (parents_lower g n && entry_in_range g n)
node_ranged g (Entry p code strip operand) = and_comm (is_entry_code code && is_strip strip.0 && is_operand code operand) (ltb p.0 (version_count g))
node_ranged g (Merge p q) = sym (and-true _)

-- the versions read so far are in range
abbrev pub Ranged : Graph → Type 0
Ranged g = versions_in_range g ≡ true

pub ranged_none : (t : Content) {at : ℕ} → at ≡ start_length → Versions t Ranged 0 at
unfolding every_version
ranged_none t e = versions_none t e Ranged refl

-- the heads read so far are in range, and the console of the last
abbrev pub Followed : Graph → Found Console → List (ℕ × ℕ) → Type 0
Followed g last heads = (last ≡ last_console heads) × (rising heads && heads_named g heads ≡ true)

pub followed_none : (t : Content) {at : ℕ} → at ≡ head_place t 0 → Heads t (Followed t.versions None) 0 at
unfolding heads_named
followed_none t e = along_none t.heads (head_place t) (Followed t.versions None) e (refl, refl)

pub followed_all : (t : Content) {j at : ℕ} {last : Found Console} → Heads t (Followed t.versions last) j at → length t.heads ≤ j
    → (length t.heads ≡ 0 → ⊥) → consoles_rise t.heads && heads_named t.versions t.heads ≡ true
followed_all t a l some_there = rw (risen t.heads (omega arith)) at (along_all _ _ a l).0.1

-- without a head nothing rises
pub no_heads : (t : Content) → length t.heads ≡ 0 → consoles_rise t.heads && heads_named t.versions t.heads ≡ false
unfolding consoles_rise
no_heads t e = go t.heads e
  where
    go : (heads : List (ℕ × ℕ)) → length heads ≡ 0 → consoles_rise heads && heads_named t.versions heads ≡ false
    go [] e = refl
    go (h ∷ before) e = absurd (omega arith)

-- where all heads are in range, the first ones are
followed_drop : (g : Graph) (m : ℕ) (heads : List (ℕ × ℕ)) → rising heads && heads_named g heads ≡ true
    → rising (drop m heads) && heads_named g (drop m heads) ≡ true
unfolding heads_named
followed_drop g zero heads h = h
followed_drop g (suc m) [] h = h
followed_drop g (suc m) (x ∷ before) h =
    followed_drop g m before (and_l _ _ (and_pairs (rising before) (heads_named g before) _ _ ∙ h))

module _ (tape : List ℕ) (t : Content) (bytes : Bytes tape) (says : content_of tape ≡ some t) where
  module _ {Old : Graph → Type 0} {k at : ℕ} {x : Node} (a : Versions t Old k at) (l : k < length t.versions) (read : x ≡ node_on (record_in (drop at tape))) where
    abbrev before : Graph
    before = first_versions k t.versions

    node_tested : node_in_range (k + 1) x ≡ (parents_lower before x && entry_in_range before x)
    node_tested = ap (λ (v : ℕ). node_in_range v x) (version_number tape t bytes says a l) ∙ node_ranged before x

    -- the version that is read now is out of range, and then so are all together
    pub versions_refused : node_in_range (k + 1) x ≡ false → versions_in_range t.versions ≡ false
    versions_refused out =
        refuted _
        (λ range.
        let lower = every_new parents_lower x before (version_holds tape t bytes says a l read parents_lower (and_l (every_version parents_lower t.versions) _ range)) in
        let ranged = every_new entry_in_range x before (version_holds tape t bytes says a l read entry_in_range (and_r (every_version parents_lower t.versions) _ range)) in
        clash (node_tested ∙ and_i _ _ lower ranged) out)

  pub ranged_more : {k at next : ℕ} {x : Node} → Versions t Ranged k at → k < length t.versions
      → x ≡ node_on (record_in (drop at tape)) → node_in_range (k + 1) x ≡ true → next ≡ place_after tape at → Versions t Ranged (k + 1) next
  unfolding every_version
  ranged_more {k} {at} {x = x} a l read tested moved =
      let g = first_versions k t.versions in
      version_more tape t bytes says a l read Ranged moved
      (sym (and_pairs (every_version parents_lower g) (every_version entry_in_range g) (parents_lower g x) (entry_in_range g x))
      ∙ and_i _ _ a.built (sym (node_tested a l read) ∙ tested))

  module _ {j at count c v : ℕ} {last : Found Console} (a : Heads t (Followed t.versions last) j at) (l : j < length t.heads) (counted : count ≡ version_count t.versions)
      (console : c ≡ (head_on (record_in (drop at tape))).0) (version : v ≡ (head_on (record_in (drop at tape))).1) where
    abbrev earlier : List (ℕ × ℕ)
    earlier = first_heads j t.heads

    head_tested : head_in_range last count c v ≡ (console_follows (last_console earlier) c && ltb v (version_count t.versions))
    head_tested = ap₂ ◌&&◌ (ap (λ (d : Found Console). console_follows d c) a.built.0) (ap (ltb v) counted)

    pub heads_refused : head_in_range last count c v ≡ false → consoles_rise t.heads && heads_named t.versions t.heads ≡ false
    unfolding heads_named
    heads_refused out =
        refuted _
        (λ range.
        let all : rising t.heads && heads_named t.versions t.heads ≡ true = rw (risen t.heads (omega arith)) range in
        let these = followed_drop t.versions (length t.heads - suc j) t.heads all in
        let here = rw (head_first tape t bytes says a l console version) at these in
        let now = and_r (rising earlier && heads_named t.versions earlier) _ (and_pairs (rising earlier) (heads_named t.versions earlier) _ _ ∙ here) in
        clash (head_tested ∙ now) out)

    pub followed_more : {next : ℕ} → head_in_range last count c v ≡ true → next ≡ place_after tape at → Heads t (Followed t.versions (Some (record { 0 = c }))) (j + 1) next
    unfolding heads_named
    followed_more tested moved =
        head_more tape t bytes says a l console version (Followed t.versions (Some (record { 0 = c }))) moved (
          refl,
          sym (and_pairs (rising earlier) (heads_named t.versions earlier) (console_follows (last_console earlier) c) (ltb v (version_count t.versions)))
              ∙ and_i _ _ a.built.1 (sym head_tested ∙ tested),
        )

-- the tests together
pub all_tests : (t : Content) (settings : Settings) (versions-ok heads-ok : Bool) → settings ≡ t.settings → length t.versions < settings.capacity
    → versions-ok ≡ versions_in_range t.versions → heads-ok ≡ (consoles_rise t.heads && heads_named t.versions t.heads)
    → versions-ok && heads-ok ≡ in_range t
all_tests t settings v h c l ve he =
    let size = ap (λ (x : Settings). x.capacity) c in
    rw (ve, he, le-leb (version_count t.versions) t.settings.capacity (omega arith))
    (sym (and_assoc (versions_in_range t.versions) (consoles_rise t.heads) (heads_named t.versions t.heads)))

pub too_many_versions : (t : Content) (settings : Settings) → settings ≡ t.settings → settings.capacity ≤ length t.versions → false ≡ in_range t
too_many_versions t settings c l =
    let size = ap (λ (x : Settings). x.capacity) c in
    rw (lt-leb (version_count t.versions) t.settings.capacity (omega arith))
