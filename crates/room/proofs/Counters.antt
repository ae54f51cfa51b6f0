-- The counting law: on every board of a well_formed graph the calls of a strip are the call entries of that strip among the version's
-- ancestors, and the alert count is the alert entries; so a + b − l never goes below 0 nor above 16 bits.
-- Assumes nothing.
use Prim.Native.Nat.{ℕ, ◌+◌, ◌≤◌, ◌<◌}
use mathlib.Core.Path.{◌≡◌, refl, sym, ◌∙◌, ap}
use mathlib.Core.Bool.{Bool, false, cond, ◌&&◌}
use mathlib.Core.List.{List, [], ◌∷◌}
use mathlib.Core.Logic.{inl, inr}
use mathlib.Core.Option.{Option, none, some}
use native.Mathlib.Omega.{arith}
use native.Mathlib.Decide.{ℕ_discrete}
use borrow.Author.Tests.{eqb-true, eq-eqb, ne_eqb}
use lib.Dec.{eqb}
use lib.ListN.{length}
use Rattle.laws.proofs.Logic.{decide, and_l, and_r, cond_true, cond_false}
use Rattle.buffer.specs.Field.{word_at}
use Rattle.board.specs.Board.{strip_count, empty_board, calls_at, alerts_at, merge_count, merge_board, enter, alert_on_entry, call_entry}
use Rattle.board.proofs.Cells.{empty_word, calls_kept, alerts_kept, call_counted, alert_counted, calls_merged, alerts_merged}
use Rattle.graph.specs.declared.Node.{Node}
use Rattle.graph.specs.declared.Node.TheVariants.{Entry, Merge}
use Rattle.graph.specs.Graph.{Graph, entry, merge, version_count, ancestor, node_of, meet_number, base_of, parents_lower}
use Rattle.graph.specs.Below.{count_below}
use Rattle.graph.proofs.Below.{count_ext}
use Rattle.graph.proofs.Ancestor.{every_new, ancestor_below, node_of-new, node_of-old, node_of-named}
use Rattle.graph.proofs.Parent.{parent_lower, sole, receiver, giver}
use Rattle.graph.proofs.Meet.{meet_number_lem}
use Rattle.graph.proofs.Growth.{WellFormed, well_formed-old, merge_base}
use Rattle.graph.proofs.Counting.{held, held_old, held_entry, held_merge, held_bound}
use Rattle.room.specs.Boards.{merge_of, board_made, board_of}
use Rattle.room.proofs.Lengths.{board_of-length}

-- an entry of this code on strip k
abbrev pub entry_is : ℕ → ℕ → Option Node → Bool
entry_is w k none = false
entry_is w k (some (Entry p code strip operand)) = eqb code w && eqb k strip.0
entry_is w k (some (Merge p q)) = false

-- how many entries of this code on strip k are among the ancestors of v
abbrev pub tally : ℕ → ℕ → Graph → ℕ → ℕ
tally w k g v = held (λ e. entry_is w k (node_of g e)) g v

-- a new version changes no tally of the older graph
tally_same : (w k : ℕ) (n : Node) (g : Graph) (v : ℕ) → held (λ e. entry_is w k (node_of (n ∷ g) e)) g v ≡ tally w k g v
unfolding held
tally_same w k n g v =
    count_ext (version_count g) _ _ (λ e l. ap (λ (o : Option Node). entry_is w k o && ancestor g e v) (node_of-old n g e l))

pub board_new : (n : Node) (g : Graph) → board_of (n ∷ g) (version_count g) ≡ board_made (board_of g) (base_of g) n
unfolding board_of
board_new n g = cond_true _ _ _ (eq-eqb (version_count g) (version_count g) refl)

pub board_old : (n : Node) (g : Graph) (v : ℕ) → v < version_count g → board_of (n ∷ g) v ≡ board_of g v
unfolding board_of
board_old n g v l = cond_false _ _ _ (ne_eqb v (version_count g) (omega arith))

-- a counter: the code that adds to it, its place in strip k, and the laws of its cell
module _ (w : ℕ) (place : ℕ → ℕ)
    (empty : (k : ℕ) → k < strip_count → word_at empty_board (place k) ≡ 0)
    (kept : (code j x : ℕ) (s : List ℕ) (k : ℕ) → eqb code w && eqb k j ≡ false → word_at (enter code j x s) (place k) ≡ word_at s (place k))
    (counted : (k x : ℕ) (s : List ℕ) → alerts_at k + 1 < length s → word_at s (place k) + 1 < 65536 → word_at (enter w k x s) (place k) ≡ word_at s (place k) + 1)
    (merged : (l a b : List ℕ) (k : ℕ) → k < strip_count → merge_count (word_at l (place k)) (word_at a (place k)) (word_at b (place k)) < 65536
    → word_at (merge_board l a b).bytes (place k) ≡ merge_count (word_at l (place k)) (word_at a (place k)) (word_at b (place k)))
    (k : ℕ) (inside : k < strip_count) where
  Counts : Graph → ℕ → Type 0
  Counts g v = word_at (board_of g v) (place k) ≡ tally w k g v

  small_tally : (g : Graph) (v : ℕ) → tally w k g v ≤ length g
  small_tally g v = held_bound (λ e. entry_is w k (node_of g e)) g v (root (node_of g 0) refl)
    where
      root : (o : Option Node) → node_of g 0 ≡ o → entry_is w k o ≡ false
      root none e = refl
      root (some n) e = absurd (omega (arith, node_of-named g 0 n e))

  at_entry : (p code strip x : ℕ) (g : Graph) → length g < 65535 → Counts g p
      → word_at (enter code strip x (board_of g p)) (place k) ≡ tally w k g p + cond (eqb code w && eqb k strip) 1 0
  unfolding Counts
  at_entry p code strip x g small ih =
      let board : List ℕ = board_of g p in
      elim (decide (eqb code w && eqb k strip)) [
        | inl t ↦
            let c = eqb-true code w (and_l (eqb code w) (eqb k strip) t) in
            let j = eqb-true k strip (and_r (eqb code w) (eqb k strip) t) in
            let one = counted k x board (omega (arith, board_of-length g p)) (omega (arith, small_tally g p)) in
            cc
        | inr f ↦ kept code strip x board k f ∙ ih ∙ rw f (omega arith)
      ]

  at_merge : (p q : ℕ) (g : Graph) → WellFormed (merge p q ∷ g) → length g < 65535 → ((v : ℕ) → v < version_count g → Counts g v)
      → word_at (merge_of (board_of g) (meet_number g) p q).bytes (place k) ≡ tally w k (merge p q ∷ g) (version_count g)
  unfolding Counts
  at_merge p q g wf small ih =
      let base = merge_base wf in
      let lower = every_new parents_lower (merge p q) g wf.lower in
      let pl = parent_lower g lower receiver in
      let ql = parent_lower g lower giver in
      let l : meet_number g p q ≡ base.0 = meet_number_lem base.1 in
      let bl : base.0 < version_count g = ancestor_below g base.0 p base.1.first in
      let sum = held_merge (λ e. entry_is w k (node_of (merge p q ∷ g) e)) base.1 (ap (entry_is w k) (node_of-new (merge p q) g)) in
      let tp = tally_same w k (merge p q) g p in
      let tq = tally_same w k (merge p q) g q in
      let tl = tally_same w k (merge p q) g base.0 in
      let ip = ih p pl in
      let iq = ih q ql in
      let il = ih base.0 bl in
      let cell : word_at (merge_board (board_of g base.0) (board_of g p) (board_of g q)).bytes (place k) ≡ tally w k (merge p q ∷ g) (version_count g) =
      merged (board_of g base.0) (board_of g p) (board_of g q) k inside (omega (arith, small_tally (merge p q ∷ g) (version_count g))) ∙ omega arith in
      rw l cell

  at_new : (n : Node) (g : Graph) → WellFormed (n ∷ g) → length g < 65535 → ((v : ℕ) → v < version_count g → Counts g v)
      → word_at (board_made (board_of g) (meet_number g) n) (place k) ≡ tally w k (n ∷ g) (version_count g)
  unfolding board_made
  at_new (Entry p code strip x) g wf small ih =
      let n : Node = entry p.0 code strip.0 x in
      let f : ℕ → Bool = λ e. entry_is w k (node_of (n ∷ g) e) in
      let newest : f (version_count g) ≡ (eqb code w && eqb k strip.0) = ap (entry_is w k) (node_of-new n g) in
      at_entry p.0 code strip.0 x g small (ih p.0 (parent_lower g (every_new parents_lower n g wf.lower) (sole {code = code} {strip = strip} {operand = x})))
      ∙ sym (held_entry f p.0 code strip.0 x g ∙ cc (tally_same w k n g p.0, newest))
  at_new (Merge p q) g wf small ih = at_merge p.0 q.0 g wf small ih

  at_first : (v : ℕ) → Counts [] v
  unfolding Counts board_of held count_below node_of
  at_first v = empty k inside

  counter_tally : (g : Graph) (v : ℕ) → WellFormed g → length g < 65535 → v < version_count g → word_at (board_of g v) (place k) ≡ tally w k g v
  unfolding Counts
  counter_tally [] v wf small l = at_first v
  counter_tally (n ∷ g) v wf small l =
      let shown : List ℕ → ℕ = λ b. word_at b (place k) in
      elim (ℕ_discrete v (version_count g)) [
        | yes e ↦
            ap (λ (u : ℕ). shown (board_of (n ∷ g) u)) e ∙ ap shown (board_new n g)
            ∙ at_new n g wf (omega arith) (λ u m. counter_tally g u (well_formed-old wf) (omega arith) m)
            ∙ ap (tally w k (n ∷ g)) (sym e)
        | no ne ↦
            let old : v < version_count g = omega arith in
            ap shown (board_old n g v old) ∙ counter_tally g v (well_formed-old wf) (omega arith) old
            ∙ sym (held_old (λ e. entry_is w k (node_of (n ∷ g) e)) n g v old ∙ tally_same w k n g v)
      ]

-- "the call counter equals the number of call entries heard for that strip", of every version; and the alert count the alert entries
pub calls_tally : (g : Graph) (v k : ℕ) → WellFormed g → length g < 65535 → v < version_count g → k < strip_count
    → word_at (board_of g v) (calls_at k) ≡ tally call_entry k g v
calls_tally g v k wf small l inside =
    counter_tally call_entry calls_at (λ j m. empty_word (calls_at j) (omega arith)) calls_kept call_counted calls_merged k inside g v wf small l

pub alerts_tally : (g : Graph) (v k : ℕ) → WellFormed g → length g < 65535 → v < version_count g → k < strip_count
    → word_at (board_of g v) (alerts_at k) ≡ tally alert_on_entry k g v
alerts_tally g v k wf small l inside =
    counter_tally alert_on_entry alerts_at (λ j m. empty_word (alerts_at j) (omega arith)) alerts_kept alert_counted alerts_merged k inside g v wf small l
