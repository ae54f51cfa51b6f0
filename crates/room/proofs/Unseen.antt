-- Graphs that agree but for what a student does not see have the same ancestors and bases, and show a student the same.
-- Assumes nothing.
use Prim.Native.Nat.{ℕ, suc, ◌≤◌}
use mathlib.Core.Path.{◌≡◌, refl, sym, ◌∙◌, ap, subst}
use mathlib.Core.Bool.{Bool, true, false, cond, not, ◌&&◌, ◌||◌}
use mathlib.Core.List.{List, [], ◌∷◌}
use mathlib.Core.Logic.{inl, inr}
use mathlib.Core.Option
use mathlib.Core.Option.{Option, none, some}
use native.Mathlib.Omega.{arith}
use borrow.Author.Tests.{eqb-true, eq-eqb, ne_eqb}
use lib.Dec.{eqb}
use lib.ListN.{length, get_or, set}
use Rattle.laws.proofs.Logic.{clash, and_l, and_r, and_i, or_split}
use Rattle.board.specs.declared.Cell.{Cell}
use Rattle.board.specs.declared.Cell.TheVariants.{Level, Heading}
use Rattle.board.specs.Board.{mark_bit, writing_code, mark_put_entry, mark_taken_entry, call_entry}
use Rattle.board.specs.Pane.{seen_marks, student_pane}
use Rattle.board.proofs.Marks.{unseen_bit}
use Rattle.board.proofs.Seen.{Alike, alike_same, alike_back, alike_through, pane_alike, alike_merged, alike_entered, alike_unseen}
use Rattle.graph.specs.Below.{every_below, highest_below}
use Rattle.graph.specs.declared.Console.{Console}
use Rattle.graph.specs.declared.Strip.{Strip}
use Rattle.graph.specs.declared.Node.{Node}
use Rattle.graph.specs.declared.Node.TheVariants as node
use Rattle.graph.specs.Graph.{Graph, entry, merge, version_count, some_parent, ancestor, is_meet, meet, base_of}
use Rattle.command.specs.declared.Command.{Command}
use Rattle.command.specs.declared.Command.TheVariants.{Fork, Entry, Merge, FastForward, Leave, MakeHub}
use Rattle.command.specs.Code.{within}
use Rattle.command.proofs.Limits.{within_true}
use Rattle.room.specs.Room.{Room, head}
use Rattle.room.specs.Boards.{board_made, board_of}
use Rattle.room.specs.Step.{moved, grown, step}
use Rattle.room.specs.Unseen.{is_call_or_alert, is_unseen_mark, is_unseen, is_unseen_on, GraphsAgree, same, unseen, RoomsAgree}
use Rattle.room.specs.Unseen as agree
use Rattle.room.proofs.Lengths.{board_of-length}

pub agree_same : (g : Graph) → GraphsAgree g g
agree_same [] = agree.none
agree_same (n ∷ g) = same n (agree_same g)

pub same_length_lem : {g h : Graph} → GraphsAgree g h → length g ≡ length h
same_length_lem agree.none = refl
same_length_lem (same n a) = ap suc (same_length_lem a)
same_length_lem (unseen parent m n p q a) = ap suc (same_length_lem a)

-- what holds of the parent of such an entry
unseen_parent : (f : ℕ → Bool) (parent : ℕ) (n : Node) → is_unseen_on parent n ≡ true → some_parent f n ≡ f parent
unseen_parent f parent (node.Entry p code strip operand) u = ap f (eqb-true p.0 parent (and_l _ _ u))
unseen_parent f parent (node.Merge p q) u = clash u refl

-- "Ancestors, bases and heads do not depend on what an entry says."
same_ancestors : {g h : Graph} → GraphsAgree g h → (u v : ℕ) → ancestor g u v ≡ ancestor h u v
unfolding ancestor
same_ancestors agree.none u v = refl
same_ancestors (same n a) u v =
    λ i. cond (eqb v (suc (same_length_lem a i))) (eqb u v || some_parent (λ w. same_ancestors a u w i) n) (same_ancestors a u v i)
same_ancestors (unseen {g} {h} parent m n p q a) u v =
    let parents : some_parent (ancestor g u) m ≡ some_parent (ancestor h u) n =
    unseen_parent (ancestor g u) parent m p ∙ same_ancestors a u parent ∙ sym (unseen_parent (ancestor h u) parent n q) in
    λ i. cond (eqb v (suc (same_length_lem a i))) (eqb u v || parents i) (same_ancestors a u v i)

same_base : {g h : Graph} → GraphsAgree g h → (p q : ℕ) → base_of g p q ≡ base_of h p q
unfolding meet is_meet
same_base a p q = λ i.
    let leads : ℕ → ℕ → Bool = λ u v. same_ancestors a u v i in
    let common : ℕ → Bool = λ w. leads w p && leads w q in
    let count : ℕ = suc (same_length_lem a i) in
    Option.get_or (highest_below count (λ m. common m && every_below count (λ w. not (common w) || leads w m))) 0

-- such an entry leaves what a student sees as it was: it writes no level and no heading, and no mark from 0 to 7
unseen_writes : (code x : ℕ) → is_unseen code x ≡ true
    → ((cell : Cell) → eqb code (writing_code cell) ≡ false) × (eqb code mark_put_entry || eqb code mark_taken_entry ≡ true → seen_marks (mark_bit x) ≡ 0)
unseen_writes code x u =
    elim (or_split (is_call_or_alert code) (is_unseen_mark code x) u) [
      | inl counts ↦
          let range = within_true _ _ code counts in
          (no_value (omega (arith, range.0)), λ mark. absurd (no_mark (omega (arith, range.0)) mark))
      | inr marks ↦
          let put-or-taken : Bool = within mark_put_entry mark_taken_entry code in
          let range = within_true _ _ x (and_r put-or-taken _ marks) in
          (no_value (within_true mark_put_entry mark_taken_entry code (and_l put-or-taken _ marks)).0, λ _. unseen_bit x (omega (arith, range.0)) (omega (arith, range.1)))
    ]
  where
    no_value : mark_put_entry ≤ code → (cell : Cell) → eqb code (writing_code cell) ≡ false
    no_value l Level = ne_eqb code (writing_code Level) (omega arith)
    no_value l Heading = ne_eqb code (writing_code Heading) (omega arith)

    no_mark : call_entry ≤ code → eqb code mark_put_entry || eqb code mark_taken_entry ≡ true → ⊥
    no_mark l mark =
        elim (or_split (eqb code mark_put_entry) (eqb code mark_taken_entry) mark) [
          | inl four ↦ omega (arith, eqb-true code mark_put_entry four)
          | inr five ↦ omega (arith, eqb-true code mark_taken_entry five)
        ]

unseen_made : (g : Graph) (parent : ℕ) (n : Node) → is_unseen_on parent n ≡ true → Alike (board_made (board_of g) (base_of g) n) (board_of g parent)
unfolding board_made
unseen_made g parent (node.Entry p code strip x) u =
    let on : p.0 ≡ parent = eqb-true p.0 parent (and_l _ _ u) in
    let writes = unseen_writes code x (and_r (eqb p.0 parent) _ u) in
    rw on (alike_unseen code strip.0 x (board_of g parent) (board_of-length g parent) writes.0 writes.1)
unseen_made g parent (node.Merge p q) u = clash u refl

-- boards made of boards that are alike
made_alike : {g h : Graph} → GraphsAgree g h → ((v : ℕ) → Alike (board_of g v) (board_of h v)) → (n : Node)
    → Alike (board_made (board_of g) (base_of g) n) (board_made (board_of h) (base_of h) n)
unfolding board_made
made_alike {g} {h} a older (node.Entry p code strip x) =
    alike_entered code strip.0 x (board_of-length g p.0) (board_of-length h p.0) (older p.0)
made_alike {g} {h} a older (node.Merge p q) =
    let base : Alike (board_of g (base_of g p.0 q.0)) (board_of h (base_of h p.0 q.0)) = rw (same_base a p.0 q.0) (older (base_of h p.0 q.0)) in
    alike_merged base (older p.0) (older q.0)

choice_alike : (b : Bool) {s t u v : List ℕ} → Alike s u → Alike t v → Alike (cond b s t) (cond b u v)
choice_alike true a b = a
choice_alike false a b = b

-- the board of each version, in two graphs that agree
boards_alike : {g h : Graph} → GraphsAgree g h → (v : ℕ) → Alike (board_of g v) (board_of h v)
unfolding board_of
boards_alike agree.none v = alike_same _
boards_alike (same {g} {h} n a) v =
    rw (same_length_lem a) (choice_alike (eqb v (version_count h)) (made_alike a (boards_alike a) n) (boards_alike a v))
boards_alike (unseen {g} {h} parent m n p q a) v =
    rw (same_length_lem a)
    (choice_alike (eqb v (version_count h))
    (alike_through (unseen_made g parent m p) (alike_through (boards_alike a parent) (alike_back (unseen_made h parent n q)))) (boards_alike a v))

pub same_panes : {g h : Graph} → GraphsAgree g h → (v : ℕ) → student_pane (board_of g v) ≡ student_pane (board_of h v)
same_panes a v = pane_alike (boards_alike a v)

-- rooms that agree, and what commands make of them
pub rooms_same : (r : Room) → RoomsAgree r r
rooms_same r = record { versions = agree_same r.versions; heads = refl }

module _ {r s : Room} (a : RoomsAgree r s) where
  same_head : (c : ℕ) → head r c ≡ head s c
  same_head c = ap (λ (heads : List (Option ℕ)). Option.get_or (get_or heads c none) 0) a.heads

  pub same_shown : (c : ℕ) → student_pane (board_of r.versions (head r c)) ≡ student_pane (board_of s.versions (head s c))
  same_shown c = same_panes a.versions (head r c) ∙ ap (λ (v : ℕ). student_pane (board_of s.versions v)) (same_head c)

  moved_agree : (c : ℕ) {h k : Option ℕ} → h ≡ k → RoomsAgree (moved r c h) (moved s c k)
  moved_agree c e = record { versions = a.versions; heads = λ i. set (a.heads i) c (e i) }

  -- the same version, made on heads
  same_made : (made : (ℕ → ℕ) → Node) → GraphsAgree (made (head r) ∷ r.versions) (made (head s) ∷ s.versions)
  same_made made =
      subst (λ (heads : List (Option ℕ)). GraphsAgree (made (λ c. Option.get_or (get_or heads c none) 0) ∷ r.versions) (made (head s) ∷ s.versions)) (sym a.heads)
      (same (made (head s)) a.versions)

  grown_agree : (c : ℕ) {m n : Node} → GraphsAgree (m ∷ r.versions) (n ∷ s.versions) → RoomsAgree (grown r c m) (grown s c n)
  grown_agree c more = record { versions = more; heads = λ i. set (a.heads i) c (some (suc (same_length_lem a.versions i))) }

  -- an entry each that a student does not see, on the same console
  pub entries_agree : (console : Console) (code : ℕ) (strip : Strip) (x code' : ℕ) (strip' : Strip) (x' : ℕ) → is_unseen code x ≡ true → is_unseen code' x' ≡ true
      → RoomsAgree (step r (Entry console code strip x)) (step s (Entry console code' strip' x'))
  unfolding step
  entries_agree console code strip x code' strip' x' u u' =
      let parent : ℕ = head s console.0 in
      grown_agree console.0
      (unseen parent _ _ (and_i _ _ (eq-eqb (head r console.0) parent (same_head console.0)) u) (and_i _ _ (eq-eqb parent parent refl) u') a.versions)

  -- the same command
  pub step_agree : (c : Command) → RoomsAgree (step r c) (step s c)
  unfolding step
  step_agree (Fork new old) = moved_agree new.0 (ap (λ (heads : List (Option ℕ)). get_or heads old.0 none) a.heads)
  step_agree (Entry console code strip operand) =
      grown_agree console.0 (same_made (λ heads. entry (heads console.0) code strip.0 operand))
  step_agree (Merge receiver giver) =
      grown_agree receiver.0 (same_made (λ heads. merge (heads receiver.0) (heads giver.0)))
  step_agree (FastForward receiver giver) = moved_agree receiver.0 (ap (λ (heads : List (Option ℕ)). get_or heads giver.0 none) a.heads)
  step_agree (Leave console) = moved_agree console.0 refl
  step_agree MakeHub = record { versions = a.versions; heads = a.heads }
