-- "Replace entries 06 to 08, or 04 and 05 of marks 8 to 15, by others of those kinds at the same versions": which entries a student does not see,
-- and which graphs and rooms agree but for such entries.
use Rattle.std.specs.Prelude.{ℕ, ◌≡◌, Bool, true, false, ◌&&◌, ◌||◌, [], ◌∷◌, eqb}
use Rattle.board.specs.Board.{mark_put_entry, mark_taken_entry, call_entry, alert_off_entry}
use Rattle.board.specs.Pane.{first_unseen_mark}
use Rattle.graph.specs.declared.Node.{Node}
use Rattle.graph.specs.declared.Node.TheVariants.{Entry, Merge}
use Rattle.graph.specs.Graph.{Graph}
use Rattle.command.specs.Code.{within}
use Rattle.room.specs.Room.{Room}

-- "entries 06 to 08"
abbrev pub is_call_or_alert : ℕ → Bool
is_call_or_alert code = within call_entry alert_off_entry code

-- "04 and 05 of marks 8 to 15"
abbrev pub is_unseen_mark : ℕ → ℕ → Bool
is_unseen_mark code operand = within mark_put_entry mark_taken_entry code && within first_unseen_mark 15 operand

-- an entry of this code with this operand is one that a student does not see
abbrev pub is_unseen : ℕ → ℕ → Bool
is_unseen code operand = is_call_or_alert code || is_unseen_mark code operand

-- a version is such an entry on this parent
abbrev pub is_unseen_on : ℕ → Node → Bool
is_unseen_on parent (Entry p code strip operand) = eqb p.0 parent && is_unseen code operand
is_unseen_on parent (Merge p q) = false

-- Two graphs agree but for what a student does not see: they have as many versions, and each version is the same in both, or is in both such an entry on
-- the same parent. Code, strip and operand may differ, also from one of these kinds to another.
pub data GraphsAgree : Graph → Graph → Type 0 where
  none : GraphsAgree [] []
  same : {g h : Graph} (n : Node) → GraphsAgree g h → GraphsAgree (n ∷ g) (n ∷ h)
  unseen : {g h : Graph} (parent : ℕ) (m n : Node) → is_unseen_on parent m ≡ true → is_unseen_on parent n ≡ true → GraphsAgree g h → GraphsAgree (m ∷ g) (n ∷ h)

-- two rooms agree so: their versions do, and each console has the same head in both, or is absent from both; capacity and hub may differ
pub record RoomsAgree (r s : Room) : Type 0 where
  pub versions : GraphsAgree r.versions s.versions
  pub heads : r.heads ≡ s.heads
