-- What a record says that is of another sort than the one asked for, told by its tag, or none. Most of this the check finds by itself.
-- Assumes nothing.
use mathlib.Core.Path.{◌≡◌, refl}
use mathlib.Core.Bool.{Bool}
use mathlib.Core.List.{List, [], ◌∷◌}
use mathlib.Core.Option.{none}
use Prim.Native.Nat.{ℕ}
use types.Run.{OneOf, miss}
use borrow.Enum.Refused.{Among, opened}
use denote.Enum.Declared.{tag_of}
use Rattle.std.specs.Prelude.{Option as Found, Some, None}
use Rattle.graph.specs.Graph.{merge}
use Rattle.tape.specs.declared.Record.{Record}
use Rattle.tape.specs.declared.Record.TheVariants.{Start, Version, Head, Hub, End}
use Rattle.tape.specs.declared.scan.Role.{Role}
use Rattle.tape.specs.Tape.{read_from}
use Rattle.tape.specs.Reader.{node_on, head_on, role_of}
use Rattle.tape.specs.contracts.Record as R

-- the tags of the records but those of versions, of heads, or of the start; and of what may stand nowhere behind the start. `None` has no tag, and
-- nothing is asked of it.
abbrev pub NoVersion : Found Record → Type 0
NoVersion None = Unit {0}
NoVersion (Some x) = Among (0 ∷ 2 ∷ 3 ∷ 4 ∷ []) (tag_of R.the_type x)

abbrev pub NoHead : Found Record → Type 0
NoHead None = Unit {0}
NoHead (Some x) = Among (0 ∷ 1 ∷ 3 ∷ 4 ∷ []) (tag_of R.the_type x)

abbrev pub NoStart : Found Record → Type 0
NoStart None = Unit {0}
NoStart (Some x) = Among (1 ∷ 2 ∷ 3 ∷ 4 ∷ []) (tag_of R.the_type x)

abbrev pub StartOrNone : Found Record → Type 0
StartOrNone None = Unit {0}
StartOrNone (Some x) = OneOf (0 ∷ []) (tag_of R.the_type x)

pub no_node : (x : Found Record) → NoVersion x → merge 0 0 ≡ node_on x
no_node None h = refl
no_node (Some (Start settings)) h = refl
no_node (Some (Version node)) h = absurd (miss (0 ∷ 2 ∷ 3 ∷ 4 ∷ []) 1 tt (opened h))
no_node (Some (Head console version)) h = refl
no_node (Some Hub) h = refl
no_node (Some End) h = refl

pub no_head : (x : Found Record) → NoHead x → ◌≡◌ {A = ℕ × ℕ} (0, 0) (head_on x)
no_head None h = refl
no_head (Some (Start settings)) h = refl
no_head (Some (Version node)) h = refl
no_head (Some (Head console version)) h = absurd (miss (0 ∷ 1 ∷ 3 ∷ 4 ∷ []) 2 tt (opened h))
no_head (Some Hub) h = refl
no_head (Some End) h = refl

pub not_read : (x : Found Record) → NoStart x → (k : ℕ) (rest : List ℕ) → none ≡ read_from k rest x
not_read None h k rest = refl
not_read (Some (Start settings)) h k rest = absurd (miss (1 ∷ 2 ∷ 3 ∷ 4 ∷ []) 0 tt (opened h))
not_read (Some (Version node)) h k rest = refl
not_read (Some (Head console version)) h k rest = refl
not_read (Some Hub) h k rest = refl
not_read (Some End) h k rest = refl

pub misplaced : (x : Found Record) (heads : ℕ) (hub : Bool) → StartOrNone x → ◌≡◌ {A = Found Role} None (role_of x heads hub)
unfolding role_of
misplaced None heads hub h = refl
misplaced (Some (Start settings)) heads hub h = refl
misplaced (Some (Version node)) heads hub h = absurd (miss (0 ∷ []) 1 tt h)
misplaced (Some (Head console version)) heads hub h = absurd (miss (0 ∷ []) 2 tt h)
misplaced (Some Hub) heads hub h = absurd (miss (0 ∷ []) 3 tt h)
misplaced (Some End) heads hub h = absurd (miss (0 ∷ []) 4 tt h)
