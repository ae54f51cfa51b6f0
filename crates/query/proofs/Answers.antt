-- What the parts of bytes that hold a sound store say of its room: counts, nodes, heads, common versions, ancestors and boards.
-- Assumes nothing.
use mathlib.Core.Path.{◌≡◌, refl, sym, ◌∙◌, ap}
use mathlib.Core.Bool.{true, not}
use mathlib.Core.List.{List}
use mathlib.Core.Option.{some}
use Prim.Native.Nat.{ℕ, pred, ◌≤◌, ◌<◌}
use native.Mathlib.Omega.{arith}
use lib.Dec.{eqb}
use lib.ListN.{length}
use Rattle.buffer.specs.Field.{word_at}
use Rattle.buffer.specs.Row.{member}
use Rattle.buffer.proofs.Rows.{member_row}
use Rattle.graph.specs.Graph.{version_count, node_of, ancestor}
use Rattle.graph.proofs.Ancestor.{ancestor_below}
use Rattle.command.specs.Code.{console_count}
use Rattle.room.specs.Room.{present, head, common}
use Rattle.room.specs.Boards.{board_of}
use Rattle.room.proofs.Sound.{capacity_range}
use Rattle.room.proofs.Steps.{common_meet}
use Rattle.store.specs.Layout.{row_size, block_at, capacity_at, count_at, settings_in, node_in, room_in, holds_store}
use Rattle.store.specs.Check.{row_part, board_part, common_in}
use Rattle.store.proofs.Commons.{head_is, present_is}
use Rattle.store.proofs.Reading.{count_read}
use Rattle.store.proofs.Checks.{own_heads}
use Rattle.store.proofs.Versions.{versions_length_lem, versions_node}
use Rattle.store.proofs.Whole.{whole_sound, whole_header, whole_front, whole_long, whole_small, whole_held, whole_fields, whole_low}
use Rattle.room.specs.Sound.{max_capacity}

pub present_answer : (s : List ℕ) (c : ℕ) → c < console_count → not (eqb (common_in s c c) 0) ≡ present (room_in s) c
present_answer s c l = sym (present_is s (room_in s) (own_heads s) c l)

module _ (s : List ℕ) (t : holds_store s ≡ true) where
  pub settings_answer : (settings_in s ≡ (room_in s).settings) × (word_at s capacity_at ≤ max_capacity)
  unfolding room_in
  settings_answer = (refl, (capacity_range (room_in s).settings (whole_sound s t).settings).1)

  pub count_answer : (word_at s count_at ≡ version_count (room_in s).versions) × (word_at s count_at ≤ max_capacity)
  count_answer =
      let e = count_read s (room_in s) (whole_front s t) (whole_sound s t) in
      (e, omega (arith, whole_small s t))

  -- the blocks of its versions lie in the bytes
  pub versions_inside : block_at (version_count (room_in s).versions) ≤ length s
  versions_inside = omega (arith, (whole_sound s t).fits, whole_long s t)

  pub node_answer : (v : ℕ) → 0 < v → v < version_count (room_in s).versions → node_of (room_in s).versions v ≡ some (node_in s v)
  unfolding room_in
  node_answer v p l = versions_node s (pred (word_at s count_at)) v p (omega (arith, versions_length_lem s (pred (word_at s count_at))))

  -- consoles
  pub head_answer : (c : ℕ) → c < console_count
      → (pred (common_in s c c) ≡ head (room_in s) c) × (pred (common_in s c c) < version_count (room_in s).versions)
  head_answer c l = (sym (head_is s (room_in s) (own_heads s) c l), omega (arith, whole_low s t c l))

  pub common_answer : (c d : ℕ) → c < console_count → d < console_count → present (room_in s) c ≡ true → present (room_in s) d ≡ true
      → (pred (common_in s c d) ≡ common (room_in s) c d) × (pred (common_in s c d) < version_count (room_in s).versions)
  common_answer c d i j p q =
      let m = ((whole_fields s t c d i j).both p q).1 in
      (sym (common_meet (room_in s) c d m), ancestor_below (room_in s).versions (pred (common_in s c d)) (head (room_in s) c) m.first)

  -- versions
  pub ancestor_answer : (u v : ℕ) → u < version_count (room_in s).versions → v < version_count (room_in s).versions
      → member (row_part s v) u ≡ ancestor (room_in s).versions u v
  ancestor_answer u v i j =
      ap (λ (x : List ℕ). member x u) ((whole_held s t).told v j).line
      ∙ member_row (λ w. ancestor (room_in s).versions w v) row_size u (omega (arith, whole_small s t))

  pub board_answer : (v : ℕ) → v < version_count (room_in s).versions → board_part s v ≡ board_of (room_in s).versions v
  board_answer v l = ((whole_held s t).told v l).board

-- what a proof about a store may take for granted
pub ruleset answers = (whole_header, whole_small, versions_inside, settings_answer, count_answer, present_answer, head_answer, common_answer, ancestor_answer, board_answer)
