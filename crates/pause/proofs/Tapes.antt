-- The tape of the room in a store is its records one behind the other: how long it is, and that it stands at the front of a buffer where
-- they were written there.
-- Assumes nothing.
use mathlib.Core.Bool.{true}
use mathlib.Core.Path.{◌≡◌, sym, ap, ◌∙◌}
use mathlib.Core.List.{List, ◌++◌}
use Prim.Native.Nat.{ℕ, ◌+◌, ◌≤◌}
use native.Mathlib.Omega.{arith}
use lib.ListN.{length, length-append}
use lib.Seq.{take_all}
use Rattle.buffer.specs.Field.{overwrite}
use Rattle.buffer.proofs.Patches.{front_part}
use Rattle.command.specs.Code.{console_count}
use Rattle.graph.specs.Graph.{version_count}
use Rattle.room.specs.Room.{Room}
use Rattle.store.specs.Layout.{block_at, room_in, holds_store}
use Rattle.query.proofs.Answers.{versions_inside}
use Rattle.store.proofs.Checks.{own_versions, own_sixteen}
use Rattle.tape.specs.declared.Record.TheVariants.{Start, End}
use Rattle.tape.specs.Record.{record_bytes}
use Rattle.tape.specs.Tape.{hub_records, tape_of}
use Rattle.buffer.proofs.Laid.{Put, laid_one, laid_more}
use Rattle.pause.specs.Pieces.{version_pieces, head_pieces}

-- the blocks of its versions lie in the bytes
pub blocks_lie : (s : List ℕ) (r : Room) → r ≡ room_in s → holds_store s ≡ true → block_at (version_count r.versions) ≤ length s
blocks_lie s r shown held = rw shown (versions_inside s held)

module _ (s : List ℕ) (r : Room) (shown : r ≡ room_in s) (n : ℕ) (count : n ≡ length r.versions) where
  abbrev start : List ℕ
  start = record_bytes (Start r.settings)

  own_pieces : tape_of r ≡ start ++ version_pieces s n ++ head_pieces r console_count ++ hub_records r.settings ++ record_bytes End
  unfolding tape_of version_pieces head_pieces
  own_pieces =
      rw (count, shown, own_versions s, take_all console_count (room_in s).heads (omega (arith, own_sixteen s)))

  pub tape_size : length start + length (version_pieces s n) + length (head_pieces r console_count) + length (hub_records r.settings) + length (record_bytes End) ≡ length (tape_of r)
  tape_size = sym (ap length own_pieces ∙ simp length-append)

  pub records_written : (old : List ℕ) {t₁ t₂ t₃ t₄ t₅ : List ℕ} {at to hub end last : ℕ} → length (tape_of r) ≤ length old
      → Put old 0 start t₁ at → Put t₁ at (version_pieces s n) t₂ to → Put t₂ to (head_pieces r console_count) t₃ hub → Put t₃ hub (hub_records r.settings) t₄ end
      → Put t₄ end (record_bytes End) t₅ last
      → t₅ ≡ overwrite (tape_of r) old
  records_written old fits one two three four five =
      let size = tape_size in
      let g₁ = laid_one start (omega arith) one in
      let g₂ = laid_more (version_pieces s n) g₁ (omega arith) two in
      let g₃ = laid_more (head_pieces r console_count) g₂ (omega arith) three in
      let g₄ = laid_more (hub_records r.settings) g₃ (omega arith) four in
      let g₅ = laid_more (record_bytes End) g₄ (omega arith) five in
      g₅.put.1 ∙ front_part old _ ∙ ap (λ (x : List ℕ). overwrite x old) (sym own_pieces)
