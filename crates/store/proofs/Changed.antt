-- A store that is as it was but for these parts: the count, the row of the entries, the table of commons, and the blocks of new versions.
-- Where these stand for another room with the same settings, all of it does.
-- Assumes nothing.
use Prim.Native.Nat.{ℕ, ◌+◌, ◌-◌, ◌*◌, ◌≤◌, ◌<◌}
use mathlib.Core.Path.{◌≡◌, sym, ap, ◌∙◌}
use mathlib.Core.Bool.{true}
use mathlib.Core.List.{List}
use native.Mathlib.Omega.{arith}
use lib.ListN.{length, get_or, get_or-replicate}
use Rattle.buffer.specs.Field.{word, zeros, overwrite}
use Rattle.buffer.proofs.Fields.{zeros_length}
use Rattle.buffer.proofs.Stands.{Stands, stands_kept}
use Rattle.graph.specs.Graph.{version_count}
use Rattle.command.specs.Code.{console_count}
use Rattle.room.specs.declared.Settings.{Settings}
use Rattle.room.specs.Room.{Room}
use Rattle.room.specs.Sound.{sound_room}
use Rattle.store.specs.Layout.{header_size, block_size, store_size, count_at, entries_at, commons_end, common_at, block_at, common_field, block, encode}
use Rattle.store.proofs.Blocks.{entries_of}
use Rattle.store.proofs.Joined.{Placed, join_encode}
use Rattle.store.proofs.Overwritten.{overwritten}

-- no byte of these parts, where the versions from n to m are new
abbrev pub Elsewhere : ℕ → ℕ → ℕ → Type 0
Elsewhere n m k =
    (count_at ≤ k → k < count_at + 2 → ⊥) × (entries_at ≤ k → k < commons_end → ⊥) × (block_at n ≤ k → k < block_at m → ⊥)

-- the bytes s of a room became u, for the room next
pub record Changed (s u : List ℕ) (r next : Room) : Type 0 where
  pub settings : next.settings ≡ r.settings
  pub more : version_count r.versions ≤ version_count next.versions
  pub fits : version_count next.versions ≤ r.settings.capacity
  pub kept : (k : ℕ) → Elsewhere (version_count r.versions) (version_count next.versions) k → get_or u k 0 ≡ get_or s k 0
  pub count : Stands u count_at (word (version_count next.versions))
  pub entries : Stands u entries_at (entries_of next)
  pub commons : (c d : ℕ) → c < console_count → d < console_count → Stands u (common_at c d) (word (common_field next c d))
  pub versions : (v : ℕ) → v < version_count next.versions → Stands u (block_at v) (block next.versions v)

-- the unused blocks, of which the first ones are used
free_later : {s u : List ℕ} (n m capacity : ℕ) → n ≤ m → m ≤ capacity → Stands s (block_at n) (zeros (block_size * (capacity - n)))
    → ((k : ℕ) → block_at m ≤ k → get_or u k 0 ≡ get_or s k 0) → Stands u (block_at m) (zeros (block_size * (capacity - m)))
free_later {s} n m capacity a l h kept =
    record {
      read = λ i b.
          let small : i < block_size * (capacity - m) = rw zeros_length at b in
          let there : block_size * (m - n) + i < block_size * (capacity - n) = omega arith in
          kept (block_at m + i) (omega arith)
          ∙ ap (λ (k : ℕ). get_or s k 0) (omega arith)
          ∙ h.read (block_size * (m - n) + i) (rw zeros_length there)
          ∙ get_or-replicate (block_size * (capacity - n)) (block_size * (m - n) + i) 0 0 there
          ∙ sym (get_or-replicate (block_size * (capacity - m)) i 0 0 small);
    }

module _ {s u : List ℕ} {r next : Room} (p : Placed s r) (c : Changed s u r next) where
  changed_placed : Placed u next
  changed_placed =
      record {
        settings = rw c.settings (stands_kept p.settings (λ i x y. c.kept i (omega arith)));
        count = c.count;
        gap = stands_kept p.gap (λ i x y. c.kept i (omega arith));
        entries = c.entries;
        commons = c.commons;
        rest = stands_kept p.rest (λ i x y. c.kept i (omega (arith, zeros_length (header_size - commons_end))));
        versions = c.versions;
        free = rw c.settings
            (free_later (version_count r.versions) (version_count next.versions) r.settings.capacity c.more c.fits p.free
            (λ k l. c.kept k (omega arith)));
      }

  -- and behind it the bytes are the old ones
  pub changed_store : (old : List ℕ) → sound_room next ≡ true → store_size r.settings.capacity ≤ length old → length u ≡ length old
      → ((k : ℕ) → store_size r.settings.capacity ≤ k → get_or s k 0 ≡ get_or old k 0) → u ≡ overwrite (encode next) old
  changed_store old sound room long behind =
      let small = c.fits in
      let same = ap (λ (x : Settings). x.capacity) c.settings in
      overwritten old u next sound (join_encode next changed_placed) (omega arith) long
      (λ k l. c.kept k (omega arith) ∙ behind k (omega arith))
