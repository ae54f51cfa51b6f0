-- A buffer after a room's store was written over its front: the encoding stands there, and the bytes behind it are the old ones.
-- Assumes nothing.
use mathlib.Core.Path.{◌≡◌}
use mathlib.Core.Bool.{true}
use mathlib.Core.List.{List}
use Prim.Native.Nat.{ℕ, ◌≤◌}
use native.Mathlib.Omega.{arith}
use lib.ListN.{length, get_or}
use Rattle.buffer.specs.Field.{overwrite}
use Rattle.buffer.proofs.Stands.{Stands}
use Rattle.buffer.proofs.Parts.{stands_overwrite}
use Rattle.room.specs.Room.{Room}
use Rattle.room.specs.Sound.{sound_room}
use Rattle.store.specs.Layout.{store_size, encode}
use Rattle.store.proofs.RoundTrip.{encode_length}

pub overwritten : (s s' : List ℕ) (r : Room) → sound_room r ≡ true → Stands s' 0 (encode r) → store_size r.settings.capacity ≤ length s
    → length s' ≡ length s → ((k : ℕ) → store_size r.settings.capacity ≤ k → get_or s' k 0 ≡ get_or s k 0) → s' ≡ overwrite (encode r) s
overwritten s s' r sound front fits long kept =
    let n = encode_length r sound in
    stands_overwrite (encode r) s s' front (omega arith) long (λ k l. kept k (omega arith))
