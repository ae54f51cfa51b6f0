-- One sound room has one encoding: it is as long as a store of its capacity, it reads back as the room, it holds a store, and bytes that
-- hold a store begin with the encoding of the sound room that is read off them.
-- Assumes nothing.
use mathlib.Core.Path.{◌≡◌, sym, ap, ◌∙◌}
use mathlib.Core.Bool.{true, ◌&&◌}
use mathlib.Core.List.{List, [], ◌++◌}
use Prim.Native.Nat.{ℕ, pred}
use native.Mathlib.Omega.{arith}
use lib.Dec.{leb}
use lib.ListN.{length, take, drop, length-append, take-append-drop}
use lib.Seq.{take_at}
use borrow.Author.Tests.{le-leb}
use Rattle.laws.proofs.Logic.{and_l, and_r, and_i}
use Rattle.buffer.specs.Field.{word_at, same, overwrite}
use Rattle.buffer.proofs.Fields.{zeros_length, same_true, same_refl}
use Rattle.buffer.proofs.Stands.{stands_front}
use Rattle.room.specs.declared.Settings.{Settings}
use Rattle.room.specs.Room.{Room}
use Rattle.room.specs.Sound.{sound_room}
use Rattle.room.proofs.Sound.{sound_facts}
use Rattle.store.specs.Layout.{store_size, capacity_at, encode, versions_in, room_in, holds_store}
use Rattle.store.proofs.Blocks.{header_length, blocks_length}
use Rattle.store.proofs.Reading.{settings_read, count_read, versions_read, heads_read}

pub encode_length : (r : Room) → sound_room r ≡ true → length (encode r) ≡ store_size r.settings.capacity
unfolding encode
encode_length r h =
    let k = sound_facts r h in
    simp (length-append, header_length, blocks_length, zeros_length) (omega arith)

-- reading a room off its encoding gives it back, with any bytes after it
pub room_encode : (r : Room) (rest : List ℕ) → sound_room r ≡ true → room_in (encode r ++ rest) ≡ r
unfolding room_in
room_encode r rest h =
    let s = encode r ++ rest in
    let front = stands_front (encode r) rest in
    let k = sound_facts r h in
    λ i. record {
      settings = settings_read s r front k i;
      versions = (ap (λ (n : ℕ). versions_in s (pred n)) (count_read s r front k) ∙ versions_read s r front k) i;
      heads = heads_read s r front k i;
    }

pub holds_encode : (r : Room) (rest : List ℕ) → sound_room r ≡ true → holds_store (encode r ++ rest) ≡ true
unfolding holds_store
holds_encode r rest h =
    let s = encode r ++ rest in
    let n = store_size r.settings.capacity in
    let l = encode_length r h in
    let fits = le-leb n (length s) (rw length-append (omega arith)) in
    rw (ap (λ (x : Settings). x.capacity) (settings_read s r (stands_front (encode r) rest) (sound_facts r h)), room_encode r rest h, take_at (encode r) rest n l)
    (and_i (leb n (length s) && sound_room r) (same (encode r) (encode r))
    (and_i (leb n (length s)) (sound_room r) fits h) (same_refl (encode r)))

-- the same of a room that was written over a buffer
module _ (r : Room) (old : List ℕ) (h : sound_room r ≡ true) where
  pub room_over : room_in (overwrite (encode r) old) ≡ r
  room_over = room_encode r (drop (length (encode r)) old) h

  pub holds_over : holds_store (overwrite (encode r) old) ≡ true
  holds_over = holds_encode r (drop (length (encode r)) old) h

-- bytes that hold a store give a sound room
pub holds_sound : (s : List ℕ) → holds_store s ≡ true → sound_room (room_in s) ≡ true
unfolding holds_store
holds_sound s h = search (and_l, and_r)

-- and begin with its encoding
pub holds_front : (s : List ℕ) → holds_store s ≡ true → s ≡ encode (room_in s) ++ drop (store_size (room_in s).settings.capacity) s
unfolding holds_store room_in
holds_front s h =
    let n = store_size (word_at s capacity_at) in
    sym (take-append-drop n s) ∙ ap (λ (front : List ℕ). front ++ drop n s) (same_true (take n s) (encode (room_in s)) (search and_r))

-- two rooms never share an encoding
pub encode_unique : (r r' : Room) → sound_room r ≡ true → sound_room r' ≡ true → encode r ≡ encode r' → r ≡ r'
encode_unique r r' h h' e = sym (room_encode r [] h) ∙ ap (λ (s : List ℕ). room_in (s ++ [])) e ∙ room_encode r' [] h'
