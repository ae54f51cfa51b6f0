-- What the test of lent bytes asks, one by one, in terms of the room that is read off them.
-- Assumes nothing.
use mathlib.Core.Path.{◌≡◌, refl, sym, ◌∙◌, ap, subst}
use mathlib.Core.Bool.{true}
use mathlib.Core.List.{List}
use Prim.Native.Nat.{ℕ, pred, ◌-◌, ◌*◌, ◌≤◌, ◌<◌}
use native.Mathlib.Nat.{zero-add}
use native.Mathlib.Omega.{arith}
use lib.Dec.{ltb}
use lib.ListN.{length}
use borrow.Author.Tests.{leb-true, le-leb}
use Rattle.laws.proofs.Logic.{and_l, and_r, and_i}
use Rattle.buffer.specs.Field.{word_at, part, all_zero}
use Rattle.buffer.specs.Row.{row, none_from}
use Rattle.buffer.proofs.Fields.{same_true}
use Rattle.buffer.proofs.Parts.{same_of}
use Rattle.graph.specs.Below.{every_below}
use Rattle.graph.specs.Graph.{version_count}
use Rattle.command.specs.Code.{console_count}
use Rattle.room.specs.declared.Settings.{Settings}
use Rattle.room.specs.Room.{head_of}
use Rattle.room.specs.Sound.{settings_in_range}
use Rattle.store.specs.Layout.{header_size, row_size, block_size, store_size, capacity_at, hub_at, count_at, spare_at, entries_at, commons_end, block_at, versions_in, head_from, settings_in, room_in}
use Rattle.store.specs.Check.{row_part, entries_part, versions_right, common_in, console_right, behind_heads, hub_right, contents_right, store_right}
use Rattle.store.proofs.Reading.{heads_in-length, heads_in-one}
use Rattle.store.proofs.Versions.{versions_length_lem}

-- of a store with these settings and n versions
pub record Checks (s : List ℕ) (settings : Settings) (n : ℕ) : Type 0 where
  pub known : settings_in_range settings ≡ true
  pub flag : word_at s hub_at ≤ 1
  pub long : store_size settings.capacity ≤ length s
  pub count : word_at s count_at ≡ n
  pub some : 1 ≤ n
  pub fits : n ≤ settings.capacity
  pub gap : all_zero (part s spare_at (entries_at - spare_at)) ≡ true
  pub rest : all_zero (part s commons_end (header_size - commons_end)) ≡ true
  pub versions : versions_right s (pred n) ≡ true
  pub none : none_from (entries_part s) n ≡ true
  pub free : all_zero (part s (block_at n) (block_size * (settings.capacity - n))) ≡ true
  pub consoles : every_below console_count (console_right s n) ≡ true
  pub first : ltb 0 (common_in s 0 0) ≡ true
  pub behind : behind_heads s (row_part s) console_count ≡ row (λ v. ltb v n) row_size
  pub hub : hub_right s ≡ true

module _ (s : List ℕ) where
  fields_checks : store_right s ≡ true → Checks s (settings_in s) (word_at s count_at)
  unfolding store_right contents_right
  fields_checks h =
      record {
        known = search (and_l, and_r) depth 12;
        flag = leb-true _ _ (search (and_l, and_r) depth 12);
        long = leb-true _ _ (search (and_l, and_r) depth 12);
        count = refl;
        some = leb-true _ _ (search (and_l, and_r) depth 12);
        fits = leb-true _ _ (search (and_l, and_r) depth 12);
        gap = search (and_l, and_r) depth 12;
        rest = search (and_l, and_r) depth 12;
        versions = search (and_l, and_r) depth 12;
        none = search (and_l, and_r) depth 12;
        free = search (and_l, and_r) depth 12;
        consoles = search (and_l, and_r) depth 12;
        first = search (and_l, and_r) depth 12;
        behind = same_true _ _ (search (and_l, and_r) depth 12);
        hub = search (and_l, and_r) depth 12;
      }

  checks_fields : Checks s (settings_in s) (word_at s count_at) → store_right s ≡ true
  unfolding store_right contents_right
  checks_fields k =
      and_i _ _ (le-leb header_size (length s) (omega (arith, k.long)))
      (and_i _ _ (and_i _ _ k.known (le-leb (word_at s hub_at) 1 k.flag))
      (and_i _ _ (le-leb (store_size (word_at s capacity_at)) (length s) k.long)
      (and_i _ _
      (and_i _ _ (le-leb 1 (word_at s count_at) k.some)
      (and_i _ _ (le-leb (word_at s count_at) (word_at s capacity_at) k.fits)
      (and_i _ _ (and_i _ _ k.gap k.rest)
      (and_i _ _ k.versions
      (and_i _ _ (and_i _ _ k.none k.free)
      (and_i _ _ k.consoles (and_i _ _ k.first (same_of _ _ k.behind))))))))
      k.hub)))

  -- the test, of the room's own capacity and number of versions
  pub right_checks : store_right s ≡ true → Checks s (room_in s).settings (version_count (room_in s).versions)
  unfolding room_in
  right_checks h =
      let k = fields_checks h in
      let e = versions_length_lem s (pred (word_at s count_at)) in
      subst (Checks s (settings_in s)) (omega (arith, k.some)) k

  pub checks_right : Checks s (room_in s).settings (version_count (room_in s).versions) → store_right s ≡ true
  unfolding room_in
  checks_right k = checks_fields (subst (Checks s (settings_in s)) (sym k.count) k)

  -- what the room read off the bytes has to do with them
  pub own_versions : versions_in s (length (room_in s).versions) ≡ (room_in s).versions
  unfolding room_in
  own_versions = ap (versions_in s) (versions_length_lem s (pred (word_at s count_at)))

  pub own_sixteen : length (room_in s).heads ≡ console_count
  unfolding room_in
  own_sixteen = heads_in-length s 0 console_count

  pub own_heads : (c : ℕ) → c < console_count → head_of (room_in s) c ≡ head_from (common_in s c c)
  unfolding room_in
  own_heads c l = heads_in-one s 0 console_count c l ∙ rw zero-add
