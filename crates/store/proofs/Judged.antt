-- The test of a store group by group, as the code makes it: a failed group fails it, and where all but the last pass, the last decides.
-- Assumes nothing.
use Prim.Native.Nat.{ℕ, ◌-◌, ◌≤◌, ◌<◌}
use native.Mathlib.Numerals.{sub-one}
use mathlib.Core.Path.{◌≡◌, sym, ◌∙◌}
use mathlib.Core.Bool.{true, false, ◌&&◌}
use mathlib.Core.List.{List}
use borrow.Author.Tests.{le-leb, lt-leb}
use lib.ListN.{length}
use Rattle.laws.proofs.Logic.{clash, refuted}
use Rattle.buffer.specs.Field.{word_at}
use Rattle.buffer.proofs.Parts.{Bytes}
use Rattle.store.specs.Layout.{header_size, store_size, capacity_at, count_at, holds_store}
use Rattle.store.specs.Check.{versions_right, spare_zero, rest_zero, consoles_right, heads_cover, settings_right, contents_right, hub_right, store_right}
use Rattle.store.proofs.Holds.{holds_right}
use Rattle.store.proofs.Checked.{check_holds}

module _ (s : List ℕ) (capacity n : ℕ) where
  pub too_few : n < 1 → contents_right s capacity n ≡ false
  unfolding contents_right
  too_few h = rw (lt-leb 1 n h)

  pub too_many : 1 ≤ n → capacity < n → contents_right s capacity n ≡ false
  unfolding contents_right
  too_many some h = rw (le-leb 1 n some, lt-leb n capacity h)

  -- the groups behind these two
  pub grouped : 1 ≤ n → n ≤ capacity
      → contents_right s capacity n ≡ spare_zero s && (versions_right s (n - 1) && (rest_zero s capacity n && (consoles_right s n && heads_cover s n)))
  unfolding contents_right
  grouped some fits = rw (le-leb 1 n some, le-leb n capacity fits, sub-one n)

-- the whole test: a failed part fails it, and then the bytes hold no store; where all before pass, the contents decide
module _ (s : List ℕ) where
  unheld : store_right s ≡ false → holds_store s ≡ false
  unheld h = refuted (holds_store s) (λ t. clash (holds_right s t) h)

  pub too_short_lem : length s < header_size → holds_store s ≡ false
  unfolding store_right
  too_short_lem h = unheld (rw (lt-leb header_size (length s) h))

  module _ (long : header_size ≤ length s) where
    pub out_of_range : settings_right s ≡ false → holds_store s ≡ false
    unfolding store_right
    out_of_range h = unheld (rw (le-leb header_size (length s) long, h))

    module _ (ranged : settings_right s ≡ true) where
      pub no_room : length s < store_size (word_at s capacity_at) → holds_store s ≡ false
      unfolding store_right
      no_room h = unheld (rw (le-leb header_size (length s) long, ranged, lt-leb (store_size (word_at s capacity_at)) (length s) h))

      pub contents_decide : Bytes s → store_size (word_at s capacity_at) ≤ length s
          → contents_right s (word_at s capacity_at) (word_at s count_at) && hub_right s ≡ holds_store s
      unfolding store_right
      contents_decide bytes room =
          sym (sym (check_holds s bytes) ∙ rw (le-leb header_size (length s) long, ranged, le-leb (store_size (word_at s capacity_at)) (length s) room))
