-- The records of a store's versions and heads are pieces one behind the other, and what a head's piece and the hub's is.
-- Assumes nothing.
use mathlib.Core.Path.{◌≡◌, refl, sym, ap, ◌∙◌}
use mathlib.Core.Bool.{true, false}
use mathlib.Core.List.{List, [], ◌∷◌, ◌++◌, append_assoc}
use mathlib.Core.Option
use mathlib.Core.Option.{Option, none, some}
use Prim.Native.Nat.{ℕ, zero, suc, ◌+◌, ◌≤◌}
use native.Mathlib.Nat.{add-zero, zero-add}
use native.Mathlib.Numerals.{add-one}
use native.Mathlib.Omega.{arith}
use lib.ListN.{get_or, take, length}
use Rattle.laws.proofs.Logic.{clash}
use Rattle.graph.specs.declared.Node.{Node}
use Rattle.graph.specs.Graph.{is_some}
use Rattle.room.specs.declared.Settings.{Settings}
use Rattle.room.specs.Room.{Room, head_of, present, head}
use Rattle.store.specs.Layout.{versions_in}
use Rattle.tape.specs.declared.Record.TheVariants.{Head, Hub}
use Rattle.tape.specs.Record.{record_bytes, version_bytes, longest_record}
use Rattle.tape.specs.Tape.{version_records, head_records, hub_records}
use Rattle.pause.specs.Pieces.{version_piece, version_pieces, head_piece, head_pieces}
use Rattle.pause.proofs.Piled.{Pieces}

pub version_pieces_lem : (s : List ℕ) → Pieces (version_pieces s) (λ k. version_piece s (k + 1))
unfolding version_pieces version_records versions_in
version_pieces_lem s = record { none = refl; more = λ k. rw add-one }

-- the first of some heads and the others
heads_first : (c : ℕ) (h : Option ℕ) (later : List (Option ℕ)) → head_records c (h ∷ later) ≡ head_records c (h ∷ []) ++ head_records (suc c) later
unfolding head_records
heads_first c none later = refl
heads_first c (some v) later = refl

heads_more : (c : ℕ) (heads : List (Option ℕ)) (n : ℕ)
    → head_records c (take (suc n) heads) ≡ head_records c (take n heads) ++ head_records (c + n) (get_or heads n none ∷ [])
unfolding head_records
heads_more c [] zero = refl
heads_more c [] (suc n) = refl
heads_more c (h ∷ later) zero = rw add-zero
heads_more c (h ∷ later) (suc n) =
    let there : suc c + n ≡ c + suc n = omega arith in
    let one : List ℕ = head_records (c + suc n) (get_or later n none ∷ []) in
    heads_first c h (take (suc n) later)
    ∙ ap (λ (x : List ℕ). head_records c (h ∷ []) ++ x) (rw there at (heads_more (suc c) later n))
    ∙ sym (append_assoc (head_records c (h ∷ [])) (head_records (suc c) (take n later)) one)
    ∙ ap (λ (x : List ℕ). x ++ one) (sym (heads_first c h (take n later)))

pub head_pieces_lem : (r : Room) → Pieces (head_pieces r) (head_piece r)
unfolding head_pieces head_piece head_records
head_pieces_lem r = record { none = refl; more = λ k. rw add-one (rw zero-add at (heads_more 0 r.heads k)) }

-- the piece of a console, by whether it is present
one_head_lem : (c : ℕ) (h : Option ℕ) → is_some h ≡ true → record_bytes (Head (record { 0 = c }) (record { 0 = Option.get_or h 0 })) ≡ head_records c (h ∷ [])
unfolding head_records
one_head_lem c none p = clash p refl
one_head_lem c (some v) p = refl

no_head : (c : ℕ) (h : Option ℕ) → is_some h ≡ false → [] ≡ head_records c (h ∷ [])
unfolding head_records
no_head c none p = refl
no_head c (some v) p = clash refl p

module _ (r : Room) (c : ℕ) where
  pub present_piece : present r c ≡ true → record_bytes (Head (record { 0 = c }) (record { 0 = head r c })) ≡ head_piece r c
  unfolding head_piece
  present_piece p = one_head_lem c (head_of r c) p

  pub absent_piece : present r c ≡ false → [] ≡ head_piece r c
  unfolding head_piece
  absent_piece p = no_head c (head_of r c) p

-- no piece is longer than the longest record
pub version_short : (node : Node) → length (version_bytes node) ≤ longest_record
version_short node = grind arith

head_short : (c : ℕ) (h : Option ℕ) → length (head_records c (h ∷ [])) ≤ longest_record
unfolding head_records
head_short c none = omega arith
head_short c (some v) = omega arith

pub head_piece_short : (r : Room) (c : ℕ) → length (head_piece r c) ≤ longest_record
unfolding head_piece
head_piece_short r c = head_short c (head_of r c)

-- what stands behind the heads, by whether console 0 is the hub, as settings that were read say
module _ (r : Room) {read : Settings} (same : read ≡ r.settings) where
  pub hub_piece : read.hub ≡ true → record_bytes Hub ≡ hub_records r.settings
  hub_piece h = rw (← same, h)

  pub no_hub_piece : read.hub ≡ false → [] ≡ hub_records r.settings
  no_hub_piece h = rw (← same, h)
