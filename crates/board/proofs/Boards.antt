-- A board that is made strip by strip, by a merge or as a student sees it: strip k of a merge is the merge of the three strips k, a board whose first
-- k strips are made has one more after the next, and the clashes of merged strips are counted.
-- Assumes nothing.
use Prim.Native.Nat.{ℕ, ◌+◌, ◌-◌, ◌*◌, ◌<◌, ◌≤◌}
use mathlib.Core.Path.{◌≡◌, refl, sym, ap, ap₂, ◌∙◌}
use mathlib.Core.List.{List, ◌++◌}
use native.Mathlib.Numerals.{add-one}
use native.Mathlib.Omega.{arith}
use lib.Dec.{eqb}
use lib.ListN.{length, get_or, take, drop}
use lib.Seq.{take_all}
use Rattle.laws.proofs.Lists.{part_at, take_put}
use Rattle.buffer.specs.Field.{word_at, part, with_part}
use Rattle.buffer.proofs.Patches.{put_lent, with_length}
use Rattle.board.specs.Board.{Merged, strip_size, strip_count, board_size, level_at, heading_at, marks_at, calls_at, alerts_at, flag_on, merge_strip, merge_strips, merge_board}
use Rattle.board.specs.Pane.{strips, student_strip}
use Rattle.board.proofs.Length.{merge_strip-length, merged_strips}
use Rattle.board.proofs.Clashes.{strip_clashes, strips_clashes}

-- strip k of a board
abbrev pub strip : List ℕ → ℕ → List ℕ
strip s k = part s (strip_size * k) strip_size

-- a field of a strip is a field of the board
strip_word : (s : List ℕ) (k o : ℕ) → o + 1 < strip_size → word_at (strip s k) o ≡ word_at s (strip_size * k + o)
strip_word s k o h =
    ap₂ (λ (x y : ℕ). x * 256 + y)
    (part_at s (strip_size * k) strip_size o (omega arith))
    (part_at s (strip_size * k) strip_size (o + 1) h ∙ ap (λ (n : ℕ). get_or s n 0) (omega arith))

strip_words : (s : List ℕ) (k : ℕ) → (word_at (strip s k) 0 ≡ word_at s (level_at k)) × (word_at (strip s k) 2 ≡ word_at s (heading_at k))
    × (word_at (strip s k) 4 ≡ word_at s (marks_at k)) × (word_at (strip s k) 6 ≡ word_at s (calls_at k)) × (word_at (strip s k) 8 ≡ word_at s (alerts_at k))
strip_words s k = (
  strip_word s k 0 (omega arith) ∙ ap (word_at s) (omega arith),
  strip_word s k 2 (omega arith),
  strip_word s k 4 (omega arith),
  strip_word s k 6 (omega arith),
  strip_word s k 8 (omega arith),
)

strip_flag : (s : List ℕ) (k : ℕ) → flag_on (strip s k) 0 ≡ flag_on s k
strip_flag s k = ap (λ (x : ℕ). eqb x 1) (part_at s (strip_size * k) strip_size 10 (omega arith))

strip_merged : (l a b : List ℕ) (k : ℕ) → merge_strip (strip l k) (strip a k) (strip b k) 0 ≡ merge_strip l a b k
unfolding merge_strip
strip_merged l a b k =
    let base = strip_words l k in
    let mine = strip_words a k in
    let given = strip_words b k in
    cc (strip_flag a k, strip_flag b k)

-- strip k, worked out from the three strips k and written where it was lent, is strip k of the merge
pub strip_put : (board l a b : List ℕ) (k : ℕ) {x y z new : List ℕ} {clashes : ℕ} → x ≡ strip l k → y ≡ strip a k → z ≡ strip b k
    → (new ≡ (merge_strip x y z 0).bytes) × (clashes ≡ (merge_strip x y z 0).clashes)
    → (take (strip_size * k) board ++ (new ++ drop (strip_size * k + strip_size - strip_size * k) (drop (strip_size * k) board))
    ≡ with_part board (strip_size * k) (merge_strip l a b k).bytes)
    × (clashes ≡ (merge_strip l a b k).clashes)
strip_put board l a b k {x} {y} {z} {new} ex ey ez e =
    let whole : merge_strip x y z 0 ≡ merge_strip l a b k = rw (ex, ey, ez) (strip_merged l a b k) in (
      put_lent board new (merge_strip l a b k).bytes (strip_size * k) (strip_size * k) strip_size refl (e.0 ∙ ap (λ (m : Merged). m.bytes) whole)
          (merge_strip-length l a b k),
      e.1 ∙ ap (λ (m : Merged). m.clashes) whole,
    )

-- strip k as a student sees it, worked out from strip k and written where it was lent
pub strip_seen_put : (pane board : List ℕ) (k : ℕ) {x new : List ℕ} → x ≡ strip board k → new ≡ student_strip x 0
    → take (strip_size * k) pane ++ (new ++ drop (strip_size * k + strip_size - strip_size * k) (drop (strip_size * k) pane))
    ≡ with_part pane (strip_size * k) (student_strip board k)
unfolding student_strip
strip_seen_put pane board k {x} {new} ex e =
    let words = strip_words board k in
    let seen : student_strip x 0 ≡ student_strip board k = rw (ex, words.0, words.1, words.2) in
    put_lent pane new (student_strip board k) (strip_size * k) (strip_size * k) strip_size refl (e ∙ seen) refl

-- the first k strips of a board are those that are given by their numbers
pub record StripsMade (each : ℕ → List ℕ) (board : List ℕ) (k : ℕ) : Type 0 where
  pub within : k ≤ strip_count
  pub long : length board ≡ board_size
  pub done : take (strip_size * k) board ≡ strips each k

pub made_start : (each : ℕ → List ℕ) (board : List ℕ) → length board ≡ board_size → StripsMade each board 0
unfolding strips
made_start each board h = record { within = omega arith; long = h; done = refl }

-- strip k is written
pub made_step : {each : ℕ → List ℕ} {board new : List ℕ} {k : ℕ} → length (each k) ≡ strip_size → StripsMade each board k → k < strip_count
    → new ≡ with_part board (strip_size * k) (each k) → StripsMade each new (k + 1)
unfolding strips with_part
made_step {each} {board} {new} {k} size m h e =
    record {
      within = omega arith;
      long = ap length e ∙ with_length board (each k) (strip_size * k) (omega (arith, m.long)) ∙ m.long;
      done =
          ap (take (strip_size * (k + 1))) e
          ∙ take_put board (each k) _ (strip_size * k) (strip_size * (k + 1)) (omega (arith, m.long)) (omega arith)
          ∙ rw (m.done, add-one);
    }

pub made_finish : {each : ℕ → List ℕ} {board : List ℕ} {k : ℕ} → StripsMade each board k → strip_count ≤ k → board ≡ strips each strip_count
made_finish {each} {board} {k} m h =
    let e : k ≡ strip_count = omega (arith, m.within) in
    rw (e, take_all board_size board (omega (arith, m.long))) at m.done

-- they are merged
abbrev pub Merging : List ℕ → List ℕ → List ℕ → List ℕ → ℕ → Type 0
Merging l a b board k = StripsMade (λ j. (merge_strip l a b j).bytes) board k

pub merging_finish : (l a b : List ℕ) {board : List ℕ} {k : ℕ} → Merging l a b board k → strip_count ≤ k → board ≡ (merge_board l a b).bytes
merging_finish l a b m h = made_finish m h ∙ sym (merged_strips l a b strip_count)

-- the first k strips of a board are merged, and their clashes counted
pub record Counting (l a b board : List ℕ) (clashes k : ℕ) : Type 0 where
  pub merging : Merging l a b board k
  pub counted : clashes ≡ (merge_strips l a b k).clashes

pub counting_start : (l a b board : List ℕ) → length board ≡ board_size → Counting l a b board 0 0
unfolding merge_strips
counting_start l a b board h = record { merging = made_start _ board h; counted = refl }

-- so far there are no more than 64, and a strip adds no more than 2
pub counting_few : {l a b board : List ℕ} {clashes more k : ℕ} (j : ℕ) → Counting l a b board clashes k → more ≡ (merge_strip l a b j).clashes
    → (clashes ≤ 64) × (more ≤ 2)
counting_few {l} {a} {b} {k = k} j m e =
    (omega (arith, m.merging.within, m.counted, strips_clashes l a b k), omega (arith, e, strip_clashes l a b j))

pub counting_step : {l a b board new : List ℕ} {clashes more k : ℕ} → Counting l a b board clashes k → k < strip_count
    → (new ≡ with_part board (strip_size * k) (merge_strip l a b k).bytes) × (more ≡ (merge_strip l a b k).clashes)
    → Counting l a b new (clashes + more) (k + 1)
unfolding merge_strips
counting_step {l} {a} {b} {k = k} m h e = record { merging = made_step (merge_strip-length l a b k) m.merging h e.0; counted = rw (m.counted, e.1, add-one) }

pub counting_finish : {l a b board : List ℕ} {clashes k : ℕ} → Counting l a b board clashes k → strip_count ≤ k
    → (board ≡ (merge_board l a b).bytes) × (clashes ≡ (merge_board l a b).clashes)
counting_finish {l} {a} {b} {k = k} m h =
    let e : k ≡ strip_count = omega (arith, m.merging.within) in
    (merging_finish l a b m.merging h, rw e at m.counted)
