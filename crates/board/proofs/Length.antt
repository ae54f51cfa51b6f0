-- Every board is 384 bytes: a merge makes one of that length, and an entry keeps the length. So is a student's pane.
-- Assumes nothing.
use mathlib.Core.Path.{◌≡◌, refl, ap}
use mathlib.Core.Bool.{Bool, true, false, cond}
use mathlib.Core.List.{List, ◌++◌}
use Prim.Native.Nat.{ℕ, zero, suc, ◌*◌}
use native.Mathlib.Omega.{arith}
use lib.ListN.{length, length-set, length-append}
use Rattle.buffer.proofs.Writes.{put_length}
use Rattle.board.specs.declared.Viewer.{Viewer}
use Rattle.board.specs.declared.Viewer.TheVariants.{Instructor, Student}
use Rattle.board.specs.Board.{board_size, strip_size, strip_count, merge_strip, merge_strips, merge_board, enter}
use Rattle.board.specs.Pane.{strips, student_strip, pane_of}

pub merge_strip-length : (l a b : List ℕ) (k : ℕ) → length (merge_strip l a b k).bytes ≡ strip_size
unfolding merge_strip
merge_strip-length l a b k = refl

-- strips one behind the other; those of a merge are such
pub strips_length : (each : ℕ → List ℕ) → ((k : ℕ) → length (each k) ≡ strip_size) → (n : ℕ) → length (strips each n) ≡ strip_size * n
unfolding strips
strips_length each size zero = refl
strips_length each size (suc n) = rw (length-append, strips_length each size n, size n) (omega arith)

pub merged_strips : (l a b : List ℕ) (n : ℕ) → (merge_strips l a b n).bytes ≡ strips (λ k. (merge_strip l a b k).bytes) n
unfolding merge_strips strips
merged_strips l a b zero = refl
merged_strips l a b (suc n) = ap (λ (before : List ℕ). before ++ (merge_strip l a b n).bytes) (merged_strips l a b n)

pub merge_strips-length : (l a b : List ℕ) (n : ℕ) → length (merge_strips l a b n).bytes ≡ strip_size * n
merge_strips-length l a b n = rw (merged_strips l a b n) (strips_length _ (merge_strip-length l a b) n)

pub merge_board-length : (l a b : List ℕ) → length (merge_board l a b).bytes ≡ board_size
merge_board-length l a b = merge_strips-length l a b strip_count

pub student_strip-length : (s : List ℕ) (k : ℕ) → length (student_strip s k) ≡ strip_size
unfolding student_strip
student_strip-length s k = refl

pub pane_length : (viewer : Viewer) (s : List ℕ) → length s ≡ board_size → length (pane_of viewer s) ≡ board_size
pane_length Instructor s long = long
pane_length Student s long = strips_length (student_strip s) (student_strip-length s) strip_count

-- a choice between two of one length
keeps_cond : (b : Bool) (s t u : List ℕ) → length s ≡ length u → length t ≡ length u → length (cond b s t) ≡ length u
keeps_cond true s t u p q = p
keeps_cond false s t u p q = q

pub enter_length : (code k x : ℕ) (s : List ℕ) → length (enter code k x s) ≡ length s
unfolding enter
enter_length code k x s = search (keeps_cond, put_length, length-set) depth 10
