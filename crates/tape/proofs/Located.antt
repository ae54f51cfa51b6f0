-- Which record stands at which place of a tape that says something: the versions from 1 upward, then the heads.
-- Assumes nothing.
use Prim.Native.Nat.{ℕ, zero, suc, ◌+◌, ◌-◌, ◌*◌, ◌≤◌, ◌<◌}
use mathlib.Core.Path.{◌≡◌, refl, sym, ◌∙◌, ap}
use mathlib.Core.List.{List, [], ◌∷◌, ◌++◌, append_assoc, append-nil}
use mathlib.Core.Option.{some}
use native.Mathlib.Omega.{arith}
use native.Mathlib.Nat.{not-suc-le-zero}
use lib.ListN.{length, get_or, take, drop, length-append, length-drop}
use lib.Seq.{drop_at}
use borrow.Author.Tests.{le-ltb}
use Rattle.laws.proofs.Logic.{cond_false}
use Rattle.laws.proofs.Lists.{all_first, none_first, one_more}
use Rattle.graph.specs.declared.Node.{Node}
use Rattle.graph.specs.Graph.{Graph, merge}
use Rattle.command.specs.Code.{shape_of, length_of}
use Rattle.buffer.proofs.Parts.{Bytes}
use Rattle.std.specs.Prelude.{Some}
use Rattle.tape.specs.declared.Record.{Record}
use Rattle.tape.specs.declared.Record.TheVariants.{Start, Version, End}
use Rattle.tape.specs.Record.{record_in, record_bytes}
use Rattle.tape.specs.Tape.{Content, content_of, version_records, hub_records}
use Rattle.tape.specs.Reader.{place_after, node_on, head_on, first_versions, next_node, first_heads, next_head, start_length, head_length, version_place, head_place}
use Rattle.tape.proofs.Records.{Fits, record_read, record_length_lem}
use Rattle.tape.proofs.Heads.{head_bytes}
use Rattle.tape.proofs.Written.{record_of_head, AllFit, tape_written, tape_fits}

-- a record stands whole at a place, and the next one begins at a further place
record RecordAt (tape : List ℕ) (at : ℕ) (x : Record) (next : ℕ) : Type 0 where
  read : record_in (drop at tape) ≡ Some x
  past : place_after tape at ≡ next
  inside : at ≤ length tape

-- the bytes of a record, between others
record_between : (before rest : List ℕ) (x : Record) (at next : ℕ) → Fits x → length before ≡ at → at + length (record_bytes x) ≡ next
    → RecordAt (before ++ (record_bytes x ++ rest)) at x next
record_between before rest x at next fits here far =
    let behind = drop_at before (record_bytes x ++ rest) at here in
    let size = record_length_lem x rest fits in
    let long = length-append before (record_bytes x ++ rest) in
    let later = length-append (record_bytes x) rest in
    let whole = le-ltb (length (record_bytes x ++ rest)) (length (record_bytes x)) (omega arith) in
    record {
      read = rw behind (record_read x rest fits);
      past = rw (behind, size) (cond_false _ _ _ whole ∙ far);
      inside = omega arith;
    }

-- Records that stand one after the other: those of the versions, and those of the heads.
module _ {A : Type 0} (recordOf : A → Record) (bytes_of : List A → List ℕ) (none-there : bytes_of [] ≡ [])
    (one-there : (x : A) (before : List A) → bytes_of (x ∷ before) ≡ bytes_of before ++ record_bytes (recordOf x)) where
  split : (m : ℕ) (xs : List A) → bytes_of xs ≡ bytes_of (drop m xs) ++ bytes_of (take m xs)
  split zero xs = rw none-there (sym (append-nil (bytes_of xs)))
  split (suc m) [] = cc (append-nil (bytes_of []))
  split (suc m) (x ∷ before) =
      rw (one-there x before, one-there x (take m before), split m before) (append_assoc (bytes_of (drop m before)) _ _)

  fit_at : (xs : List A) (m : ℕ) (d : A) → AllFit recordOf xs → m < length xs → Fits (recordOf (get_or xs m d))
  fit_at [] m d f l = absurd (not-suc-le-zero l)
  fit_at (x ∷ before) zero d f l = f.0
  fit_at (x ∷ before) (suc m) d f l = fit_at before m d f.1 (omega arith)

  in_sequence : (front rest : List ℕ) (xs : List A) (d : A) (k : ℕ) → AllFit recordOf xs → k < length xs
      → RecordAt (front ++ (bytes_of xs ++ rest)) (length front + length (bytes_of (drop (length xs - k) xs)))
      (recordOf (get_or xs (length xs - suc k) d)) (length front + length (bytes_of (drop (length xs - suc k) xs)))
  in_sequence front rest xs d k fit l =
      let m : ℕ = length xs - suc k in
      let x : A = get_or xs m d in
      let first : List ℕ = bytes_of (drop (length xs - k) xs) in
      let next : bytes_of (drop m xs) ≡ first ++ record_bytes (recordOf x) = ap bytes_of (one_more xs k d l) ∙ one-there x _ in
      let all : bytes_of xs ≡ (first ++ record_bytes (recordOf x)) ++ bytes_of (take m xs) = split m xs ∙ ap (λ (b : List ℕ). b ++ bytes_of (take m xs)) next in
      let whole : front ++ (bytes_of xs ++ rest) ≡ (front ++ first) ++ (record_bytes (recordOf x) ++ (bytes_of (take m xs) ++ rest)) = rw all (simp append_assoc) in
      rw (whole, next)
      (record_between (front ++ first) (bytes_of (take m xs) ++ rest) (recordOf x) _ _ (fit_at xs m d fit (omega arith)) (length-append front first)
      (rw (length-append first (record_bytes (recordOf x))) (omega arith)))

head_bytes_length : (heads : List (ℕ × ℕ)) → length (head_bytes heads) ≡ head_length * length heads
unfolding shape_of length_of
head_bytes_length [] = refl
head_bytes_length (h ∷ before) = simp length-append (omega (arith, head_bytes_length before))

-- the record of version 1 stands behind the start
pub first_place : (g : Graph) → start_length ≡ version_place g 0
unfolding version_records shape_of length_of
first_place g = rw (none_first g)

-- what stands at the place of version suc k
pub record VersionAt (tape : List ℕ) (g : Graph) (k : ℕ) (n : Node) : Type 0 where
  pub first : first_versions (suc k) g ≡ n ∷ first_versions k g
  pub count : length (first_versions k g) ≡ k
  pub read : node_on (record_in (drop (version_place g k) tape)) ≡ n
  pub past : place_after tape (version_place g k) ≡ version_place g (suc k)
  pub inside : version_place g k ≤ length tape

-- what stands at the place of head number j
pub record HeadAt (tape : List ℕ) (t : Content) (j : ℕ) (h : ℕ × ℕ) : Type 0 where
  pub first : first_heads (suc j) t.heads ≡ h ∷ first_heads j t.heads
  pub read : head_on (record_in (drop (head_place t j) tape)) ≡ h
  pub past : place_after tape (head_place t j) ≡ head_place t (suc j)
  pub inside : head_place t j ≤ length tape

module _ (tape : List ℕ) (t : Content) (bytes : Bytes tape) (says : content_of tape ≡ some t) where
  -- what stands behind the heads
  abbrev last : List ℕ
  last = hub_records t.settings ++ record_bytes End

  in_versions_lem : tape ≡ record_bytes (Start t.settings) ++ (version_records t.versions ++ (head_bytes t.heads ++ last))
  in_versions_lem = tape_written tape t bytes says ∙ simp append_assoc

  pub version_at : (k : ℕ) → k < length t.versions → VersionAt tape t.versions k (next_node t.versions k)
  unfolding version_records shape_of length_of
  version_at k l =
      let g = t.versions in
      let there = rw (← in_versions_lem) at (in_sequence Version version_records refl (λ x before. refl) (record_bytes (Start t.settings)) (head_bytes t.heads ++ last) g (merge 0 0) k (tape_fits tape t bytes says).versions l) in
      record {
        first = one_more g k (merge 0 0) l;
        count = omega (arith, length-drop (length g - k) g);
        read = ap node_on there.read;
        past = there.past;
        inside = there.inside;
      }

  pub head_at_lem : (j : ℕ) → j < length t.heads → HeadAt tape t j (next_head t.heads j)
  unfolding shape_of length_of
  head_at_lem j l =
      let g = t.versions in
      let heads = t.heads in
      let front : List ℕ = record_bytes (Start t.settings) ++ version_records g in
      let in-heads : tape ≡ front ++ (head_bytes heads ++ last) = in_versions_lem ∙ simp append_assoc in
      let far : (k : ℕ) → k ≤ length heads → length front + length (head_bytes (first_heads k heads)) ≡ head_place t k =
      λ k le. rw (head_bytes_length, all_first g) (omega (arith, length-drop (length heads - k) heads))
      in
      let between = in_sequence record_of_head head_bytes refl (λ x before. refl) front last heads (0, 0) j (tape_fits tape t bytes says).heads l in
      let there = rw (← in-heads, far j (omega arith), far (suc j) (omega arith)) at between in
      record {
        first = one_more heads j (0, 0) l;
        read = ap head_on there.read;
        past = there.past;
        inside = there.inside;
      }
