-- What was read of a tape, written again, is what stood there: a tape with a content is the records of that content and the end, and
-- every number in them fits its field.
-- Assumes nothing.
use Prim.Native.Nat.{ℕ, zero, suc, ◌+◌}
use mathlib.Core.Path.{◌≡◌, refl, sym, ◌∙◌, ap, subst}
use mathlib.Core.Bool.{Bool, true, false, cond}
use mathlib.Core.List.{List, [], ◌∷◌, ◌++◌, append_assoc, append-nil}
use mathlib.Core.Option.{none, some}
use native.Mathlib.Omega.{arith}
use lib.Dec.{eqb}
use lib.ListN.{length, drop, drop_of_length-le}
use lib.Seq.{get_or-drop}
use borrow.Author.Tests.{eqb-true}
use Rattle.buffer.proofs.Parts.{Bytes}
use Rattle.std.specs.Prelude.{Option as Found, Some, None}
use Rattle.tape.specs.declared.Record.{Record}
use Rattle.tape.specs.declared.Record.TheVariants.{Start, Version, Head, Hub, End}
use Rattle.tape.specs.Record.{record_in, record_length, record_bytes}
use Rattle.tape.specs.Tape.{Content, Stage, in_versions, in_heads, past_hub, Follow, go_on, finish, refuse, after_record, read_on, read_from, content_of, with_head, version_records, hub_records}
use Rattle.tape.proofs.Records.{Fits, record_whole}
use Rattle.tape.proofs.Heads.{head_bytes}
use Rattle.tape.proofs.Reading.{read_step}

-- the records of a content
abbrev pub written : Content → List ℕ
written t = record_bytes (Start t.settings) ++ (version_records t.versions ++ (head_bytes t.heads ++ hub_records t.settings))

-- the record of a head
abbrev pub record_of_head : ℕ × ℕ → Record
record_of_head h = Head (record { 0 = h.0 }) (record { 0 = h.1 })

-- the numbers of all these records fit their fields
abbrev pub AllFit : {A : Type 0} → (A → Record) → List A → Type 0
AllFit recordOf [] = Unit {0}
AllFit recordOf (x ∷ before) = Fits (recordOf x) × AllFit recordOf before

pub record ContentFits (t : Content) : Type 0 where
  pub versions : AllFit Version t.versions
  pub heads : AllFit record_of_head t.heads

-- before the first head record there is no head, and before the hub's no hub
abbrev NotYet : Stage → Content → Type 0
NotYet in_versions t = (t.heads ≡ []) × (t.settings.hub ≡ false)
NotYet in_heads t = t.settings.hub ≡ false
NotYet past_hub t = Unit {0}

-- what is found makes of what was read: a record is written after it, or it is the end
abbrev Adds : Content → Found Record → Follow → Type 0
Adds t found (go_on next more) =
    (x : Record) × (found ≡ Some x) × (written more ≡ written t ++ record_bytes x) × NotYet next more × (Fits x → ContentFits t → ContentFits more)
Adds t found finish = found ≡ Some End
Adds t found refuse = Unit {0}

head_adds : (t : Content) (h : ℕ × ℕ) → t.settings.hub ≡ false → Adds t (Some (record_of_head h)) (go_on in_heads (with_head t h.0 h.1))
head_adds t h p = (record_of_head h, refl, simp (p, append_assoc, append-nil), p, λ f c. record { versions = c.versions; heads = (f, c.heads) })

adds : (stage : Stage) (t : Content) (found : Found Record) → NotYet stage t → Adds t found (after_record stage t found)
unfolding after_record version_records
adds stage t None p = tt
adds in_versions t (Some (Start settings)) p = tt
adds in_versions t (Some (Version node)) p = (Version node, refl, simp (p.0, p.1, append_assoc, append-nil), p, λ f c. record { versions = (f, c.versions); heads = c.heads })
adds in_versions t (Some (Head console version)) p = head_adds t (console.0, version.0) p.1
adds in_versions t (Some Hub) p = tt
adds in_versions t (Some End) p = tt
adds in_heads t (Some (Start settings)) p = tt
adds in_heads t (Some (Version node)) p = tt
adds in_heads t (Some (Head console version)) p = head_adds t (console.0, version.0) p
adds in_heads t (Some Hub) p = (Hub, refl, simp (p, append_assoc, append-nil), tt, λ f c. record { versions = c.versions; heads = c.heads })
adds in_heads t (Some End) p = refl
adds past_hub t (Some (Start settings)) p = tt
adds past_hub t (Some (Version node)) p = tt
adds past_hub t (Some (Head console version)) p = tt
adds past_hub t (Some Hub) p = tt
adds past_hub t (Some End) p = refl

bytes_drop : (n : ℕ) (t : List ℕ) → Bytes t → Bytes (drop n t)
bytes_drop n t bytes k = rw get_or-drop (bytes (n + k))

nothing_read {ℓ} : {A : Type ℓ} {d : Content} → none ≡ some d → A
nothing_read e = let clash : ◌≡◌ {A = ℕ} 0 1 = cc in absurd (omega arith)

closed : (b : Bool) (t d : Content) → cond b (some t) none ≡ some d → (b ≡ true) × (t ≡ d)
closed true t d e = (refl, cc)
closed false t d e = (cc, cc)

-- what was read before a place and the rest from there are together what is read in the end, and it fits where that did
kept : (k : ℕ) (stage : Stage) (t d : Content) (rest : List ℕ) → NotYet stage t → Bytes rest → read_on k stage t rest ≡ some d
    → (written t ++ rest ≡ written d ++ record_bytes End) × (ContentFits t → ContentFits d)
unfolding read_on
kept zero stage t d rest p bytes e = nothing_read e
kept (suc k) stage t d rest p bytes e = at (after_record stage t (record_in rest)) refl (adds stage t (record_in rest) p) (kept k)
  where
    at : (n : Follow) → after_record stage t (record_in rest) ≡ n → Adds t (record_in rest) n
        → ((stage : Stage) (t d : Content) (rest : List ℕ) → NotYet stage t → Bytes rest → read_on k stage t rest ≡ some d
        → (written t ++ rest ≡ written d ++ record_bytes End) × (ContentFits t → ContentFits d))
        → (written t ++ rest ≡ written d ++ record_bytes End) × (ContentFits t → ContentFits d)
    at (go_on next more) q add on =
        let whole = record_whole add.0 rest bytes add.1 in
        let left : List ℕ = drop (record_length rest) rest in
        let read-on : read_on k next more left ≡ some d = sym (read_step k stage t rest (go_on next more) q) ∙ e in
        let later = on next more d left add.3 (bytes_drop (record_length rest) rest bytes) read-on in
        let same : written t ++ rest ≡ written d ++ record_bytes End =
        cc (whole.0, later.0, add.2, append_assoc (written t) (record_bytes add.0) left)
        in
        (same, λ f. later.1 (add.4 whole.1 f))
    at finish q add on =
        let last = closed (eqb (length rest) (record_length rest)) t d (sym (read_step k stage t rest finish q) ∙ e) in
        let whole = (record_whole End rest bytes add).0 in
        let ends = eqb-true (length rest) (record_length rest) last.0 in
        let none_left = drop_of_length-le rest {i = record_length rest} (omega arith) in
        (cc (last.1, append-nil (record_bytes End)), λ f. subst ContentFits last.1 f)
    at refuse q add on = nothing_read (sym (read_step k stage t rest refuse q) ∙ e)

-- the same of a whole tape
whole_tape : (t : List ℕ) (c : Content) → Bytes t → content_of t ≡ some c → (t ≡ written c ++ record_bytes End) × ContentFits c
unfolding content_of version_records
whole_tape t c bytes e = at (record_in t) refl e
  where
    at : (found : Found Record) → record_in t ≡ found → read_from (length t) (drop (record_length t) t) found ≡ some c
        → (t ≡ written c ++ record_bytes End) × ContentFits c
    at None q e = nothing_read e
    at (Some (Start settings)) q e =
        let whole = record_whole (Start settings) t bytes q in
        let start : Content = record { settings = settings; versions = []; heads = [] } in
        let nothing-more : hub_records settings ≡ [] = ap (λ (hub : Bool). cond hub (record_bytes Hub) []) whole.1.1 in
        let rest = kept (length t) in_versions start c (drop (record_length t) t) (refl, whole.1.1) (bytes_drop (record_length t) t bytes) e in (
          cc (whole.0, rest.0, nothing-more),
          rest.1 (record { versions = tt; heads = tt }),
        )
    at (Some (Version node)) q e = nothing_read e
    at (Some (Head console version)) q e = nothing_read e
    at (Some Hub) q e = nothing_read e
    at (Some End) q e = nothing_read e

pub tape_written : (t : List ℕ) (c : Content) → Bytes t → content_of t ≡ some c → t ≡ written c ++ record_bytes End
tape_written t c bytes e = (whole_tape t c bytes e).0

-- what stands in a record of a tape of bytes fits its field
pub tape_fits : (t : List ℕ) (c : Content) → Bytes t → content_of t ≡ some c → ContentFits c
tape_fits t c bytes e = (whole_tape t c bytes e).1
