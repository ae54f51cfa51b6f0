-- The test of the table of common versions says that each of its fields is what the room read off the bytes has there, that the heads are
-- versions and that every two have a meet.
-- Assumes nothing.
use mathlib.Core.Path.{◌≡◌, refl, sym, ◌∙◌, ap}
use mathlib.Core.Bool.{Bool, true, false, not, ◌&&◌, ◌||◌}
use mathlib.Core.List.{List}
use mathlib.Core.Logic.{inl, inr}
use mathlib.Core.Option.{Option, get_or}
use Prim.Native.Nat.{ℕ, zero, suc, pred, ◌≤◌, ◌<◌}
use native.Mathlib.Decide.{dec_lt}
use native.Mathlib.Omega.{arith}
use lib.Dec.{eqb, leb, ltb, eqb-suc-zero}
use borrow.Author.Tests.{eqb-true, eqb-false, eq-eqb, ltb-true, lt-ltb, leb-true, le-leb}
use Rattle.laws.proofs.Logic.{clash, decide, refuted, and_l, and_r, and_i, not_e, not_i, or_none_l, or_none_r, or_none, cond_true, cond_false}
use Rattle.buffer.specs.Field.{same}
use Rattle.buffer.specs.Row.{intersection}
use Rattle.buffer.proofs.Fields.{same_true}
use Rattle.buffer.proofs.Parts.{same_of}
use Rattle.graph.specs.Below.{every_below}
use Rattle.graph.specs.Graph.{version_count, is_some}
use Rattle.graph.proofs.Below.{at, of}
use Rattle.graph.proofs.Ancestor.{ancestor_below}
use Rattle.graph.proofs.Meet.{Meet, meet_self, meet_sym}
use Rattle.command.specs.Code.{console_count}
use Rattle.room.specs.Room.{Room, head_of, present, head}
use Rattle.room.specs.Sound.{max_capacity}
use Rattle.room.proofs.Steps.{common_meet}
use Rattle.store.specs.Layout.{field_where, common_field, head_from}
use Rattle.store.specs.Check.{row_part, common_in, pair_right, console_right}
use Rattle.store.proofs.Told.{Held, meet_rows, rows_meet_lem}

-- z is the field of consoles c and d: 0 where one is absent, else 1 more than their meet
pub record Field (r : Room) (c d z : ℕ) : Type 0 where
  pub away : (present r c ≡ true → present r d ≡ true → ⊥) → z ≡ 0
  pub both : present r c ≡ true → present r d ≡ true → (0 < z) × Meet r.versions (head r c) (head r d) (pred z)

-- that is what the encoding has there
pub field_is : {r : Room} {c d z : ℕ} → Field r c d z → z ≡ common_field r c d
field_is {r} {c} {d} {z} f = go (present r c && present r d) refl
  where
    go : (t : Bool) → present r c && present r d ≡ t → z ≡ field_where t r c d
    go false e = f.away (λ p q. clash (and_i (present r c) (present r d) p q) e)
    go true e =
        let k = f.both (and_l (present r c) (present r d) e) (and_r (present r c) (present r d) e) in
        omega (arith, common_meet r c d k.1)

pub field_of : (r : Room) (c d : ℕ) → (present r c ≡ true → present r d ≡ true → (m : ℕ) × Meet r.versions (head r c) (head r d) m)
    → Field r c d (common_field r c d)
field_of r c d h =
    record {
      away = λ a. rw (refuted (present r c && present r d) (λ e. a (and_l (present r c) (present r d) e) (and_r (present r c) (present r d) e)));
      both = λ p q. let m = h p q in rw (p, q, common_meet r c d m.1) (omega arith, m.1);
    }

pub field_sym : {r : Room} {c d z : ℕ} → Field r c d z → Field r d c z
field_sym f = record { away = λ a. f.away (λ p q. a q p); both = λ p q. let k = f.both q p in (k.0, meet_sym k.1) }

-- the two fields of two consoles are one
pair_same : (s : List ℕ) (n c d : ℕ) → pair_right s n c d ≡ true → common_in s d c ≡ common_in s c d
unfolding pair_right
pair_same s n c d t = eqb-true _ _ (and_l (eqb (common_in s d c) (common_in s c d)) _ t)

-- a room with the heads that stand on the diagonal
module _ (s : List ℕ) (r : Room) (heads : (c : ℕ) → c < console_count → head_of r c ≡ head_from (common_in s c c)) where
  pub head_is : (c : ℕ) → c < console_count → head r c ≡ pred (common_in s c c)
  head_is c l = ap (λ (o : Option ℕ). get_or o 0) (heads c l) ∙ go (common_in s c c)
    where
      go : (x : ℕ) → get_or (head_from x) 0 ≡ pred x
      go zero = refl
      go (suc v) = refl

  pub present_is : (c : ℕ) → c < console_count → present r c ≡ not (eqb (common_in s c c) 0)
  present_is c l = ap is_some (heads c l) ∙ go (common_in s c c)
    where
      go : (x : ℕ) → is_some (head_from x) ≡ not (eqb x 0)
      go zero = refl
      go (suc v) = rw eqb-suc-zero

  pub there : (c : ℕ) → c < console_count → eqb (common_in s c c) 0 ≡ false → present r c ≡ true
  there c l e = present_is c l ∙ not_i _ e

  pub not_zero : (c : ℕ) → c < console_count → present r c ≡ true → eqb (common_in s c c) 0 ≡ false
  not_zero c l p = not_e _ (sym (present_is c l) ∙ p)

  -- the field of a console with itself: its head
  self_field : (c : ℕ) → c < console_count → common_in s c c ≤ version_count r.versions → Field r c c (common_in s c c)
  self_field c cl cn =
      elim (decide (eqb (common_in s c c) 0)) [
        | inl a ↦ record { away = λ _. eqb-true (common_in s c c) 0 a; both = λ p q. clash a (not_zero c cl p) }
        | inr a ↦
            let p = there c cl a in
            let xp = eqb-false (common_in s c c) 0 a in
            record {
              away = λ k. absurd (k p p);
              both = λ _ _. (omega arith, rw head_is (meet_self r.versions (pred (common_in s c c)) (omega arith)));
            }
      ]

  -- a head is a version
  pub field_named : (c : ℕ) → c < console_count → Field r c c (common_in s c c) → common_in s c c ≤ version_count r.versions
  field_named c cl f =
      elim (decide (eqb (common_in s c c) 0)) [
        | inl a ↦ omega (arith, eqb-true (common_in s c c) 0 a)
        | inr a ↦
            let p = there c cl a in
            let k = f.both p p in
            omega (arith, ancestor_below r.versions (pred (common_in s c c)) (head r c) k.1.first)
      ]

  module _ (small : version_count r.versions ≤ max_capacity) (h : Held s r.versions) where
    abbrev n : ℕ
    n = version_count r.versions

    -- two consoles whose heads are versions
    module _ (c d : ℕ) (cl : c < console_count) (dl : d < console_count) (cn : common_in s c c ≤ n) (dn : common_in s d d ≤ n) where
      abbrev x : ℕ
      x = common_in s c c

      abbrev y : ℕ
      y = common_in s d d

      abbrev z : ℕ
      z = common_in s c d

      abbrev rows : Bool
      rows = same (row_part s (pred z)) (intersection (row_part s (pred x)) (row_part s (pred y)))

      pair_field_lem : pair_right s n c d ≡ true → Field r c d z
      unfolding pair_right
      pair_field_lem t =
          let right = and_r (eqb (common_in s d c) z) _ t in
          elim (decide (eqb x 0 || eqb y 0)) [
            | inl a ↦
                record {
                  away = λ _. eqb-true z 0 (sym (cond_true _ _ _ a) ∙ right);
                  both = λ p q. clash a (or_none _ _ (not_zero c cl p) (not_zero d dl q));
                }
            | inr a ↦
                let xs = or_none_l _ _ a in
                let ys = or_none_r (eqb x 0) _ a in
                let found = sym (cond_false _ _ _ a) ∙ right in
                let xp = eqb-false x 0 xs in
                let yp = eqb-false y 0 ys in
                let zp = ltb-true 0 z (search (and_l, and_r)) in
                let zn = leb-true z n (search (and_l, and_r)) in
                record {
                  away = λ k. absurd (k (there c cl xs) (there d dl ys));
                  both = λ p q. (
                    zp,
                    rw (head_is c cl, head_is d dl)
                        (rows_meet_lem h (pred x) (pred y) (pred z) (omega arith) (omega arith) small (omega arith)
                        (same_true _ _ (and_r (ltb 0 z && leb z n) rows found))),
                  );
                }
          ]

      field_pair : Field r c d z → common_in s d c ≡ z → pair_right s n c d ≡ true
      unfolding pair_right
      field_pair f e =
          and_i _ _ (eq-eqb (common_in s d c) z e)
          (elim (decide (eqb x 0 || eqb y 0)) [
            | inl a ↦ cond_true _ _ _ a ∙ eq-eqb z 0 (f.away (λ p q. clash a (or_none _ _ (not_zero c cl p) (not_zero d dl q))))
            | inr a ↦
                let xs = or_none_l _ _ a in
                let ys = or_none_r (eqb x 0) _ a in
                let xp = eqb-false x 0 xs in
                let yp = eqb-false y 0 ys in
                let k = f.both (there c cl xs) (there d dl ys) in
                let m : Meet r.versions (pred x) (pred y) (pred z) = rw (head_is c cl, head_is d dl) at k.1 in
                let zn = ancestor_below r.versions (pred z) (pred x) m.first in
                cond_false _ _ _ a
                ∙ and_i _ _ (and_i _ _ (lt-ltb 0 z k.0) (le-leb z n (omega arith)))
                (same_of _ _ (meet_rows h (pred x) (pred y) (pred z) (omega arith) (omega arith) m))
          ])

    pub consoles_fields : every_below console_count (console_right s n) ≡ true
        → (c d : ℕ) → c < console_count → d < console_count → Field r c d (common_in s c d)
    unfolding console_right
    consoles_fields t c d cl dl =
        let right = at console_count (console_right s n) t in
        let low : (e : ℕ) → e < console_count → common_in s e e ≤ n = λ e l. leb-true (common_in s e e) n (and_l _ _ (right e l)) in
        let pair : (a b : ℕ) → a < console_count → b < a → pair_right s n a b ≡ true =
        λ a b l m. at a (pair_right s n a) (and_r (leb (common_in s a a) n) _ (right a l)) b m in
        elim (dec_lt d c) [
          | yes l ↦ pair_field_lem c d cl dl (low c cl) (low d dl) (pair c d cl l)
          | no m ↦
              elim (dec_lt c d) [
                | yes l ↦ rw (pair_same s n d c (pair d c dl l)) (field_sym (pair_field_lem d c dl cl (low d dl) (low c cl) (pair d c dl l)))
                | no k ↦ let e : d ≡ c = omega arith in rw e (self_field c cl (low c cl))
              ]
        ]

    pub fields_consoles : ((c d : ℕ) → c < console_count → d < console_count → Field r c d (common_in s c d))
        → every_below console_count (console_right s n) ≡ true
    unfolding console_right
    fields_consoles f =
        of console_count (console_right s n)
        (λ c cl.
        let low : (e : ℕ) → e < console_count → common_in s e e ≤ n = λ e l. field_named e l (f e e l l) in
        and_i _ _ (le-leb (common_in s c c) n (low c cl))
        (of c (pair_right s n c)
        (λ d l.
        let dl : d < console_count = omega arith in
        field_pair c d cl dl (low c cl) (low d dl) (f c d cl dl) (field_is (f d c dl cl) ∙ sym (field_is (field_sym (f c d cl dl)))))))
