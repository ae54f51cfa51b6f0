-- Every two heads of a room have a meet exactly when each pair of consoles in the table is found to have one, and then the table that is
-- written is the store's table of common versions.
-- Assumes nothing.
use mathlib.Core.Path.{◌≡◌, refl, sym, ap, ap₂, ◌∙◌}
use mathlib.Core.Bool.{true, not, ◌&&◌, ◌||◌}
use mathlib.Core.List.{List}
use mathlib.Core.Option
use mathlib.Core.Option.{Option, none, some}
use Prim.Native.Nat.{ℕ, zero, suc, ◌+◌, ◌*◌, ◌≤◌, ◌<◌}
use native.Mathlib.Decide.{ℕ_discrete, dec_lt}
use native.Mathlib.Omega.{arith}
use lib.Dec.{eqb, eqb-suc-zero}
use lib.ListN.{length, get_or}
use Rattle.laws.proofs.Logic.{clash, bool_ext}
use Rattle.buffer.specs.Field.{word, part}
use Rattle.buffer.proofs.Stands.{Stands, stands_kept}
use Rattle.buffer.proofs.Parts.{stands_part, part_stands}
use Rattle.graph.specs.Below.{every_below}
use Rattle.graph.specs.Graph.{version_count, meet, is_some}
use Rattle.graph.proofs.Below.{at, of}
use Rattle.graph.proofs.Meet.{meet_self, meet_number-self, meet_sym}
use Rattle.command.specs.Code.{console_count}
use Rattle.room.specs.Room.{Room, head_of, head, common}
use Rattle.room.specs.Sound.{two_meet, heads_meet, max_capacity}
use Rattle.room.proofs.Sound.{two_met, met_two}
use Rattle.store.specs.Layout.{header_size, commons_at, commons_size, common_at, head_from, common_field, common_table}
use Rattle.store.specs.Check.{common_in}
use Rattle.store.proofs.Blocks.{common_table-length, table_field}
use Rattle.store.proofs.Commons.{field_is, field_of, field_sym}
use Rattle.store.proofs.Joined.{join_commons_lem}
use Rattle.update.specs.Commons.{put_common}
use Rattle.update.proofs.CommonsTable.{common_length, put_kept, put_row_lem, put_column}
use Rattle.resume.specs.Rows.{RowsOf, meet_field}
use Rattle.resume.specs.Heads.{pair_field, pair_meets, with_pairs, console_meets, with_consoles, table_meets}
use Rattle.resume.proofs.Meets.{meet_shown}
use Rattle.resume.proofs.HeadSlots.{head_field, Diagonal, diagonal_read}
use Rattle.resume.proofs.TableSteps.{apart, consoles_own}

module _ (r : Room) where
  two_sym : (c d : ℕ) → two_meet r c d ≡ true → two_meet r d c ≡ true
  two_sym c d t = met_two r d c (λ p q. let m = two_met r c d t q p in (m.0, meet_sym m.1))

  two_self : (c : ℕ) → head_field (head_of r c) ≤ version_count r.versions → two_meet r c c ≡ true
  two_self c l = met_two r c c (λ p q. (head r c, meet_self r.versions (head r c) (go (head_of r c) p l)))
    where
      go : (o : Option ℕ) → is_some o ≡ true → head_field o ≤ version_count r.versions → Option.get_or o 0 < version_count r.versions
      go none p n = clash p refl
      go (some v) p n = n

  -- it is enough to look at each pair once
  lower_pairs : ((c : ℕ) → c < console_count → head_field (head_of r c) ≤ version_count r.versions)
      → every_below console_count (λ c. every_below c (two_meet r c)) ≡ heads_meet r
  unfolding heads_meet
  lower_pairs named =
      bool_ext (every_below console_count (λ c. every_below c (two_meet r c))) (every_below console_count (λ c. every_below console_count (two_meet r c)))
      (λ h.
      let low : (c d : ℕ) → c < console_count → d < c → two_meet r c d ≡ true = λ c d l m. at c (two_meet r c) (at console_count (λ a. every_below a (two_meet r a)) h c l) d m in
      of console_count (λ c. every_below console_count (two_meet r c))
      (λ c l. of console_count (two_meet r c)
      (λ d m.
      elim (dec_lt d c) [
        | yes a ↦ low c d l a
        | no a ↦
            elim (dec_lt c d) [
              | yes b ↦ two_sym d c (low d c m b)
              | no b ↦ let e : d ≡ c = omega arith in rw e (two_self c (named c l))
            ]
      ])))
      (λ h.
      of console_count (λ c. every_below c (two_meet r c))
      (λ c l. of c (two_meet r c) (λ d m. at console_count (two_meet r c) (at console_count (λ a. every_below console_count (two_meet r a)) h c l) d (omega arith))))

module _ (r : Room) (named : (c : ℕ) → c < console_count → head_field (head_of r c) ≤ version_count r.versions) where
  -- the field of a console with itself: its head
  self_field : (c : ℕ) → c < console_count → head_field (head_of r c) ≡ common_field r c c
  unfolding common
  self_field c l = go (head_of r c) refl
    where
      go : (o : Option ℕ) → head_of r c ≡ o → head_field o ≡ common_field r c c
      go none e = rw e
      go (some v) e = rw e (rw e (ap suc (sym (meet_number-self r.versions v (rw e at (named c l))))))

  -- so the store's table has the heads on its diagonal
  pub table_diagonal : (t : List ℕ) → length t ≡ header_size → part t commons_at commons_size ≡ common_table r 0 console_count → Diagonal r t
  table_diagonal t long written =
      let stands = table_field r commons_at (part_stands commons_size written (common_table-length r 0 console_count)) in
      record {
        long = long;
        slot = λ c l. rw (self_field c l) (stands c c l l);
        named = named;
      }

module _ (r : Room) (rows : List ℕ) (shown : RowsOf rows r.versions) (small : version_count r.versions ≤ max_capacity) where
  -- the fields of two consoles by their rows
  module _ (c d : ℕ) (cn : head_field (head_of r c) ≤ version_count r.versions) (dn : head_field (head_of r d) ≤ version_count r.versions) where
    field_some : (z : ℕ) → not (eqb z 0) ≡ is_some (head_from z)
    field_some zero = refl
    field_some (suc m) = rw eqb-suc-zero

    pair_two : pair_meets rows (head_field (head_of r c)) (head_field (head_of r d)) ≡ two_meet r c d
    pair_two = go (head_of r c) (head_of r d) cn dn
      where
        go : (o p : Option ℕ) → head_field o ≤ version_count r.versions → head_field p ≤ version_count r.versions
            → pair_meets rows (head_field o) (head_field p) ≡ (not (is_some o) || not (is_some p) || is_some (meet r.versions (Option.get_or o 0) (Option.get_or p 0)))
        go none p a b = refl
        go (some u) none a b = refl
        go (some u) (some v) a b = field_some (meet_field rows u v) ∙ ap is_some (meet_shown shown small u v a b)

    pair_common : two_meet r c d ≡ true → pair_field rows (head_field (head_of r c)) (head_field (head_of r d)) ≡ common_field r c d
    unfolding common
    pair_common t = go (head_of r c) (head_of r d) refl refl
      where
        numbered : (z : ℕ) (o : Option ℕ) → head_from z ≡ o → is_some o ≡ true → z ≡ suc (Option.get_or o 0)
        numbered zero o e h = clash h (ap is_some (sym e))
        numbered (suc m) o e h = ap (λ (q : Option ℕ). suc (Option.get_or q 0)) e

        go : (o p : Option ℕ) → head_of r c ≡ o → head_of r d ≡ p → pair_field rows (head_field o) (head_field p) ≡ common_field r c d
        go none p e f = rw e
        go (some u) none e f = rw (e, f)
        go (some u) (some v) e f =
            let a : u < version_count r.versions = rw e at cn in
            let b : v < version_count r.versions = rw f at dn in
            let h : is_some (meet r.versions u v) ≡ true = rw (e, f) at t in
            rw (e, f) (rw (e, f) (numbered (meet_field rows u v) (meet r.versions u v) (meet_shown shown small u v a b) h))

  module _ {t : List ℕ} (diagonal : Diagonal r t) where
    own : (c : ℕ) → c < console_count → common_in t c c ≡ head_field (head_of r c)
    own = diagonal_read small diagonal

    console_meets_lem : (c d : ℕ) → c < console_count → d ≤ console_count → console_meets rows t c d ≡ every_below d (two_meet r c)
    unfolding console_meets every_below
    console_meets_lem c zero cn dn = refl
    console_meets_lem c (suc d) cn dn =
        ap₂ ◌&&◌ (console_meets_lem c d cn (omega arith))
        (rw (own c cn, own d dn) (pair_two c d (diagonal.named c cn) (diagonal.named d dn)))

    table_meets_lem : (c : ℕ) → c ≤ console_count → table_meets rows t c ≡ every_below c (λ a. every_below a (two_meet r a))
    unfolding table_meets every_below
    table_meets_lem zero cn = refl
    table_meets_lem (suc c) cn = ap₂ ◌&&◌ (table_meets_lem c (omega arith)) (console_meets_lem c c cn (omega arith))

    -- the test says whether every two heads have a meet
    pub table_judged : table_meets rows t console_count ≡ heads_meet r
    table_judged = table_meets_lem console_count (omega arith) ∙ lower_pairs r diagonal.named

  -- what stands in the table after the pairs before a number were written; pair c, d has the number 16 c + d
  record Filled (t : List ℕ) (n : ℕ) : Type 0 where
    long : length t ≡ header_size
    slot : (c : ℕ) → c < console_count → Stands t (common_at c c) (word (head_field (head_of r c)))
    lower : (a b : ℕ) → a < console_count → b < a → console_count * a + b < n → Stands t (common_at a b) (word (common_field r a b))
    upper : (a b : ℕ) → a < console_count → b < a → console_count * a + b < n → Stands t (common_at b a) (word (common_field r a b))

  module _ {t : List ℕ} {c d : ℕ} (f : Filled t (console_count * c + d)) (cn : c < console_count) (dc : d < c) where
    abbrev z : ℕ
    z = common_field r c d

    kept : (a b : ℕ) → b < console_count → (a ≡ c → b ≡ d → ⊥) → (a ≡ d → b ≡ c → ⊥)
        → (i : ℕ) → common_at a b ≤ i → i < common_at a b + 2 → get_or (put_common t c d z) i 0 ≡ get_or t i 0
    kept a b bn p q i from to = put_kept t c d z i (apart a b c d i bn cn (omega arith) p q from to)

    filled_pair : Filled (put_common t c d z) (console_count * c + suc d)
    filled_pair =
        let size = f.long in
        record {
          long = common_length t c d z ∙ size;
          slot = λ a l. stands_kept (f.slot a l) (kept a a l (λ x y. omega arith) (λ x y. omega arith));
          lower = λ a b l m n.
              elim (ℕ_discrete (console_count * a + b) (console_count * c + d)) [
                | yes e ↦
                    let x : a ≡ c = omega arith in
                    let y : b ≡ d = omega arith in
                    rw (x, y) (put_row_lem t c d z cn (omega arith) (λ g. omega arith) (omega arith))
                | no e ↦ stands_kept (f.lower a b l m (omega arith)) (kept a b (omega arith) (λ x y. e (omega arith)) (λ x y. omega arith))
              ];
          upper = λ a b l m n.
              elim (ℕ_discrete (console_count * a + b) (console_count * c + d)) [
                | yes e ↦
                    let x : a ≡ c = omega arith in
                    let y : b ≡ d = omega arith in
                    rw (x, y) (put_column t c d z cn (omega arith) (λ g. omega arith) (omega arith))
                | no e ↦ stands_kept (f.upper a b l m (omega arith)) (kept b a l (λ x y. omega arith) (λ x y. e (omega arith)))
              ];
        }

  module _ {t : List ℕ} (diagonal : Diagonal r t) (meets : heads_meet r ≡ true) where
    two : (c d : ℕ) → c < console_count → d < console_count → two_meet r c d ≡ true
    unfolding heads_meet
    two c d l m = at console_count (two_meet r c) (at console_count (λ a. every_below console_count (two_meet r a)) meets c l) d m

    filled_pairs : {u : List ℕ} (c d : ℕ) → c < console_count → d ≤ c → ((k : ℕ) → k < console_count → common_in u k k ≡ common_in t k k)
        → Filled u (console_count * c + 0) → Filled (with_pairs rows u c d) (console_count * c + d)
    unfolding with_pairs
    filled_pairs c zero cn dc h f = f
    filled_pairs {u} c (suc d) cn dc h f =
        let x = h c cn ∙ own diagonal c cn in
        let y = h d (omega arith) ∙ own diagonal d (omega arith) in
        rw (x, y, pair_common c d (diagonal.named c cn) (diagonal.named d (omega arith)) (two c d cn (omega arith)))
        (filled_pair (filled_pairs c d cn (omega arith) h f) cn dc)

    filled_consoles : (c : ℕ) → c ≤ console_count → Filled (with_consoles rows t c) (console_count * c + 0)
    unfolding with_consoles
    filled_consoles zero cn =
        record { long = diagonal.long; slot = diagonal.slot; lower = λ a b l m n. absurd (omega arith); upper = λ a b l m n. absurd (omega arith) }
    filled_consoles (suc c) cn =
        let f = filled_pairs c c cn (omega arith) (λ k l. consoles_own rows t c k (omega arith) l) (filled_consoles c (omega arith)) in
        record {
          long = f.long;
          slot = f.slot;
          lower = λ a b l m n. f.lower a b l m (omega arith);
          upper = λ a b l m n. f.upper a b l m (omega arith);
        }

    -- the table is the store's
    pub table_filled : part (with_consoles rows t console_count) commons_at commons_size ≡ common_table r 0 console_count
    table_filled =
        let u : List ℕ = with_consoles rows t console_count in
        let f = filled_consoles console_count (omega arith) in
        let size = f.long in
        let all : (c d : ℕ) → c < console_count → d < console_count → Stands u (common_at c d) (word (common_field r c d)) =
        λ c d l m.
        elim (dec_lt d c) [
          | yes a ↦ f.lower c d l a (omega arith)
          | no a ↦
              elim (dec_lt c d) [
                | yes b ↦
                    let e = field_is (field_sym (field_of r d c (two_met r d c (two d c m l)))) in
                    rw e at (f.upper d c m b (omega arith))
                | no b ↦ let e : d ≡ c = omega arith in rw e (rw (self_field r diagonal.named c l) at (f.slot c l))
              ]
        ]
        in
        stands_part commons_size (join_commons_lem {s = u} r commons_at all) (common_table-length r 0 console_count) (omega arith)
