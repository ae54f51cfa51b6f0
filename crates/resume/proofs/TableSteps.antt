-- The table of common versions, pair by pair and console by console: what is written leaves the diagonal as it was.
-- Assumes nothing.
use mathlib.Core.Path.{◌≡◌, refl, sym, ap, ap₂, ◌∙◌}
use mathlib.Core.Bool.{Bool, true, ◌&&◌}
use mathlib.Core.List.{List}
use Prim.Native.Nat.{ℕ, zero, suc, ◌+◌, ◌*◌, ◌/◌, ◌≤◌, ◌<◌}
use native.Mathlib.Numerals.{add-one}
use native.Mathlib.Omega.{arith}
use lib.ListN.{length, get_or}
use Rattle.command.specs.Code.{console_count}
use Rattle.store.specs.Layout.{header_size, common_at}
use Rattle.store.specs.Check.{common_in}
use Rattle.update.specs.Commons.{put_common}
use Rattle.update.proofs.CommonsTable.{Clear, common_length, put_kept}
use Rattle.resume.specs.Heads.{pair_field, pair_meets, with_pairs, console_meets, with_consoles, table_meets}

-- two fields at one place are of the same consoles
same_consoles : (a b c d : ℕ) → b < console_count → d < console_count → console_count * a + b ≡ console_count * c + d → (a ≡ c) × (b ≡ d)
same_consoles a b c d p q e =
    let x : (console_count * a + b) / console_count ≡ a = omega arith in
    let y : (console_count * c + d) / console_count ≡ c = omega arith in
    let z : a ≡ c = sym x ∙ ap (λ (n : ℕ). n / console_count) e ∙ y in
    (z, omega arith)

-- a byte of the field of a and b is in no place of the field of two others
pub apart : (a b c d i : ℕ) → b < console_count → c < console_count → d < console_count → (a ≡ c → b ≡ d → ⊥) → (a ≡ d → b ≡ c → ⊥)
    → common_at a b ≤ i → i < common_at a b + 2 → Clear c d i
apart a b c d i bn cn dn p q from to =
    let row : console_count * a + b ≡ console_count * c + d → ⊥ = λ e. let s = same_consoles a b c d bn dn e in p s.0 s.1 in
    let column : console_count * a + b ≡ console_count * d + c → ⊥ = λ e. let s = same_consoles a b d c bn cn e in q s.0 s.1 in
    (λ e. row (omega arith), λ e. row (omega arith), λ e. column (omega arith), λ e. column (omega arith))

pair_own : (t : List ℕ) (c d z k : ℕ) → d < c → c < console_count → k < console_count → common_in (put_common t c d z) k k ≡ common_in t k k
pair_own t c d z k dc cn kn =
    let kept : (i : ℕ) → common_at k k ≤ i → i < common_at k k + 2 → get_or (put_common t c d z) i 0 ≡ get_or t i 0 =
    λ i from to. put_kept t c d z i (apart k k c d i kn cn (omega arith) (λ x y. omega arith) (λ x y. omega arith) from to) in
    ap₂ (λ (a b : ℕ). a * 256 + b) (kept (common_at k k) (omega arith) (omega arith)) (kept (common_at k k + 1) (omega arith) (omega arith))

module _ (rows t : List ℕ) where
  pairs_length : (c d : ℕ) → length (with_pairs rows t c d) ≡ length t
  unfolding with_pairs
  pairs_length c zero = refl
  pairs_length c (suc d) = common_length (with_pairs rows t c d) c d _ ∙ pairs_length c d

  pairs_own : (c d k : ℕ) → d ≤ c → c < console_count → k < console_count → common_in (with_pairs rows t c d) k k ≡ common_in t k k
  unfolding with_pairs
  pairs_own c zero k dc cn kn = refl
  pairs_own c (suc d) k dc cn kn = pair_own (with_pairs rows t c d) c d _ k dc cn kn ∙ pairs_own c d k (omega arith) cn kn

module _ (rows t : List ℕ) where
  pub consoles_own : (c k : ℕ) → c ≤ console_count → k < console_count → common_in (with_consoles rows t c) k k ≡ common_in t k k
  unfolding with_consoles
  consoles_own zero k cn kn = refl
  consoles_own (suc c) k cn kn = pairs_own rows (with_consoles rows t c) c c k (omega arith) cn kn ∙ consoles_own c k (omega arith) kn

-- the pairs of console c with the consoles below d are written
pub record Paired (rows t : List ℕ) (c d : ℕ) (header : List ℕ) (ok : Bool) : Type 0 where
  pub within : d ≤ c
  pub long : length header ≡ header_size
  pub written : header ≡ with_pairs rows t c d
  pub met : ok ≡ console_meets rows t c d

pub paired_none : (rows t : List ℕ) (c : ℕ) → length t ≡ header_size → Paired rows t c 0 t true
unfolding with_pairs console_meets
paired_none rows t c l = record { within = omega arith; long = l; written = refl; met = refl }

module _ {rows t : List ℕ} {c d : ℕ} {header : List ℕ} {ok : Bool} (p : Paired rows t c d header ok) (cn : c < console_count) where
  -- the diagonal reads as at first
  pub paired_own : (k : ℕ) → k < console_count → common_in header k k ≡ common_in t k k
  paired_own k kn = ap (λ (u : List ℕ). common_in u k k) p.written ∙ pairs_own rows t c d k p.within cn kn

  pub paired_more : {after : List ℕ} {met : Bool} → d < c → met ≡ pair_meets rows (common_in header c c) (common_in header d d)
      → after ≡ put_common header c d (pair_field rows (common_in header c c) (common_in header d d)) → Paired rows t c (d + 1) after (ok && met)
  unfolding with_pairs console_meets
  paired_more {after} {met} dc em ea =
      let own = paired_own c cn in
      let other = paired_own d (omega arith) in
      let made : after ≡ with_pairs rows t c (suc d) = rw (ea, own, other, p.written) in
      let told : ok && met ≡ console_meets rows t c (suc d) = rw (em, own, other, p.met) in
      record {
        within = omega arith;
        long = rw ea (common_length header c d _ ∙ p.long);
        written = made ∙ ap (with_pairs rows t c) (sym (add-one d));
        met = told ∙ ap (console_meets rows t c) (sym (add-one d));
      }

-- the pairs of all consoles below c are written
pub record Tabled (rows t : List ℕ) (c : ℕ) (header : List ℕ) (ok : Bool) : Type 0 where
  pub within : c ≤ console_count
  pub long : length header ≡ header_size
  pub written : header ≡ with_consoles rows t c
  pub met : ok ≡ table_meets rows t c

pub tabled_none : (rows t : List ℕ) → length t ≡ header_size → Tabled rows t 0 t true
unfolding with_consoles table_meets
tabled_none rows t l = record { within = omega arith; long = l; written = refl; met = refl }

-- what is told of a console is a matter of the diagonal
meets_own : (rows t u : List ℕ) (c d : ℕ) → d ≤ c → c < console_count → ((k : ℕ) → k < console_count → common_in u k k ≡ common_in t k k)
    → console_meets rows u c d ≡ console_meets rows t c d
unfolding console_meets
meets_own rows t u c zero dc cn h = refl
meets_own rows t u c (suc d) dc cn h =
    ap₂ ◌&&◌ (meets_own rows t u c d (omega arith) cn h) (rw (h c cn, h d (omega arith)))

module _ {rows t : List ℕ} {c : ℕ} {header : List ℕ} {ok : Bool} (p : Tabled rows t c header ok) where
  pub tabled_own : (k : ℕ) → k < console_count → common_in header k k ≡ common_in t k k
  tabled_own k kn = ap (λ (u : List ℕ). common_in u k k) p.written ∙ consoles_own rows t c k p.within kn

  pub tabled_more : {after : List ℕ} {met : Bool} → c < console_count → met ≡ console_meets rows header c c → after ≡ with_pairs rows header c c
      → Tabled rows t (c + 1) after (ok && met)
  unfolding with_consoles table_meets
  tabled_more {after} {met} cn em ea =
      record {
        within = omega arith;
        long = rw ea (pairs_length rows header c c ∙ p.long);
        written = rw (ea, add-one, p.written);
        met = rw (em, add-one, p.met, meets_own rows t header c c (omega arith) cn tabled_own);
      }
