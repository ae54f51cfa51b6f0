-- What the table of common versions shows after the fields of one console were written: at each other console what a function says, in both
-- of its places, and every other byte as it was.
-- Assumes nothing.
use mathlib.Core.Path.{◌≡◌, refl, sym, ap, ap₂, ◌∙◌}
use mathlib.Core.List.{List}
use Prim.Native.Nat.{ℕ, zero, suc, max, ◌+◌, ◌*◌, ◌≤◌, ◌<◌}
use native.Mathlib.Decide.{ℕ_discrete}
use native.Mathlib.Numerals.{add-one}
use native.Mathlib.Omega.{arith}
use lib.Dec.{eqb}
use lib.ListN.{length, get_or}
use borrow.Author.Tests.{eq-eqb, ne_eqb}
use Rattle.laws.proofs.Logic.{either, cond_true, cond_false}
use Rattle.buffer.specs.Field.{word, put_word}
use Rattle.buffer.proofs.Stands.{Stands, stands_kept}
use Rattle.buffer.proofs.Parts.{put_stands}
use Rattle.buffer.proofs.Writes.{put_length, put_other_lem}
use Rattle.command.specs.Code.{console_count}
use Rattle.store.specs.Layout.{header_size, commons_at, commons_end, common_at}
use Rattle.store.specs.Check.{common_in}
use Rattle.update.specs.Commons.{put_common, put_other, put_others, joined_field, put_head}

-- byte i is in neither place of the field of two consoles
abbrev pub Clear : ℕ → ℕ → ℕ → Type 0
Clear c k i =
    (i ≡ common_at c k → ⊥) × (i ≡ common_at c k + 1 → ⊥) × (i ≡ common_at k c → ⊥) × (i ≡ common_at k c + 1 → ⊥)

-- a field written at both of its places
module _ (s : List ℕ) (c k x : ℕ) where
  pub common_length : length (put_common s c k x) ≡ length s
  common_length = put_length (put_word s (common_at c k) x) (common_at k c) x ∙ put_length s (common_at c k) x

  pub put_kept : (i : ℕ) → Clear c k i → get_or (put_common s c k x) i 0 ≡ get_or s i 0
  put_kept i f =
      put_other_lem (put_word s (common_at c k) x) (common_at k c) x i f.2 f.3
      ∙ put_other_lem s (common_at c k) x i f.0 f.1

  module _ (cl : c < console_count) (kl : k < console_count) (ne : k ≡ c → ⊥) (long : header_size ≤ length s) where
    pub put_row_lem : Stands (put_common s c k x) (common_at c k) (word x)
    put_row_lem =
        stands_kept (put_stands s (common_at c k) x (omega arith))
        (λ i l m. put_other_lem (put_word s (common_at c k) x) (common_at k c) x i (omega arith) (omega arith))

    pub put_column : Stands (put_common s c k x) (common_at k c) (word x)
    put_column = put_stands (put_word s (common_at c k) x) (common_at k c) x (rw put_length (omega arith))

  -- the same for a console that may be c itself, whose field stays
  pub same_console : k ≡ c → put_other s c k x ≡ s
  unfolding put_other
  same_console e = cond_true _ _ _ (eq-eqb k c e)

  pub other_console : (k ≡ c → ⊥) → put_other s c k x ≡ put_common s c k x
  unfolding put_other
  other_console ne = cond_false _ _ _ (ne_eqb k c ne)

  other_length : length (put_other s c k x) ≡ length s
  unfolding put_other
  other_length = either (λ (u : List ℕ). length u ≡ length s) (eqb k c) (λ _. refl) common_length

  other_kept : (i : ℕ) → Clear c k i → get_or (put_other s c k x) i 0 ≡ get_or s i 0
  unfolding put_other
  other_kept i f = either (λ (u : List ℕ). get_or u i 0 ≡ get_or s i 0) (eqb k c) (λ _. refl) (put_kept i f)

-- the fields of c with each other one of the first n consoles
module _ (s : List ℕ) (c : ℕ) (field : ℕ → ℕ) where
  others_length : (n : ℕ) → length (put_others s c field n) ≡ length s
  unfolding put_others
  others_length zero = refl
  others_length (suc n) = other_length (put_others s c field n) c n (field n) ∙ others_length n

  -- a byte that is in none of these fields stays
  others_kept : (n i : ℕ) → ((k : ℕ) → k < n → Clear c k i) → get_or (put_others s c field n) i 0 ≡ get_or s i 0
  unfolding put_others
  others_kept zero i f = refl
  others_kept (suc n) i f =
      other_kept (put_others s c field n) c n (field n) i (f n (omega arith)) ∙ others_kept n i (λ k l. f k (omega arith))

  -- and each of them stands at both of its places
  others_stand : c < console_count → header_size ≤ length s → (n k : ℕ) → n ≤ console_count → k < n → (k ≡ c → ⊥)
      → Stands (put_others s c field n) (common_at c k) (word (field k)) × Stands (put_others s c field n) (common_at k c) (word (field k))
  unfolding put_others
  others_stand cl long zero k l m kc = absurd (omega arith)
  others_stand cl long (suc n) k l m kc =
      let t = put_others s c field n in
      let x = field n in
      elim (ℕ_discrete k n) [
        | yes e ↦
            let nc : n ≡ c → ⊥ = omega arith in
            let fits : header_size ≤ length t = omega (arith, others_length n) in
            rw (other_console t c n x nc, e) (put_row_lem t c n x cl l nc fits, put_column t c n x cl l nc fits)
        | no b ↦
            let old = others_stand cl long n k (omega arith) (omega arith) kc in
            (stands_kept old.0 (λ i p q. other_kept t c n x i (omega arith)), stands_kept old.1 (λ i p q. other_kept t c n x i (omega arith)))
      ]

-- For the loops that write them: in t those with the consoles before n are written.
pub record Others (s : List ℕ) (c : ℕ) (field : ℕ → ℕ) (n : ℕ) (t : List ℕ) : Type 0 where
  pub within : n ≤ console_count
  pub long : length t ≡ length s
  pub written : t ≡ put_others s c field n

pub others_none : (s : List ℕ) (c : ℕ) (field : ℕ → ℕ) → Others s c field 0 s
unfolding put_others
others_none s c field = record { within = omega arith; long = refl; written = refl }

module _ {s : List ℕ} {c : ℕ} {field : ℕ → ℕ} {n : ℕ} {t : List ℕ} (o : Others s c field n t) where
  -- one console more; of c itself the field does not matter
  pub others_again : {x : ℕ} {u : List ℕ} → n < console_count → ((n ≡ c → ⊥) → x ≡ field n) → u ≡ put_other t c n x → Others s c field (n + 1) u
  unfolding put_others
  others_again {x} {u} l e f =
      let same : put_other t c n x ≡ put_other t c n (field n) =
      elim (ℕ_discrete n c)
      [ yes nc ↦ same_console t c n x nc ∙ sym (same_console t c n (field n) nc) | no nc ↦ ap (put_other t c n) (e nc) ] in
      record {
        within = omega arith;
        long = ap length f ∙ other_length t c n x ∙ o.long;
        written = rw (add-one, ← o.written) (f ∙ same);
      }

  pub others_all : console_count ≤ n → t ≡ put_others s c field console_count
  others_all l = let w = o.within in let e : n ≡ console_count = omega arith in rw e at o.written

  -- what c and d have in common with a console whose field is still to be written is read as it was
  pub joined_ahead : (d : ℕ) → c < console_count → n < console_count → (n ≡ c → ⊥) → joined_field t c d n ≡ joined_field s c d n
  joined_ahead d cl nl nc =
      let kept : (j i : ℕ) → common_at j n ≤ i → i < common_at j n + 2 → get_or t i 0 ≡ get_or s i 0 =
      λ j i l m. rw o.written (others_kept s c field n i (λ k b. omega arith)) in
      let read : (j : ℕ) → common_in t j n ≡ common_in s j n =
      λ j. ap₂ (λ (a b : ℕ). a * 256 + b) (kept j (common_at j n) (omega arith) (omega arith)) (kept j (common_at j n + 1) (omega arith) (omega arith)) in
      ap₂ max (read c) (read d)

-- The table with the fields of c and its head written.
module _ (s : List ℕ) (c : ℕ) (field : ℕ → ℕ) (x : ℕ) where
  abbrev table : List ℕ
  table = put_head (put_others s c field console_count) c x

  pub table_length : length table ≡ length s
  table_length = put_length (put_others s c field console_count) (common_at c c) x ∙ others_length s c field console_count

  module _ (cl : c < console_count) where
    -- bytes outside the row and the column of c stay
    pub table_kept : (i : ℕ) → ((k : ℕ) → k < console_count → Clear c k i) → get_or table i 0 ≡ get_or s i 0
    table_kept i f =
        put_other_lem (put_others s c field console_count) (common_at c c) x i (f c cl).0 (f c cl).1 ∙ others_kept s c field console_count i f

    -- and so those before and behind the table
    pub table_outside : (i : ℕ) → (commons_at ≤ i → i < commons_end → ⊥) → get_or table i 0 ≡ get_or s i 0
    table_outside i o =
        table_kept i
        (λ k kl. (
          λ e. o (omega arith) (omega arith),
          λ e. o (omega arith) (omega arith),
          λ e. o (omega arith) (omega arith),
          λ e. o (omega arith) (omega arith),
        ))

    -- its fields: where the old ones were `old`, the new ones are `new`
    pub table_stands : header_size ≤ length s → (old new : ℕ → ℕ → ℕ)
        → ((j k : ℕ) → j < console_count → k < console_count → Stands s (common_at j k) (word (old j k)))
        → new c c ≡ x
        → ((k : ℕ) → k < console_count → (k ≡ c → ⊥) → new c k ≡ field k)
        → ((k : ℕ) → k < console_count → (k ≡ c → ⊥) → new k c ≡ field k)
        → ((j k : ℕ) → (j ≡ c → ⊥) → (k ≡ c → ⊥) → new j k ≡ old j k)
        → (j k : ℕ) → j < console_count → k < console_count → Stands table (common_at j k) (word (new j k))
    table_stands long old new stand self row column other j k jl kl =
        let t = put_others s c field console_count in
        let both = others_stand s c field cl long console_count in
        let headed : (common_at j k ≡ common_at c c → ⊥) → Stands t (common_at j k) (word (new j k)) → Stands table (common_at j k) (word (new j k)) =
        λ apart h. stands_kept h (λ i l m. put_other_lem t (common_at c c) x i (omega arith) (omega arith)) in
        elim (ℕ_discrete j c) [
          | yes e ↦
              elim (ℕ_discrete k c) [
                | yes f ↦ rw (e, f, self) (put_stands t (common_at c c) x (omega (arith, others_length s c field console_count)))
                | no kc ↦ headed (omega arith) (rw (e, row k kl kc) (both k (omega arith) kl kc).0)
              ]
          | no jc ↦
              headed (omega arith)
              (elim (ℕ_discrete k c) [
                | yes f ↦ rw (f, column j jl jc) (both j (omega arith) jl jc).1
                | no kc ↦ rw (other j k jc kc) (stands_kept (stand j k jl kl) (λ i l m. others_kept s c field console_count i (λ n nl. omega arith)))
              ])
        ]
