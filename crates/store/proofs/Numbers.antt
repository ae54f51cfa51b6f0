-- The field of the table of commons tells the versions apart, and them from none.
use Rattle.std.specs.Prelude.{◌≡◌, ℕ, pred, eqb, not, Option, Some, None, is_some, unwrap_or, refl}
use Rattle.std.proofs.Common.{ap, arith}
use lib.Dec.{eqb-suc-zero}
use Rattle.graph.specs.declared.Version.{Version}
use Rattle.store.specs.Check.{field_number}

pub number_told : (x y : Option Version) → field_number x ≡ field_number y → x ≡ y
number_told None None e = refl
number_told None (Some v) e = absurd (omega arith)
number_told (Some u) None e = absurd (omega arith)
number_told (Some u) (Some v) e = let n : u.0 ≡ v.0 = omega arith in ap (λ (k : ℕ). Some (record { 0 = k })) n

-- the version that a field stands for, or version 0 where it stands for none
pub number_back : (x : Option Version) (v : Version) → v ≡ unwrap_or x (record { 0 = 0 }) → v.0 ≡ pred (field_number x)
number_back None v e = ap (λ (k : Version). k.0) e
number_back (Some u) v e = ap (λ (k : Version). k.0) e

pub number_present : (x : Option Version) → is_some x ≡ not (eqb (field_number x) 0)
number_present None = refl
number_present (Some v) = rw eqb-suc-zero
