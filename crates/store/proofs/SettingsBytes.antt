-- What a room is set to, as its bytes: what is read off bytes stands there, and what stands there is read.
-- Assumes nothing.
use mathlib.Core.Path.{◌≡◌, refl, subst, ap, ◌∙◌}
use mathlib.Core.Bool.{Bool, true, false}
use mathlib.Core.List.{List}
use Prim.Native.Nat.{ℕ, zero, suc, ◌≤◌}
use native.Mathlib.Omega.{arith}
use lib.Dec.{eqb}
use Rattle.buffer.specs.Field.{word, word_at}
use Rattle.buffer.proofs.Stands.{Stands, stands_left, stands_right, stands_word}
use Rattle.buffer.proofs.Parts.{Bytes, stands_join, word_stands}
use Rattle.room.specs.declared.Settings.{Settings}
use Rattle.room.proofs.Sound.{SettingsFit}
use mir.Val.{bool_byte}
use Rattle.store.specs.Layout.{settings_at, capacity_at, hub_at, hub_number, settings_bytes, settings_in}

-- the number that the code makes of a flag
pub flag_number : (hub : Bool) → bool_byte hub ≡ hub_number hub
flag_number true = refl
flag_number false = refl

-- the number of what a field of 0 or 1 says, and what the field of a number says
hub_number_lem : (x : ℕ) → x ≤ 1 → x ≡ hub_number (eqb x 1)
hub_number_lem zero h = refl
hub_number_lem (suc zero) h = refl
hub_number_lem (suc (suc x)) h = absurd (omega arith)

hub_said : (hub : Bool) → eqb (hub_number hub) 1 ≡ hub
hub_said true = refl
hub_said false = refl

hub_small : (hub : Bool) → hub_number hub ≤ 1
hub_small true = omega arith
hub_small false = omega arith

pub settings_stand : {s : List ℕ} → Bytes s → word_at s hub_at ≤ 1 → Stands s settings_at (settings_bytes (settings_in s))
settings_stand {s} b h =
    stands_join (word (word_at s capacity_at)) (word (hub_number (eqb (word_at s hub_at) 1))) (word_stands capacity_at b)
    (subst (λ (x : ℕ). Stands s hub_at (word x)) (hub_number_lem (word_at s hub_at) h) (word_stands hub_at b)) refl

module _ {s : List ℕ} (settings : Settings) (h : Stands s settings_at (settings_bytes settings)) where
  pub hub_back : word_at s hub_at ≡ hub_number settings.hub
  hub_back =
      stands_word (hub_number settings.hub) (stands_right {to = hub_at} (word settings.capacity) (word (hub_number settings.hub)) h refl)
      (omega (arith, hub_small settings.hub))

  pub hub_field_small : word_at s hub_at ≤ 1
  hub_field_small = omega (arith, hub_back, hub_small settings.hub)

  pub settings_back : SettingsFit settings → settings_in s ≡ settings
  settings_back fits =
      let capacity = stands_word settings.capacity (stands_left (word settings.capacity) (word (hub_number settings.hub)) h) fits in
      let hub : eqb (word_at s hub_at) 1 ≡ settings.hub = ap (λ (x : ℕ). eqb x 1) hub_back ∙ hub_said settings.hub in
      λ i. record { capacity = capacity i; hub = hub i }
