-- The test that the code makes of lent bytes says of any bytes what the paper says: that they hold a sound store.
-- Assumes nothing.
use mathlib.Core.Path.{◌≡◌}
use mathlib.Core.List.{List}
use Prim.Native.Nat.{ℕ}
use Rattle.laws.proofs.Logic.{bool_ext}
use Rattle.buffer.proofs.Parts.{Bytes}
use Rattle.store.specs.Layout.{holds_store}
use Rattle.store.specs.Check.{store_right}
use Rattle.store.proofs.Passes.{right_holds}
use Rattle.store.proofs.Holds.{holds_right}

pub check_holds : (s : List ℕ) → Bytes s → store_right s ≡ holds_store s
check_holds s b = bool_ext (store_right s) (holds_store s) (right_holds s b) (holds_right s)
