-- No command counts more than 64 clashes.
-- Assumes nothing.
use Prim.Native.Nat.{ℕ, ◌≤◌}
use mathlib.Core.Path.{◌≡◌}
use native.Mathlib.Omega.{arith}
use Rattle.board.proofs.Clashes.{board_clashes}
use Rattle.command.specs.declared.Command.{Command}
use Rattle.command.specs.declared.Command.TheVariants.{Fork, Entry, Merge, FastForward, Leave, MakeHub}
use Rattle.room.specs.Room.{Room}
use Rattle.room.specs.Step.{clash_count}

few_clashes : (r : Room) (c : Command) → clash_count r c ≤ 64
unfolding clash_count
few_clashes r (Fork new old) = omega arith
few_clashes r (Entry console code strip operand) = omega arith
few_clashes r (Merge receiver giver) = board_clashes _ _ _
few_clashes r (FastForward receiver giver) = omega arith
few_clashes r (Leave console) = omega arith
few_clashes r MakeHub = omega arith

pub few_counted : (r : Room) (c : Command) {n : ℕ} → n ≡ clash_count r c → n ≤ 64
few_counted r c e = rw e (few_clashes r c)
