-- What each command does to the versions: fork, fast-forward, leave and the making of the hub make none, an entry and a merge make the next one.
-- Assumes nothing.
use Prim.Native.Nat.{ℕ}
use mathlib.Core.Path.{◌≡◌, refl}
use mathlib.Core.List.{◌∷◌}
use Rattle.graph.specs.declared.Strip.{Strip}
use Rattle.graph.specs.Graph.{entry, merge}
use Rattle.graph.specs.declared.Console.{Console}
use Rattle.command.specs.declared.Command.TheVariants.{Fork, Entry, Merge, FastForward, Leave, MakeHub}
use Rattle.room.specs.Room.{Room, head}
use Rattle.room.specs.Step.{step}

pub fork_versions : (r : Room) (new old : Console) → (step r (Fork new old)).versions ≡ r.versions
unfolding step
fork_versions r new old = refl

pub forward_versions : (r : Room) (a b : Console) → (step r (FastForward a b)).versions ≡ r.versions
unfolding step
forward_versions r a b = refl

pub leave_versions : (r : Room) (c : Console) → (step r (Leave c)).versions ≡ r.versions
unfolding step
leave_versions r c = refl

pub hub_versions_lem : (r : Room) → (step r MakeHub).versions ≡ r.versions
unfolding step
hub_versions_lem r = refl

pub entry_versions : (r : Room) (c : Console) (code : ℕ) (k : Strip) (x : ℕ)
    → (step r (Entry c code k x)).versions ≡ entry (head r c.0) code k.0 x ∷ r.versions
unfolding step
entry_versions r c code k x = refl

pub merge_versions : (r : Room) (a b : Console) → (step r (Merge a b)).versions ≡ merge (head r a.0) (head r b.0) ∷ r.versions
unfolding step
merge_versions r a b = refl
