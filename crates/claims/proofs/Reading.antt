-- Where a journal's versions are those of a graph, what the journal says of them is what the graph does: which version leads to which, which
-- are entries, and which are calls of a strip.
-- Assumes nothing.
use Prim.Native.Nat.{ℕ}
use mathlib.Core.Path.{◌≡◌, refl, sym, ap}
use mathlib.Core.Bool.{Bool, true, false, cond, ◌&&◌}
use mathlib.Core.List.{[], ◌∷◌, map}
use mathlib.Core.Option
use mathlib.Core.Option.{Option, none, some}
use borrow.Author.Tests.{eqb-true, eq-eqb}
use lib.Dec.{eqb}
use lib.ListN.{length-map}
use Rattle.laws.proofs.Logic.{bool_ext}
use Rattle.board.specs.Board.{call_entry}
use Rattle.graph.specs.declared.Node.{Node}
use Rattle.graph.specs.declared.Node.TheVariants.{Entry, Merge}
use Rattle.graph.specs.Graph.{Graph, version_count, ancestor, node_of, is_entry_node, is_entry}
use Rattle.room.proofs.Counters.{entry_is}
use Rattle.claims.specs.Journal.{made_by, leads, made_as, was_entered, call_of}

pub leads_ancestor : (g : Graph) (u v : ℕ) → leads (map made_by g) u v ≡ ancestor g u v
unfolding leads ancestor
leads_ancestor [] u v = refl
leads_ancestor (Entry p code strip operand ∷ g) u v = cc (length-map g made_by, leads_ancestor g u p.0, leads_ancestor g u v)
leads_ancestor (Merge p q ∷ g) u v = cc (length-map g made_by, leads_ancestor g u p.0, leads_ancestor g u q.0, leads_ancestor g u v)

-- a version as it was made is made by its node
made_chosen : (b : Bool) (n o : Option Node) → cond b (Option.map made_by n) (Option.map made_by o) ≡ Option.map made_by (cond b n o)
made_chosen true n o = refl
made_chosen false n o = refl

pub made_node : (g : Graph) (v : ℕ) → made_as (map made_by g) v ≡ Option.map made_by (node_of g v)
unfolding made_as node_of
made_node [] v = refl
made_node (n ∷ g) v = cc (length-map g made_by, made_node g v, made_chosen (eqb v (version_count g)) (some n) (node_of g v))

node_entered : (o : Option Node) → was_entered (Option.map made_by o) ≡ is_entry_node o
node_entered none = refl
node_entered (some (Entry p code strip operand)) = refl
node_entered (some (Merge p q)) = refl

eqb_sym : (a b : ℕ) → eqb a b ≡ eqb b a
eqb_sym a b = bool_ext _ _ (λ t. eq-eqb b a (sym (eqb-true a b t))) (λ t. eq-eqb a b (sym (eqb-true b a t)))

node_call : (k : ℕ) (o : Option Node) → call_of k (Option.map made_by o) ≡ entry_is call_entry k o
node_call k none = refl
node_call k (some (Entry p code strip operand)) = ap (λ (b : Bool). eqb code call_entry && b) (eqb_sym strip.0 k)
node_call k (some (Merge p q)) = refl

pub entered_entry : (g : Graph) (e : ℕ) → was_entered (made_as (map made_by g) e) ≡ is_entry g e
entered_entry g e = rw made_node (node_entered (node_of g e))

pub call_entry_lem : (g : Graph) (k e : ℕ) → call_of k (made_as (map made_by g) e) ≡ entry_is call_entry k (node_of g e)
call_entry_lem g k e = rw made_node (node_call k (node_of g e))
