-- The measure of `query::Store::origin_of` is the version's number: each version leads to a parent.
use Rattle.query.proofs.Store.+origin_of.Given as goal

abbrev pub decreases-origin_of : goal.decreases-origin_of
decreases-origin_of l = l.v.0
