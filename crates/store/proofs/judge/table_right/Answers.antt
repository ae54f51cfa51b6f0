-- `store::judge::table_right` tests the consoles, and then the heads.
use mathlib.Core.Path.{sym, ◌∙◌}
use native.Mathlib.Omega.{arith}
use Rattle.command.specs.Code.{console_count}
use Rattle.store.proofs.Heads.{heads_versions}
use Rattle.store.proofs.judge.table_right.Goals as goal

pub heads_right-requires : goal.heads_right-requires
heads_right-requires c = record {
  n_in_bounds = omega arith;
  by_index = heads_versions _ _ console_count (sym c.consoles_right.ensures ∙ c.if-consoles_right.true);
}
