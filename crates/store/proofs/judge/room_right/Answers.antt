-- `store::judge::room_right` meets its contract.
use mathlib.Core.Path.{sym, ◌∙◌}
use native.Mathlib.Omega.{arith}
use Rattle.store.proofs.HubTold.{contents_fit, fields_small, head_inside}
use Rattle.store.proofs.judge.room_right.Goals as goal

pub hub_right-requires : goal.hub_right-requires
hub_right-requires c = let s = c.args.s.now in
    let capacity = c.args.settings.capacity in
    let n = c.word_at.result in
    let right = sym c.contents_right.ensures ∙ c.if-contents_right.true in
    let fits = contents_fit s capacity n right in
    record {
      header_size_in_bounds = omega arith;
      row_size_in_bounds = omega (arith, head_inside s capacity n right (omega arith));
      by_index = λ k d l m. omega (arith, fields_small s capacity n right k d l m);
    }
