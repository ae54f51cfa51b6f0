-- `unit::views::room_view` meets its contract.
use mathlib.Core.Path.{◌≡◌, sym, ap, ◌∙◌}
use Rattle.unit.specs.Answers.{reply_of}
use Rattle.unit.specs.Calls.{replied, view_at_reply}
use Rattle.unit.specs.declared.Reply.{Reply}
use Rattle.unit.proofs.View.{view_placed, view_done}
use Rattle.unit.proofs.views.room_view.Goals as goal

pub part_of-requires : goal.part_of-requires
part_of-requires c = let a = c.args in
    let told : replied 0 c.in-Ok.at ≡ view_at_reply a.live.now a.frozen.now a.console a.choice = sym (ap reply_of c.in-Ok.is) ∙ c.view_at.ensures in
    let done = view_done a.live.now a.frozen.now a.console a.choice (sym (ap (λ (r : Reply). r.answer) told)) in
    rw (ap (λ (r : Reply). r.count) told, c.chosen_store-store.ensures.0) done.0

pub returns : goal.returns
returns c = let a = c.args in
    let told : replied 0 c.in-Ok.at ≡ view_at_reply a.live.now a.frozen.now a.console a.choice = sym (ap reply_of c.in-Ok.is) ∙ c.view_at.ensures in
    view_placed _ _ _ _ _ _ c.chosen_store-store.ensures.1 c.chosen_store-store.ensures.0
    (sym (ap (λ (r : Reply). r.answer) told)) (ap (λ (r : Reply). r.count) told) c.part_of.ensures.0 c.part_of.ensures.2
