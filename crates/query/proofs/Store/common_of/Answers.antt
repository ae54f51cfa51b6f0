-- `query::Store::common_of` meets its contract.
use Prim.Native.Nat.{pred}
use mathlib.Core.Bool.{true}
use mathlib.Core.Path.{◌≡◌, ap, ◌∙◌}
use Rattle.room.specs.Room.{present}
use Rattle.store.specs.Layout.{room_in}
use Rattle.store.proofs.Numbers.{number_back}
use Rattle.query.proofs.Answers.{common_answer}
use Rattle.query.proofs.Store.common_of.Goals as goal

pub returns : goal.returns
returns c = let a = c.args in
    let named = c.requires.in_range in
    let r = room_in c.self.inside.bytes.now in
    let here : (present r a.c.0 ≡ true) × (present r a.d.0 ≡ true) = rw c.self.view_is c.requires.are_present in
    rw (
      number_back c.common_in.result c.unwrap_or.result c.unwrap_or.ensures ∙ ap pred c.common_in.ensures.0,
      ← c.self.view_is,
    )
    (common_answer c.self.inside.bytes.now c.self.invariant a.c.0 a.d.0 named.0 named.1 here.0 here.1)
