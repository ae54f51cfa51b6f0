-- `query::Store::head_of` meets its contract.
use Prim.Native.Nat.{pred}
use mathlib.Core.Path.{ap, ◌∙◌}
use Rattle.store.proofs.Numbers.{number_back}
use Rattle.query.proofs.Answers.{head_answer}
use Rattle.query.proofs.Store.head_of.Goals as goal

pub returns : goal.returns
returns c = rw (
  number_back c.common_in.result c.unwrap_or.result c.unwrap_or.ensures ∙ ap pred c.common_in.ensures.0,
  ← c.self.view_is,
)
    (head_answer c.self.inside.bytes.now c.self.invariant c.args.c.0 c.requires)
