-- `query::Store::is_present` meets its contract.
use Rattle.store.proofs.Numbers.{number_present}
use Rattle.query.proofs.Answers.{present_answer}
use Rattle.query.proofs.Store.is_present.Goals as goal

pub returns : goal.returns
returns c = rw (c.is_some.ensures, number_present c.common_in.result, c.common_in.ensures.0, ← c.self.view_is)
    (present_answer c.self.inside.bytes.now c.args.c.0 c.requires)
