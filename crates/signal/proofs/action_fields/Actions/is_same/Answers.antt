use Rattle.std.proofs.Common.{arith}
use Rattle.signal.proofs.FieldLemmas.{actions_same}
use Rattle.signal.proofs.action_fields.Actions.is_same.Goals as goal

pub returns : goal.returns
returns c e = actions_same c.args.self.now c.args.other.now (λ k l. c.loop-row.invariant k (omega (arith, l)))
