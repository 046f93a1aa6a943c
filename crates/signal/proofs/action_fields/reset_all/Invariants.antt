use Rattle.std.proofs.Common.{◌≡◌, ◌++◌, map, take, drop}
use Rattle.signal.specs.ActionFields.{disposition_on_exec}
use Rattle.signal.proofs.action_fields.reset_all.Given as goal

abbrev pub invariant-loop-disposition : goal.invariant-loop-disposition
invariant-loop-disposition l = l.dispositions ≡ map disposition_on_exec (take l.disposition-index l.fn.dispositions) ++ drop l.disposition-index l.fn.dispositions
