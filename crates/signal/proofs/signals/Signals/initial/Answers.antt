use Rattle.std.proofs.Common.{◌∙◌, ap}
use Rattle.signal.specs.SignalTables.{initial_tables, signals_of}
use Rattle.signal.proofs.SetLemmas.{without_pending}
use Rattle.signal.proofs.signals.Signals.initial.Goals as goal

pub returns : goal.returns
returns c = ap (signals_of 0 0) c.in_ok-new.ensures ∙ without_pending 0 initial_tables
