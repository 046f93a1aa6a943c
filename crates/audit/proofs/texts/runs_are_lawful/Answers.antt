use Rattle.std.proofs.Common.{refl}
use Rattle.laws.proofs.AgreeRuns.{run_trace}
use Rattle.audit.proofs.texts.runs_are_lawful.Goals as goal

pub returns : goal.returns
returns c = λ w events lines last some world kinds few run.
    let t = run_trace w events lines last some world kinds few run in
    record { lines = lines; is = refl; forms = t.forms; laws = t.agree.laws }
