use Rattle.inputs.specs.declared.failure.FileFailure.TheVariants.{Memory}
use Rattle.showing.proofs.ExplanationLemmas.{explains_by, untold}
use Rattle.showing.proofs.comparing.serve_same.Goals as goal

pub returns-in_err-put_warnings : goal.returns-in_err-put_warnings
returns-in_err-put_warnings g c =
    explains_by c.from_residual.result Memory _ _ c.args.trace.now c.from_residual.ensures.1 (untold (g.O.Sink.seen c.args.out.now) c.args.trace.now)

pub returns-in_err-told : goal.returns-in_err-told
returns-in_err-told g c =
    explains_by c.from_residual-in_err-told.result Memory _ _ c.args.trace.now c.from_residual-in_err-told.ensures.1 (untold (g.O.Sink.seen c.args.out.now) c.args.trace.now)
