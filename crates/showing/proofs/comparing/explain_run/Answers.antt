use Rattle.inputs.specs.declared.failure.FileFailure.TheVariants.{Memory}
use Rattle.showing.proofs.ExplanationLemmas.{explains_by, untold}
use Rattle.showing.proofs.comparing.explain_run.Goals as goal

pub returns-in_err-listing : goal.returns-in_err-listing
returns-in_err-listing g c =
    explains_by c.from_residual.result Memory _ _ c.args.trace.now c.from_residual.ensures.1 (untold (g.O.Sink.seen c.args.out.now) c.args.trace.now)

pub returns-in_err-run : goal.returns-in_err-run
returns-in_err-run g c =
    explains_by c.from_residual-in_err-run.result Memory _ _ c.args.trace.now c.from_residual-in_err-run.ensures.1 (untold (g.O.Sink.seen c.args.out.now) c.args.trace.now)
