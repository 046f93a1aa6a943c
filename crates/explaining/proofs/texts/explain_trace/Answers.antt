use Rattle.inputs.specs.declared.failure.FileFailure.TheVariants.{Memory}
use Rattle.showing.proofs.ExplanationLemmas.{explains_by, untold}
use Rattle.explaining.proofs.texts.explain_trace.Goals as goal

pub returns-in_err-known : goal.returns-in_err-known
returns-in_err-known g c =
    explains_by c.from_residual.result Memory _ _ c.args.trace.now c.from_residual.ensures.1 (untold (g.O.Sink.seen c.args.out.now) c.args.trace.now)
