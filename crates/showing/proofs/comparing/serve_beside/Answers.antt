use Rattle.std.proofs.Common.{rules, None, Err, subst}
use Rattle.showing.specs.Comparing.{IsTraceBeside, said}
use Rattle.showing.specs.Explanations.{Explains}
use Rattle.showing.proofs.ServingLemmas.{means_failed}
use Rattle.showing.proofs.comparing.serve_beside.Goals as goal

pub returns-clause-meaning : goal.returns-clause-meaning
returns-clause-meaning g c =
    let contents = g.F.ReadFiles.contents c.args.files.now in
    let before = g.O.Sink.seen c.args.out.now in
    let after = g.O.Sink.seen c.serve_same.new.out in
    let why = c.in-Err-serve_same.failure in
    let beside : IsTraceBeside contents (said c.args.named) c.in-Ok.read.trace.items None = search rules in
    means_failed contents (said c.args.named) c.args.out.now c.serve_same.new.out before after c.in-Ok.read.trace.items why c.end.result c.end.ensures.status beside
    (subst (λ trace. Explains before after trace (Err why)) c.as_slice.ensures.value c.in-Err-serve_same.ensures)
