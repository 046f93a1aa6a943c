use Rattle.std.proofs.Common.{rules}
use Rattle.explaining.proofs.ServingLemmas.{means_explained}
use Rattle.explaining.proofs.serving.explain_file.Goals as goal

pub returns : goal.returns
returns g c =
    means_explained (g.F.ReadFiles.contents c.args.files.now) c.args.name.now c.args.out.now c.explain_trace.new.out (g.O.Sink.seen c.args.out.now) (g.O.Sink.seen c.explain_trace.new.out)
    c.in_ok-trace.trace.items c.explain_trace.result (search rules) (rw c.as_slice.ensures.value at c.explain_trace.ensures)
