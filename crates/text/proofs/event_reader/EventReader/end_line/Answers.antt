use Rattle.std.proofs.Common.{ap, ◌∙◌}
use Rattle.text.specs.EventTexts.{Progress, Reading}
use Rattle.text.proofs.ReaderLemmas.{line_added, line_refused}
use Rattle.text.proofs.event_reader.EventReader.end_line.Goals as goal

pub returns-in-Ok-clause-ends : goal.returns-in-Ok-clause-ends
returns-in-Ok-clause-ends c =
    let fine = ap (λ (p : Progress). p.reading.fault) c.self.view_is ∙ c.requires in
    rw (← c.self.view_is) (line_added _ _ _ _ c.as_slice.ensures.value c.clear.ensures fine c.in-Ok.ensures.adds)

pub returns-in-Err-clause-ends : goal.returns-in-Err-clause-ends
returns-in-Err-clause-ends c =
    let reading : Reading = record { lines = c.self.inside.lines; events = c.self.inside.events; fault = c.self.inside.fault } in
    rw (← c.self.view_is) (line_refused c.self.inside.consoles reading _ _ _ c.in-Err.reason c.as_slice.ensures.value c.in-Err.ensures.adds)
