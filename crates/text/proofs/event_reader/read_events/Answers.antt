use Rattle.std.proofs.Common.{◌≡◌, [], append-nil, List, Ok, Err}
use Rattle.std.specs.Prelude.{Result, IsErrAnd}
use Rattle.posix.specs.declared.event.Event.{Event}
use Rattle.text.specs.declared.fault.TextFault.{TextFault}
use Rattle.text.specs.Reading.{Answers, IsFaultOf}
use Rattle.text.proofs.event_reader.read_events.Goals as goal

fault_answers : (result meaning : Result (List Event) TextFault) (f : TextFault) → IsErrAnd result (λ e. e ≡ f) → IsFaultOf meaning f → Answers result meaning
fault_answers (Ok x) meaning f e h = absurd e
fault_answers (Err g) meaning f e h = rw e h

pub returns-in_err-feed-clause-answer : goal.returns-in_err-feed-clause-answer
returns-in_err-feed-clause-answer c =
    let fault = c.in_err-feed.ensures.answer [] [] c.new-reader.ensures.read in
    fault_answers c.from_residual.result _ _ c.from_residual.ensures.1 (rw (c.new-reader.ensures.consoles, append-nil) at fault)
