use Rattle.std.proofs.Common.{◌≡◌, ap, sym, ◌∙◌, ◌++◌, take}
use Rattle.std.proofs.lemmas.List.{take_all}
use Rattle.text.specs.EventTexts.{Progress}
use Rattle.text.proofs.ReaderLemmas.{fault_answers}
use Rattle.text.proofs.event_reader.EventReader.feed.Goals as goal

pub returns-in-Some-clause-answer : goal.returns-in-Some-clause-answer
returns-in-Some-clause-answer c = λ text more h.
    let all : take c.loop-byte.byte-index c.args.piece.now ≡ c.args.piece.now = take_all c.loop-byte.byte-index c.args.piece.now c.loop-byte-test.false in
    let read = rw all at (c.loop-byte.invariant.read text h) in
    let fault = ap (λ (p : Progress). p.reading.fault) (sym c.self.view_is) ∙ c.in-Some.is in
    fault_answers (text ++ c.args.piece.now) more c.args.self.now.consoles c.loop-byte.self c.in-Some.fault fault c.loop-byte.invariant.consoles read
