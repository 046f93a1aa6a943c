use Rattle.std.proofs.Common.{◌≡◌, [], Some, refl, subst, sym}
use Rattle.page.specs.Answers.{AreServed}
use Rattle.page.specs.Files.{files_of}
use Rattle.page.proofs.AnswerLemmas.{are_served}
use Rattle.page.proofs.answers.served.Goals as goal

pub returns : goal.returns
returns c =
    let files = files_of c.args.files.now.trace.now c.args.files.now.world.now c.args.files.now.events.now in
    let none : c.new-out.result.writer.items ≡ [] = rw c.new-out.ensures c.new.ensures.items in
    subst (λ put. AreServed files c.args.words put.items c.serve-status.result) (sym c.into_writer.ensures)
    (are_served c.new-out.result c.serve-status.new.out (λ s. s.writer.items) (λ s. record { taken = Some s.writer.items; failures = s.failures; last_failed = s.last_failed }) files c.args.words
    c.serve-status.result none (λ s. refl) c.serve-status.ensures)
