use Rattle.std.proofs.Common.{arith, length-append}
use Rattle.std.proofs.lemmas.Grind.{common_steps}
use Rattle.posix.specs.Common.{is_program}
use Rattle.text.specs.Outlines.{program_of}
use Rattle.text.proofs.EachLemmas.{all_and_one, each-one_more, each_rules}
use Rattle.text.proofs.draft.Draft.completed.Goals as goal

pub returns-in_err-programs-clause-answer : goal.returns-in_err-programs-clause-answer
returns-in_err-programs-clause-answer c = grind (arith, common_steps, each_rules)

pub returns-in_err-program-clause-answer : goal.returns-in_err-program-clause-answer
returns-in_err-program-clause-answer c = grind (arith, common_steps, each_rules)

pub returns-in-Ok-clause-answer : goal.returns-in-Ok-clause-answer
returns-in-Ok-clause-answer c =
    let before = rw c.as_slice.ensures.value at c.in_ok-programs.ensures.answer in
    rw (← c.self.view_is, c.in-InProgram.is, c.in-Ok.ensures.items)
    (each-one_more (program_of c.self.inside.names) c.self.inside.programs.items c.self.inside.opened _ _ before c.in_ok-program.ensures.answer)

pub returns-in-Ok-clause-range : goal.returns-in-Ok-clause-range
returns-in-Ok-clause-range c = rw c.in-Ok.ensures.items (all_and_one is_program c.in_ok-programs.programs.items c.in_ok-program.program c.in_ok-programs.ensures.range c.in_ok-program.ensures.range)

pub returns-in-Ok-clause-len : goal.returns-in-Ok-clause-len
returns-in-Ok-clause-len c =
    let before = rw c.as_slice.ensures.value at c.in_ok-programs.ensures.len in
    rw (← c.self.view_is, c.in-InProgram.is, c.in-Ok.ensures.items) (simp (length-append, before))
