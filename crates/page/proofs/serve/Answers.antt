use Rattle.page.proofs.AnswerLemmas.{is_audited, is_run, most_answered, trace_given}
use Rattle.page.proofs.serve.Goals as goal

pub returns-clause-most : goal.returns-clause-most
returns-clause-most c =
    let a = c.answer_to-answer.result in
    most_answered c.args.words.now c.args.trace.now c.args.world.now c.args.events.now a.put.items a.status c.answer_to-answer.ensures

pub returns-clause-run : goal.returns-clause-run
returns-clause-run c = λ is.
    let a = c.answer_to-answer.result in
    let given = rw c.as_slice.ensures.value at c.give.ensures in
    (a.put.items, is_run c.args.words.now c.args.trace.now c.args.world.now c.args.events.now a.put.items a.status is c.answer_to-answer.ensures, given)

pub returns-clause-audit : goal.returns-clause-audit
returns-clause-audit c = λ is.
    let a = c.answer_to-answer.result in
    let given = rw c.as_slice.ensures.value at c.give.ensures in
    (a.put.items, is_audited c.args.words.now c.args.trace.now c.args.world.now c.args.events.now a.put.items a.status is c.answer_to-answer.ensures, given)

pub returns-clause-traced : goal.returns-clause-traced
returns-clause-traced c = λ is done within.
    let a = c.answer_to-answer.result in
    let given = rw c.as_slice.ensures.value at c.give.ensures in
    trace_given c.args.world.now c.args.events.now a.put.items c.args.out.now c.give.new.room c.give.result a.status
    (is_run c.args.words.now c.args.trace.now c.args.world.now c.args.events.now a.put.items a.status is c.answer_to-answer.ensures) given done within
