use Rattle.inputs.specs.declared.failure.FileFailure.TheVariants.{Write}
use Rattle.showing.proofs.ExplanationLemmas.{explains_by, told_all, told_in_part, told_more, told_no_more}
use Rattle.showing.proofs.lines.explain_text.Goals as goal

pub loop-line-preserved : goal.loop-line-preserved
loop-line-preserved g c =
    let told = c.in_ok-explain_line.ensures.ok in
    told_more _ _ _ c.args.trace.now c.loop-line.rest.now c.in-Some.line.now c.in-Some.more.now c.loop-line.waiting.items c.explain_line.new.waiting.items told.0 c.loop-line.invariant
    c.in-Some.ensures.cut told.1 told.2

pub returns-in_err-explain_line : goal.returns-in_err-explain_line
returns-in_err-explain_line g c =
    let why = c.in_err-explain_line.field-0.0 in
    let stopped = c.in_err-explain_line.ensures.err in
    explains_by c.from_residual.result why _ _ c.args.trace.now c.from_residual.ensures.1
    (told_no_more g.O.Sink.seen _ c.loop-line.out c.explain_line.new.out c.args.trace.now c.loop-line.rest.now c.in-Some.line.now c.in-Some.more.now c.loop-line.waiting.items stopped.0 why
    c.loop-line.invariant c.in-Some.ensures.cut stopped.1 stopped.2)

pub returns-in_err-put_both : goal.returns-in_err-put_both
returns-in_err-put_both g c =
    explains_by c.from_residual-in_err-put_both.result Write _ _ c.args.trace.now c.from_residual-in_err-put_both.ensures.1
    (told_in_part _ _ _ c.args.trace.now c.loop-line.rest.now c.loop-line.waiting.items c.loop-line.invariant c.in_default.ensures.cut (rw c.as_slice.ensures.value at c.in_err-put_both.ensures.err))

pub returns : goal.returns
returns g c =
    told_all _ _ _ c.args.trace.now c.loop-line.rest.now c.loop-line.waiting.items c.loop-line.invariant c.in_default.ensures.cut (rw c.as_slice.ensures.value at c.in_ok-put_both.ensures.ok)
