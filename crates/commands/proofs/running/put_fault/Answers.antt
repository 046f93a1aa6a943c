use Rattle.std.proofs.Common.{◌≡◌, ◌∙◌, List, ℕ, subst}
use Rattle.std.specs.Prelude.{[], if◌then◌else◌}
use Rattle.inputs.proofs.PutLemmas.{break_behind, take_behind}
use Rattle.trace.proofs.SinkLemmas.{break_on}
use Rattle.trace.specs.Sinks.{BreaksOff, TakesAll}
use Rattle.commands.specs.Running.{fault_answer, line_and_law}
use Rattle.commands.proofs.RunningLemmas.{any_error}
use Rattle.commands.proofs.running.put_fault.Goals as goal

pub returns-in_err-put_answer-clause-cut : goal.returns-in_err-put_answer-clause-cut
returns-in_err-put_answer-clause-cut g c =
    let is : c.as_bytes.result.now ≡ fault_answer c.args.why = c.as_bytes.ensures.value ∙ c.as_str.ensures.value ∙ c.fault_line.ensures in
    let before = g.O.Sink.seen c.args.out.now in
    let after = g.O.Sink.seen c.put_answer.new.out in
    any_error c.from_residual.result
    (break_on before after (fault_answer c.args.why) (if c.args.tells_law then line_and_law c.args.trace.now c.args.why else [])
    (subst (λ (x : List ℕ). BreaksOff before after x) is c.in_err-put_answer.ensures.cut))

pub returns-then-tells_law-clause-ok : goal.returns-then-tells_law-clause-ok
returns-then-tells_law-clause-ok g c =
    let is : c.as_bytes.result.now ≡ fault_answer c.args.why = c.as_bytes.ensures.value ∙ c.as_str.ensures.value ∙ c.fault_line.ensures in
    let before = g.O.Sink.seen c.args.out.now in
    let after = g.O.Sink.seen c.put_answer.new.out in
    let first = subst (λ (x : List ℕ). TakesAll before after x) is c.in_ok-put_answer.ensures.ok in
    rw c.if-tells_law.true (take_behind c.put_law.result before after (g.O.Sink.seen c.put_law.new.out) (fault_answer c.args.why) (line_and_law c.args.trace.now c.args.why) first c.put_law.ensures.ok)

pub returns-then-tells_law-clause-cut : goal.returns-then-tells_law-clause-cut
returns-then-tells_law-clause-cut g c =
    let is : c.as_bytes.result.now ≡ fault_answer c.args.why = c.as_bytes.ensures.value ∙ c.as_str.ensures.value ∙ c.fault_line.ensures in
    let before = g.O.Sink.seen c.args.out.now in
    let after = g.O.Sink.seen c.put_answer.new.out in
    let first = subst (λ (x : List ℕ). TakesAll before after x) is c.in_ok-put_answer.ensures.ok in
    rw c.if-tells_law.true (break_behind c.put_law.result before after (g.O.Sink.seen c.put_law.new.out) (fault_answer c.args.why) (line_and_law c.args.trace.now c.args.why) first c.put_law.ensures.cut)
