use Rattle.std.proofs.Common.{◌∙◌, sym, inr, arith}
use Rattle.std.proofs.lemmas.Grind.{common_steps}
use Rattle.posix.specs.Ranges.{is_instruction}
use Rattle.text.specs.Outlines.{completed}
use Rattle.text.proofs.EachLemmas.{all_and_one, each-next, each-ends, each-refused}
use Rattle.text.proofs.outline.instructions.Goals as goal

pub loop-written-preserved : goal.loop-written-preserved
loop-written-preserved c =
    let names = c.args.names in
    let so_far = c.loop-written in
    let gives = sym c.complete.ensures ∙ c.in-Ok-complete.is in
    record {
      rest = rw c.push_reserved.ensures.items (each-next (completed names.programs.now names.labels.now) c.args.code.now so_far.written-index c.written-item.result c.in-Ok-complete.instr so_far.instructions.items _ c.loop-written-test.true c.written-item.is gives so_far.invariant.rest);
      len = grind (arith, common_steps);
      range = rw c.push_reserved.ensures.items (all_and_one is_instruction so_far.instructions.items c.in-Ok-complete.instr so_far.invariant.range c.range_holds.ensures);
      room = omega arith;
    }

pub returns-in-Err-clause-answer : goal.returns-in-Err-clause-answer
returns-in-Err-clause-answer c =
    let names = c.args.names in
    let refused = sym c.complete.ensures ∙ c.in-Err.is in
    inr (each-refused (completed names.programs.now names.labels.now) c.args.code.now c.loop-written.written-index c.written-item.result c.in-Err.fault c.loop-written.instructions.items _ c.loop-written-test.true c.written-item.is refused c.loop-written.invariant.rest)

pub returns-clause-answer : goal.returns-clause-answer
returns-clause-answer c = each-ends (completed c.args.names.programs.now c.args.names.labels.now) c.args.code.now c.loop-written.written-index c.loop-written.instructions.items _ c.loop-written-test.false c.loop-written.invariant.rest
