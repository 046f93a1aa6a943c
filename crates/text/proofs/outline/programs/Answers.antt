use Rattle.std.proofs.Common.{inl, inr, arith}
use Rattle.std.proofs.lemmas.Grind.{common_steps}
use Rattle.posix.specs.Ranges.{is_program}
use Rattle.text.specs.Outlines.{program_of}
use Rattle.text.proofs.EachLemmas.{all_and_one, each-next, each-ends, each-refused}
use Rattle.text.proofs.outline.programs.Goals as goal

pub loop-outline-preserved : goal.loop-outline-preserved
loop-outline-preserved c =
    let so_far = c.loop-outline in
    record {
      rest = rw c.push_reserved.ensures.items (each-next (program_of c.args.names.now) c.args.outlines.now so_far.outline-index c.outline-item.result c.in-Ok-program.program so_far.programs.items _ c.loop-outline-test.true c.outline-item.is c.in-Ok-program.ensures.answer so_far.invariant.rest);
      len = grind (arith, common_steps);
      range = rw c.push_reserved.ensures.items (all_and_one is_program so_far.programs.items c.in-Ok-program.program so_far.invariant.range c.in-Ok-program.ensures.range);
      room = omega arith;
    }

pub returns-in-Err-clause-answer : goal.returns-in-Err-clause-answer
returns-in-Err-clause-answer c = elim c.in-Err.ensures.answer [
  | inl memory ↦ inl memory
  | inr refused ↦ inr (each-refused (program_of c.args.names.now) c.args.outlines.now c.loop-outline.outline-index c.outline-item.result c.in-Err.fault c.loop-outline.programs.items _ c.loop-outline-test.true c.outline-item.is refused c.loop-outline.invariant.rest)
]

pub returns-clause-answer : goal.returns-clause-answer
returns-clause-answer c = each-ends (program_of c.args.names.now) c.args.outlines.now c.loop-outline.outline-index c.loop-outline.programs.items _ c.loop-outline-test.false c.loop-outline.invariant.rest
