use Rattle.std.proofs.Common.{◌∙◌, sym, arith}
use Rattle.explaining.proofs.DrawingLemmas.{all_read, begins_other, more_read, none_read, other_read, some_left}
use Rattle.explaining.proofs.drawing.read_rows.Goals as goal

pub loop-line-preserved : goal.loop-line-preserved
loop-line-preserved c = record {
  read = more_read c.args.trace.now c.loop-line.number c.loop-line.rest.now c.in-Some.line.now c.in-Some.more.now _ c.loop-line.invariant.read c.in-Some.ensures.cut c.in-Some-read_line.ensures.some;
  within = omega (arith, c.loop-line.invariant.within, c.in-Some.ensures.less);
}

pub loop-line-init : goal.loop-line-init
loop-line-init c = record { read = none_read c.args.trace.now; within = omega (arith) }

pub returns-in_default-read_line : goal.returns-in_default-read_line
returns-in_default-read_line c =
    other_read c.args.trace.now c.loop-line.number c.loop-line.rest.now c.loop-line.invariant.read
    (begins_other c.loop-line.rest.now c.in-Some.line.now c.in-Some.more.now c.in-Some.ensures.cut c.in_default-read_line.ensures.none)

pub returns-then-is_empty : goal.returns-then-is_empty
returns-then-is_empty c = all_read c.args.trace.now c.loop-line.number c.loop-line.rest.now c.loop-line.invariant.read (sym c.is_empty.ensures ∙ c.if-is_empty.true)

pub returns : goal.returns
returns c =
    other_read c.args.trace.now c.loop-line.number c.loop-line.rest.now c.loop-line.invariant.read
    (some_left c.loop-line.rest.now (sym c.is_empty.ensures ∙ c.if-is_empty.false) c.in_default.ensures.cut)
