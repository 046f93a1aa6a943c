use Rattle.showing.proofs.ComparisonLemmas.{of_run}
use Rattle.showing.proofs.comparison.first_difference.Goals as goal

pub returns : goal.returns
returns c = λ contents names read.
    let first = c.new-sink in
    of_run contents names _ _ read _ _ first.result c.run_read-done.new.out c.run_read-done.result c.args.trace.now c.difference.result first.ensures.text first.ensures.same first.ensures.other
    (c.lacks_memory.ensures c.if-lacks_memory.false) (c.run_read-done.ensures.headline read.world_bytes read.event_bytes read.world_is read.events_are) c.difference.ensures.whole
    c.difference.ensures.cut_short
