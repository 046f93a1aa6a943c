use Rattle.std.proofs.Common.{◌≡◌, ◌-◌, arith, rules}
use Rattle.text.proofs.EventLemmas.{expanded_grow}
use Rattle.text.proofs.event_list.grow_last.Goals as goal

pub returns-then-eq-clause-items : goal.returns-then-eq-clause-items
returns-then-eq-clause-items c =
    let same : c.index.result.now.event ≡ c.args.event = search rules in
    rw (c.new.ensures, c.count.ensures) (expanded_grow c.args.runs.now.items (c.len-len.result - 1) c.args.count c.index-then-eq.result.now c.index.result.now c.args.event (omega arith) c.index-then-eq.ensures c.index.ensures same)
