use Rattle.std.proofs.Common.{ap, arith}
use Rattle.pidset.specs.Pages.{entry}
use Rattle.pidset.proofs.ItemLemmas.{rises_inserted}
use Rattle.posix.specs.Common.{Process}
use Rattle.proctable.proofs.SlabLemmas.{absent_in, processes_inserted, stand_inserted, length_put}
use Rattle.proctable.proofs.slab_table.SlabTableProcessTable.insert.Goals as goal

pub invariant_of-self : goal.invariant_of-self
invariant_of-self c =
    let es = c.self.inside.index.entries in
    let old = c.self.inside.slots.processes in
    let new = c.insert-slot.new.self.processes in
    let e = entry c.args.pid c.insert-slot.result in
    let absent = absent_in c.args.pid es old c.self.invariant (rw (← c.self.view_is) at c.requires.fresh) in
    let u = c.insert-slot.ensures.updates in
    let named = ap (λ (r : Process). r.pid) c.new.ensures in
    rw c.put.ensures (record {
      rising = rises_inserted (λ e. e.pid) es e c.self.invariant.rising absent;
      standing = stand_inserted es old new e c.new.result u.others c.insert-slot.ensures.was_vacant u.changed named c.self.invariant.standing;
      counted = omega (arith, length_put e es, c.insert-slot.ensures.len, c.self.invariant.counted);
    })

pub returns-clause-contents : goal.returns-clause-contents
returns-clause-contents c =
    let es = c.self.inside.index.entries in
    let e = entry c.args.pid c.insert-slot.result in
    let u = c.insert-slot.ensures.updates in
    let named = ap (λ (r : Process). r.pid) c.new.ensures in
    rw (c.put.ensures, ← c.self.view_is, ← c.new.ensures) (processes_inserted es c.self.inside.slots.processes c.insert-slot.new.self.processes e c.new.result u.others c.insert-slot.ensures.was_vacant u.changed named c.self.invariant.standing)
