use Rattle.proctable.proofs.SlabLemmas.{kept_index, processes_kept}
use Rattle.proctable.proofs.slab_table.SlabTableProcessTable.reserve.Goals as goal

pub returns-clause-contents : goal.returns-clause-contents
returns-clause-contents c = rw (c.reserve-2.ensures.entries, ← c.self.view_is) (processes_kept c.self.inside.index.entries c.self.inside.slots.processes c.reserve-3.new.self.processes c.reserve-3.ensures.slots)

pub invariant_of-self-2 : goal.invariant_of-self-2
invariant_of-self-2 c = kept_index _ _ _ _ c.reserve-2.ensures.entries c.reserve-3.ensures.slots c.self.invariant
