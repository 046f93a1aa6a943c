use Rattle.std.proofs.Common.{◌∙◌, sym, refl}
use Rattle.proctable.specs.Records.{with_parent}
use Rattle.proctable.proofs.SlabLemmas.{written}
use Rattle.proctable.proofs.slab_table.SlabTableProcessTable.set_parent.Goals as goal

pub invariant_of-self : goal.invariant_of-self
invariant_of-self c =
    rw c.set_parent.ensures (written c.self.inside.index.entries c.self.inside.slots.processes c.args.pid _ (with_parent c.args.parent) c.process-process.result.now (λ r. refl) c.self.invariant (sym c.get.ensures ∙ c.in-Some.is) c.process-process.ensures.value).index

pub returns-clause-contents : goal.returns-clause-contents
returns-clause-contents c =
    rw (c.set_parent.ensures, ← c.self.view_is) (written c.self.inside.index.entries c.self.inside.slots.processes c.args.pid _ (with_parent c.args.parent) c.process-process.result.now (λ r. refl) c.self.invariant (sym c.get.ensures ∙ c.in-Some.is) c.process-process.ensures.value).processes
