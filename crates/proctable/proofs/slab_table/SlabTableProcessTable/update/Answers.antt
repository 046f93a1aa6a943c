use Rattle.std.proofs.Common.{◌∙◌, ap, sym, refl}
use Rattle.std.specs.Option.{option_and_then}
use Rattle.slab.specs.Slab.{get}
use Rattle.proctable.specs.Records.{give_record}
use Rattle.proctable.proofs.SlabLemmas.{found_in, written, len_put, rising_in, kept_pid, read_process}
use Rattle.proctable.proofs.slab_table.SlabTableProcessTable.update.Goals as goal

pub invariant_of-self-lent : goal.invariant_of-self-lent
invariant_of-self-lent c =
    λ w. (written c.self.inside.index.entries c.self.inside.slots.processes c.args.pid _ (give_record w) c.process-process.result.now (kept_pid w) c.self.invariant (sym c.get.ensures ∙ c.in-Some.is) c.process-process.ensures.value).index

pub returns : goal.returns
returns c =
    let es = c.self.inside.index.entries in
    let slab = c.self.inside.slots.processes in
    let r = c.process-process.result.now in
    let is = sym c.get.ensures ∙ c.in-Some.is in (
      (refl, λ b. rw ((written es slab c.args.pid _ (give_record b) r (kept_pid b) c.self.invariant is c.process-process.ensures.value).processes, len_put slab _ r (give_record b r) c.process-process.ensures.value, ← c.self.view_is) refl),
      record {
        lends = tt;
        rising = rw (← c.self.view_is) (rising_in es slab c.self.invariant);
        value = rw (← c.self.view_is) (read_process _ c.args.pid r c.record_mut.result.now (found_in c.args.pid es slab c.self.invariant ∙ ap (option_and_then (get slab)) is ∙ c.process-process.ensures.value) c.record_mut.ensures.value);
      },
    )
