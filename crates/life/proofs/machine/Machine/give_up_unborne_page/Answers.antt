use Rattle.std.proofs.Common.{ap, sym, ◌∙◌, subst}
use Rattle.posix.proofs.TableLemmas.{pid_looked}
use Rattle.pidset.specs.Lists.{ListsView}
use Rattle.pidset.specs.Rows.{IsOnAnotherPage, sizes_without}
use Rattle.pidalloc.specs.Places.{Places}
use Rattle.jobs.proofs.ReadLemmas.{processes_of}
use Rattle.life.specs.Machines.{MachineView}
use Rattle.life.proofs.PageLemmas.{apart, machine_left, same_rows}
use Rattle.life.proofs.RoomLemmas.{state_roomier}
use Rattle.life.proofs.ViewLemmas.{state_is}
use Rattle.life.proofs.machine.Machine.give_up_unborne_page.Goals as goal

pub give_up_page-requires-clause-order : goal.give_up_page-requires-clause-order
give_up_page-requires-clause-order g c = λ p on. let it = c.self.invariant.sound.regular.placed p on in (apart c.args.pid c.self.invariant.sound (c.can_give_up_page.ensures.free c.if-can_give_up_page.true) p it.what it.found).0

pub give_up_page-requires-clause-table : goal.give_up_page-requires-clause-table
give_up_page-requires-clause-table g c = λ p r e.
    let off = apart c.args.pid c.self.invariant.sound (c.can_give_up_page.ensures.free c.if-can_give_up_page.true) p r e in
    (subst (λ n. IsOnAnotherPage n c.args.pid) (sym (pid_looked p _ r e)) off.0, off.1)

pub give_up_page-requires-clause-readers : goal.give_up_page-requires-clause-readers
give_up_page-requires-clause-readers g c = λ k p on.
    let it = c.self.invariant.within.own k p on in
    let off = apart c.args.pid c.self.invariant.sound (c.can_give_up_page.ensures.free c.if-can_give_up_page.true) p it.0 it.1 in
    (subst (λ n. IsOnAnotherPage n c.args.pid) it.2 off.2, off.0)

pub give_up_page-requires-clause-pids : goal.give_up_page-requires-clause-pids
give_up_page-requires-clause-pids g c = c.can_give_up_page.ensures.free c.if-can_give_up_page.true

pub invariant_of-self : goal.invariant_of-self
invariant_of-self g c =
    let m = c.self.inside in
    machine_left c.args.pid c.self.invariant (c.can_give_up_page.ensures.free c.if-can_give_up_page.true)
    (state_roomier m.world m.table.processes c.give_up_page.new.table.processes m.consoles.items m.pids c.give_up_page.new.pids m.order c.give_up_page.new.order m.births m.ticks m.dropped m.halted (processes_of c.give_up_page.ensures.table) (same_rows m.pids c.give_up_page.new.pids (sizes_without m.pids.sizes c.args.pid) c.give_up_page.ensures.pids) (ap (λ (o : Places). o.pids) c.give_up_page.ensures.order))
    (same_rows m.pids c.give_up_page.new.pids (sizes_without m.pids.sizes c.args.pid) c.give_up_page.ensures.pids) (ap (λ (o : Places). o.sizes) c.give_up_page.ensures.order) c.give_up_page.ensures.readers

pub returns-then-can_give_up_page-clause-same : goal.returns-then-can_give_up_page-clause-same
returns-then-can_give_up_page-clause-same g c =
    let m = c.self.inside in
    let state = state_roomier m.world m.table.processes c.give_up_page.new.table.processes m.consoles.items m.pids c.give_up_page.new.pids m.order c.give_up_page.new.order m.births m.ticks m.dropped m.halted (processes_of c.give_up_page.ensures.table) (same_rows m.pids c.give_up_page.new.pids (sizes_without m.pids.sizes c.args.pid) c.give_up_page.ensures.pids) (ap (λ (o : Places). o.pids) c.give_up_page.ensures.order) ∙ state_is c.self.view_is in
    record {
      state = state;
      to_recheck = ap (λ (m : MachineView). m.to_recheck) c.self.view_is;
      groups_at_risk = ap (λ (m : MachineView). m.groups_at_risk) c.self.view_is;
      foregrounds_unchecked = ap (λ (m : MachineView). m.foregrounds_unchecked) c.self.view_is;
      readers = ap (λ (v : ListsView). v.pairs) c.give_up_page.ensures.readers ∙ ap (λ (m : MachineView). m.readers.pairs) c.self.view_is;
    }
