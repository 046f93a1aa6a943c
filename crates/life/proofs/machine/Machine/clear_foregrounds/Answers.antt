use Rattle.std.proofs.Common.{refl}
use Rattle.posix.specs.Common.{clear_foregrounds}
use Rattle.life.specs.Machines.{state_of}
use Rattle.posix.proofs.FreshLemmas.{fresh_cleared}
use Rattle.posix.proofs.ConsoleLemmas.{regular_cleared}
use Rattle.life.proofs.RecheckLemmas.{listed_cleared}
use Rattle.life.proofs.TerminalLemmas.{terminals_cleared}
use Rattle.life.proofs.machine.Machine.clear_foregrounds.Goals as goal

pub invariant_of-self : goal.invariant_of-self
unfolding clear_foregrounds
invariant_of-self g c =
    let i = c.self.invariant in
    let m = c.self.inside in
    rw (c.refresh_unchecked.ensures.consoles, c.refresh_unchecked.ensures.processes) (record {
      sound = record { regular = regular_cleared _ i.sound.regular; parents = i.sound.parents; counted = i.sound.counted; kept = i.sound.kept };
      listed = listed_cleared _ _ i.sound.regular i.listed;
      noted = i.noted;
      fresh = fresh_cleared (state_of m.world m.table.processes m.consoles.items m.pids m.order m.births m.ticks m.dropped m.halted);
      indexed = terminals_cleared _ _ _ i.indexed;
      within = i.within;
    })

pub returns-clause-state : goal.returns-clause-state
unfolding clear_foregrounds
returns-clause-state g c = rw (c.refresh_unchecked.ensures.consoles, c.refresh_unchecked.ensures.processes, ← c.self.view_is) refl
