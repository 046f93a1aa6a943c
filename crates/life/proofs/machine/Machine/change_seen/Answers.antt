use Rattle.posix.proofs.ResultLemmas.{mapped_is}
use Rattle.jobs.specs.Indexes.{record_seen, seen_of}
use Rattle.life.specs.Foregrounds.{also_in}
use Rattle.std.proofs.Common.{cond, ap, sym, ◌∙◌, subst, [], ◌∷◌, refl, rules}
use Rattle.posix.specs.Common.{State, lookup, parent_of}
use Rattle.pidset.specs.Numbers.{with_number}
use Rattle.proctable.specs.Records.{process_of}
use Rattle.jobs.proofs.KeptLemmas.{record_found}
use Rattle.life.specs.Machines.{MachineView}
use Rattle.life.specs.Rechecks.{with_numbers}
use Rattle.life.specs.Changes.{StaysRegular, StaysInSession}
use Rattle.life.proofs.SoundLemmas.{here_in}
use Rattle.life.proofs.ReaderLemmas.{readable}
use Rattle.life.proofs.RecheckLemmas.{has_room, room_after, pids_of, room_of}
use Rattle.life.proofs.FunnelLemmas.{not_moved, machine_shown, can_move_numbers, parent_there, there_record}
use Rattle.life.proofs.ViewLemmas.{state_is}
use Rattle.jobs.specs.IndexedTables.{StaysGrouped, StaysPut}
use Rattle.life.proofs.machine.Machine.change_seen.Goals as goal

pub recheck_with_parent-requires-clause-few : goal.recheck_with_parent-requires-clause-few
recheck_with_parent-requires-clause-few g c = has_room _ _ c.self.invariant.sound.regular c.self.invariant.listed

pub recheck_with_parent-requires-clause-fits : goal.recheck_with_parent-requires-clause-fits
unfolding with_numbers
recheck_with_parent-requires-clause-fits g c =
    room_after _ _ (record (c.self.inside.to_recheck) { pids = with_number c.args.pid c.self.inside.to_recheck.pids }) (c.args.pid ∷ []) c.self.invariant.sound.regular c.self.invariant.listed (here_in c.args.pid (state_is c.self.view_is) c.requires.there, tt) refl refl

pub put-requires-clause-pid : goal.put-requires-clause-pid
put-requires-clause-pid g c = readable _ c.args.pid c.self.invariant.sound.regular c.self.invariant.within (here_in c.args.pid (state_is c.self.view_is) c.requires.there)

pub move_numbers-requires : goal.move_numbers-requires
move_numbers-requires g c =
    let run = c.change_seen-parent.ensures.run in
    let stays = subst (λ (s : State). StaysRegular g.F.FnOnce c.args.change s c.args.pid) (sym (state_is c.self.view_is)) c.requires.regular in
    let before = mapped_is _ seen_of _ _ (sym c.change_seen-parent.ensures.before) run.found in
    let after = mapped_is _ seen_of _ _ (sym c.change_seen-parent.ensures.after) (ap (lookup c.args.pid) run.is ∙ record_found _ c.args.pid run.before run.after run.found) in
    let grouped = subst (λ (s : State). StaysGrouped g.F.FnOnce c.args.change s.processes c.args.pid) (sym (state_is c.self.view_is)) c.requires.grouped in
    let session = subst (λ (s : State). StaysInSession g.F.FnOnce c.args.change s.processes c.args.pid) (sym (state_is c.self.view_is)) c.requires.session in
    rw (before, after) (can_move_numbers _ _ _ c.self.invariant.sound c.args.pid run.before run.after run.found (stays c.self.invariant.sound.regular _ _ _ run.found run.ran) (grouped _ _ _ run.found run.ran) (session _ _ _ run.found run.ran))

pub invariant_of-self : goal.invariant_of-self
invariant_of-self g c =
    let run = c.change_seen-parent.ensures.run in
    let stays = subst (λ (s : State). StaysRegular g.F.FnOnce c.args.change s c.args.pid) (sym (state_is c.self.view_is)) c.requires.regular in
    let before = mapped_is _ seen_of _ _ (sym c.change_seen-parent.ensures.before) run.found in
    let after = mapped_is _ seen_of _ _ (sym c.change_seen-parent.ensures.after) (ap (lookup c.args.pid) run.is ∙ record_found _ c.args.pid run.before run.after run.found) in
    let moved = rw (before, after) at c.move_numbers.ensures.pids in
    let mark = rw (before, after) at c.move_numbers.ensures.foregrounds_unchecked in
    let session = subst (λ (s : State). StaysInSession g.F.FnOnce c.args.change s.processes c.args.pid) (sym (state_is c.self.view_is)) c.requires.session in
    machine_shown _ _ c.move_numbers.new.pids _ _ c.recheck_with_parent.new.to_recheck c.args.pid c.change_seen-parent.result.parent run.before run.after _ c.move_numbers.new.foregrounds_unchecked run.found run.is (stays c.self.invariant.sound.regular _ _ _ run.found run.ran) (session _ _ _ run.found run.ran) c.change_seen-parent.ensures.parent
    moved mark (sym c.move_numbers.ensures.last) c.self.invariant (pids_of c.recheck_with_parent.ensures) (room_of c.recheck_with_parent.ensures) c.put.ensures.moved c.put.ensures.sizes

pub returns-clause-there : goal.returns-clause-there
returns-clause-there g c = λ some.
    let run = c.change_seen-parent.ensures.run in
    let its = c.change_seen-parent.ensures.parent in
    let up = parent_there _ _ _ c.self.invariant.sound c.args.pid (process_of c.args.pid (parent_of c.args.pid c.self.inside.table.processes) run.before) run.found (λ e. some (its ∙ e)) in
    rw (its, run.is) (there_record c.self.inside.table.processes c.args.pid run.after _ up)

pub change_seen-parent-requires-clause-grouped : goal.change_seen-parent-requires-clause-grouped
change_seen-parent-requires-clause-grouped g c = subst (λ (s : State). StaysGrouped g.F.FnOnce c.args.change s.processes c.args.pid) (sym (state_is c.self.view_is)) c.requires.grouped

pub returns-clause-put : goal.returns-clause-put
returns-clause-put g c = λ h.
    let run = c.change_seen-parent.ensures.run in
    let stays = subst (λ (s : State). StaysPut g.F.FnOnce c.args.change s.processes c.args.pid) (sym (state_is c.self.view_is)) h in
    let put = c.change_seen-parent.ensures.put stays in
    let before = mapped_is _ seen_of _ _ (sym c.change_seen-parent.ensures.before) run.found in
    let after = mapped_is _ seen_of _ _ (sym c.change_seen-parent.ensures.after) (ap (lookup c.args.pid) run.is ∙ record_found _ c.args.pid run.before run.after run.found) in
    let mark = rw (before, after) at c.move_numbers.ensures.foregrounds_unchecked in
    (search rules, mark ∙ ap (λ b. cond b (also_in run.before.session c.self.inside.foregrounds_unchecked) c.self.inside.foregrounds_unchecked) (not_moved (record_seen run.before) (record_seen run.after) (stays _ _ _ run.found run.ran)) ∙ ap (λ (m : MachineView). m.foregrounds_unchecked) c.self.view_is)
