use Rattle.std.proofs.Common.{rules, ap, arith, refl, sym, subst, true, ◌<◌, ◌+◌, ◌∙◌, List, length}
use Rattle.posix.specs.Common.{Process, lookup, finished, child_of}
use Rattle.pidalloc.specs.Rows.{is_free_in}
use Rattle.pidset.specs.Numbers.{with_number}
use Rattle.pidset.specs.Rows.{HasRoom}
use Rattle.posix.proofs.ResultLemmas.{is_there}
use Rattle.jobs.proofs.ReadLemmas.{processes_of}
use Rattle.life.specs.Machines.{MachineView, IsNoted}
use Rattle.life.specs.Rechecks.{rechecking}
use Rattle.life.proofs.FunnelLemmas.{borne_of}
use Rattle.life.proofs.RecheckLemmas.{has_room, listed_born, listed_where, pids_of, room_of}
use Rattle.life.proofs.RoomLemmas.{machine_roomier, state_roomier, can_bear_all}
use Rattle.life.proofs.SoundLemmas.{found_in, next_is_new, room_to_bear, sound_born, within_inserted}
use Rattle.proctable.specs.Records.{process_of}
use Rattle.life.proofs.ForegroundLemmas.{fresh_still}
use Rattle.life.proofs.ViewLemmas.{state_is}
use Rattle.posix.proofs.FreshLemmas.{fresh_inserted}
use Rattle.life.proofs.machine.Machine.fork.Goals as goal

pub invariant_of-self-in_err-reserve-4 : goal.invariant_of-self-in_err-reserve-4
invariant_of-self-in_err-reserve-4 g c =
    let m = c.self.inside in
    machine_roomier c.self.invariant
    (state_roomier m.world m.table.processes c.reserve.new.self.processes m.consoles.items m.pids c.reserve-2.new.self m.order c.reserve-3.new.self m.births m.ticks m.dropped m.halted (processes_of c.in_ok-reserve.ensures.rest) c.in_ok-reserve-2.ensures.rest c.in_ok-reserve-3.ensures.pids)
    c.in_ok-reserve-2.ensures.rest c.in_ok-reserve-3.ensures.grows
    refl (omega arith) refl c.self.invariant.noted.room c.in_err-reserve-4.ensures.pairs c.in_err-reserve-4.ensures.grows

pub invariant_of-self-in_err-make_room : goal.invariant_of-self-in_err-make_room
invariant_of-self-in_err-make_room g c =
    let m = c.self.inside in
    machine_roomier c.self.invariant
    (state_roomier m.world m.table.processes c.reserve.new.self.processes m.consoles.items m.pids c.reserve-2.new.self m.order c.reserve-3.new.self m.births m.ticks m.dropped m.halted (processes_of c.in_ok-reserve.ensures.rest) c.in_ok-reserve-2.ensures.rest c.in_ok-reserve-3.ensures.pids)
    c.in_ok-reserve-2.ensures.rest c.in_ok-reserve-3.ensures.grows
    c.make_room.ensures.to_recheck c.make_room.ensures.grows c.make_room.ensures.groups_at_risk c.make_room.ensures.groups c.in_ok-reserve-4.ensures.pairs c.in_ok-reserve-4.ensures.grows

pub returns-in_err-make_room-clause-err : goal.returns-in_err-make_room-clause-err
returns-in_err-make_room-clause-err g c =
    let m = c.self.inside in
    let state = state_roomier m.world m.table.processes c.reserve.new.self.processes m.consoles.items m.pids c.reserve-2.new.self m.order c.reserve-3.new.self m.births m.ticks m.dropped m.halted (processes_of c.in_ok-reserve.ensures.rest) c.in_ok-reserve-2.ensures.rest c.in_ok-reserve-3.ensures.pids ∙ state_is c.self.view_is in
    let to_recheck = c.make_room.ensures.to_recheck ∙ ap (λ (m : MachineView). m.to_recheck) c.self.view_is in
    let groups_at_risk = c.make_room.ensures.groups_at_risk ∙ ap (λ (m : MachineView). m.groups_at_risk) c.self.view_is in
    let foregrounds_unchecked = ap (λ (m : MachineView). m.foregrounds_unchecked) c.self.view_is in
    let readers = c.in_ok-reserve-4.ensures.pairs ∙ ap (λ (m : MachineView). m.readers.pairs) c.self.view_is in
    search rules

pub invariant_of-self-in_err-fields : goal.invariant_of-self-in_err-fields
invariant_of-self-in_err-fields g c =
    let m = c.self.inside in
    machine_roomier c.self.invariant
    (state_roomier m.world m.table.processes c.newborn.new.self.processes m.consoles.items m.pids c.reserve-2.new.self m.order c.reserve-3.new.self m.births m.ticks m.dropped m.halted (c.newborn.ensures.looks.processes ∙ processes_of c.in_ok-reserve.ensures.rest) c.in_ok-reserve-2.ensures.rest c.in_ok-reserve-3.ensures.pids)
    c.in_ok-reserve-2.ensures.rest c.in_ok-reserve-3.ensures.grows
    c.make_room.ensures.to_recheck c.make_room.ensures.grows c.make_room.ensures.groups_at_risk c.make_room.ensures.groups c.in_ok-reserve-4.ensures.pairs c.in_ok-reserve-4.ensures.grows

pub returns-in_err-fields-clause-err : goal.returns-in_err-fields-clause-err
returns-in_err-fields-clause-err g c =
    let m = c.self.inside in
    let state = state_roomier m.world m.table.processes c.newborn.new.self.processes m.consoles.items m.pids c.reserve-2.new.self m.order c.reserve-3.new.self m.births m.ticks m.dropped m.halted (c.newborn.ensures.looks.processes ∙ processes_of c.in_ok-reserve.ensures.rest) c.in_ok-reserve-2.ensures.rest c.in_ok-reserve-3.ensures.pids ∙ state_is c.self.view_is in
    let to_recheck = c.make_room.ensures.to_recheck ∙ ap (λ (m : MachineView). m.to_recheck) c.self.view_is in
    let groups_at_risk = c.make_room.ensures.groups_at_risk ∙ ap (λ (m : MachineView). m.groups_at_risk) c.self.view_is in
    let foregrounds_unchecked = ap (λ (m : MachineView). m.foregrounds_unchecked) c.self.view_is in
    let readers = c.in_ok-reserve-4.ensures.pairs ∙ ap (λ (m : MachineView). m.readers.pairs) c.self.view_is in
    search rules

pub bear_all-requires : goal.bear_all-requires
bear_all-requires g c =
    let me = c.requires.parent in
    let found = found_in _ _ (state_is c.self.view_is) c.args.parent me.what me.found in
    let groups = c.in_ok-fields.ensures.groups me.what (ap (lookup c.args.parent) (processes_of c.in_ok-reserve.ensures.rest) ∙ found) in
    let bears = room_to_bear _ _ _ _ _ c.args.child c.args.parent _ _ (state_is c.self.view_is) (processes_of c.in_ok-reserve.ensures.rest) c.self.invariant.sound c.requires.child c.requires.parent c.in_ok-fields.ensures.groups in
    let new = next_is_new _ _ _ _ c.args.child (state_is c.self.view_is) c.self.invariant.sound c.requires.child in
    let up = borne_of _ _ _ c.self.invariant.sound c.args.parent me.what found in
    let can = can_bear_all _ _ c.args.child _ _ c.in_ok-reserve-2.ensures.rest c.in_ok-reserve-2.ensures.room new.greatest bears (ap (is_free_in c.self.inside.pids.rows) groups.0 ∙ up.group) (ap (is_free_in c.self.inside.pids.rows) groups.1 ∙ up.session) in
    record {
      pid_range = can.pid_range;
      group_range = can.group_range;
      session_range = can.session_range;
      pid_count = can.pid_count;
      group_count = can.group_count;
      session_count = can.session_count;
      room = can.room;
      group_borne = can.group_borne;
      session_borne = can.session_borne;
    }

pub insert-requires-clause-fresh : goal.insert-requires-clause-fresh
insert-requires-clause-fresh g c = ap (lookup c.args.child) (c.in_ok-fields.ensures.looks.processes ∙ processes_of c.in_ok-reserve.ensures.rest) ∙ (next_is_new _ _ _ _ c.args.child (state_is c.self.view_is) c.self.invariant.sound c.requires.child).fresh

pub insert-requires-clause-inside : goal.insert-requires-clause-inside
insert-requires-clause-inside g c = subst (λ sizes. HasRoom sizes c.args.child) (sym c.newborn.ensures.looks.sizes) c.in_ok-reserve.ensures.number

pub insert-requires-clause-number : goal.insert-requires-clause-number
insert-requires-clause-number g c = λ none. absurd (omega (arith, none, (next_is_new _ _ _ _ c.args.child (state_is c.self.view_is) c.self.invariant.sound c.requires.child).least))

pub recheck_later-requires : goal.recheck_later-requires
recheck_later-requires g c =
    let roomy = machine_roomier {now = c.reserve-2.new.self} {order = c.reserve-3.new.self} {m = c.make_room.new.to_recheck} {after = c.make_room.new.groups_at_risk} {sets = c.reserve-4.new.self} c.self.invariant refl c.in_ok-reserve-2.ensures.rest c.in_ok-reserve-3.ensures.grows c.make_room.ensures.to_recheck c.make_room.ensures.grows c.make_room.ensures.groups_at_risk c.make_room.ensures.groups c.in_ok-reserve-4.ensures.pairs c.in_ok-reserve-4.ensures.grows in
    has_room _ _ roomy.sound.regular roomy.listed

pub insert-requires-2 : goal.insert-requires-2
insert-requires-2 g c =
    let roomy = machine_roomier {now = c.reserve-2.new.self} {order = c.reserve-3.new.self} {m = c.make_room.new.to_recheck} {after = c.make_room.new.groups_at_risk} {sets = c.reserve-4.new.self} c.self.invariant refl c.in_ok-reserve-2.ensures.rest c.in_ok-reserve-3.ensures.grows c.make_room.ensures.to_recheck c.make_room.ensures.grows c.make_room.ensures.groups_at_risk c.make_room.ensures.groups c.in_ok-reserve-4.ensures.pairs c.in_ok-reserve-4.ensures.grows in
    let here = is_there _ c.requires.parent.what (found_in _ _ (state_is c.self.view_is) c.args.parent c.requires.parent.what c.requires.parent.found) in
    let listed = listed_where _ _ c.recheck_later.new.to_recheck c.args.parent true roomy.listed here (pids_of c.recheck_later.ensures ∙ ap (λ ns. rechecking c.args.parent ns c.make_room.new.to_recheck.pids) c.in_ok-reserve-3.ensures.pids) (room_of c.recheck_later.ensures) in
    record { room = λ out. has_room _ _ roomy.sound.regular listed }

pub invariant_of-self-2 : goal.invariant_of-self-2
unfolding child_of finished
invariant_of-self-2 g c =
    let m = c.self.inside in
    let me = c.requires.parent in
    let found = found_in _ _ (state_is c.self.view_is) c.args.parent me.what me.found in
    let still = ap (lookup c.args.parent) (processes_of c.in_ok-reserve.ensures.rest) ∙ found in
    let child = c.in_ok-fields.ensures.child me.what still c.args.child in
    let groups = c.in_ok-fields.ensures.groups me.what still in
    let same = state_roomier m.world m.table.processes m.table.processes m.consoles.items m.pids c.reserve-2.new.self m.order c.reserve-3.new.self m.births m.ticks m.dropped m.halted refl c.in_ok-reserve-2.ensures.rest c.in_ok-reserve-3.ensures.pids in
    let roomy = machine_roomier c.self.invariant same c.in_ok-reserve-2.ensures.rest c.in_ok-reserve-3.ensures.grows c.make_room.ensures.to_recheck c.make_room.ensures.grows c.make_room.ensures.groups_at_risk c.make_room.ensures.groups c.in_ok-reserve-4.ensures.pairs c.in_ok-reserve-4.ensures.grows in
    let new = next_is_new _ _ _ _ c.args.child (same ∙ state_is c.self.view_is) roomy.sound c.requires.child in
    let sound = sound_born _ _ _ _ _ _ _ _ _ _ _ me.what roomy.sound new found me.living groups.0 groups.1 (ap (λ (r : Process). r.life) child) (ap (λ (r : Process). r.alarm) child) c.bear_all.ensures.value c.bear_all.ensures.pidmax c.bear_all.ensures.kept c.in_ok-reserve-3.ensures.room in
    let count = c.len-count.ensures.value ∙ ap (λ (rs : List Process). length rs) (processes_of c.in_ok-reserve.ensures.rest) in
    let fits : length m.table.processes + 1 < c.make_room.new.to_recheck.room = omega (arith, count, c.in_ok-make_room.ensures.ok) in
    let listed = listed_born _ _ _ _ _ _ roomy.listed fits new.fresh (is_there _ me.what found) (c.insert-2.ensures.pids ∙ ap (with_number c.args.child) (pids_of c.recheck_later.ensures)) (c.insert-2.ensures.room ∙ room_of c.recheck_later.ensures) in
    let noted = subst (λ n. IsNoted n c.make_room.new.groups_at_risk) (sym (c.insert-2.ensures.room ∙ room_of c.recheck_later.ensures)) roomy.noted in
    rw (c.insert.ensures.processes, c.in_ok-fields.ensures.looks.processes, processes_of c.in_ok-reserve.ensures.rest)
    (record { sound = sound; listed = listed; noted = noted; fresh = fresh_still c.self.inside.foregrounds_unchecked _ _ _ (λ ds h. fresh_inserted (process_of c.args.child c.args.parent c.in_ok-fields.fields) _ ds h) roomy.fresh; indexed = roomy.indexed; within = within_inserted (process_of c.args.child c.args.parent c.in_ok-fields.fields) _ new.fresh (c.in_ok-reserve-4.ensures.room, subst (λ n. HasRoom c.reserve-4.new.self.sizes n) (sym groups.1) (roomy.within.room c.args.parent me.what found).1) roomy.within })
