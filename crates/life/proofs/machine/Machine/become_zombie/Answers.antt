use Rattle.std.proofs.Common.{rules, ◌∙◌, ◌≤◌, ◌+◌, length, subst, refl, sym, ◌∷◌, [], ap, arith}
use Rattle.posix.specs.Common.{changed, children_in, made_zombie, State, is_in}
use Rattle.life.specs.Machines.{state_of, IsNoted}
use Rattle.life.specs.Rechecks.{with_numbers}
use Rattle.posix.proofs.MapLemmas.{length_children}
use Rattle.posix.proofs.RegularLemmas.{heir_there}
use Rattle.posix.proofs.TableLemmas.{pid_looked, rising_changed}
use Rattle.jobs.proofs.RunLemmas.{run_as, parent_is, put_as, put_grouped}
use Rattle.life.proofs.EndLemmas.{keeps_made_zombie, there_after, zombie_after}
use Rattle.life.proofs.RecheckLemmas.{has_room, room_after, room_of, pids_of, listed_more, listed_where}
use Rattle.life.proofs.DepartureLemmas.{listed_left, deaf_parent, quiet_zombie}
use Rattle.life.proofs.SoundLemmas.{grows_same, here_in, heir_in, found_in, sound_departed, there_made_zombie, within_departed}
use Rattle.posix.proofs.ResultLemmas.{there}
use Rattle.life.proofs.ForegroundLemmas.{fresh_departed}
use Rattle.life.proofs.ViewLemmas.{state_is}
use Rattle.life.proofs.MoveLemmas.{zombie_put}
use Rattle.life.proofs.machine.Machine.become_zombie.Goals as goal

pub insert-requires : goal.insert-requires
insert-requires g c = record { room = λ out. has_room _ _ c.self.invariant.sound.regular c.self.invariant.listed }

pub is_awaited-awaited-requires : goal.is_awaited-awaited-requires
is_awaited-awaited-requires g c =
    let p = c.args.pid in
    let w = c.args.status in
    let i = c.self.invariant in
    let old = state_is c.self.view_is in
    let me = there _ (here_in p old c.requires.there) in
    let made = run_as (made_zombie w) c.change_seen-parent.ensures.run i.sound.regular.rising (λ b d r k q. search rules) in
    let up = parent_is p c.change_seen-parent.result.parent _ me.what c.change_seen-parent.ensures.parent me.found in
    record {
      there = rw (made, up) (there_made_zombie p w me.what.parent _ (i.sound.parents p me.what c.requires.other me.found));
      rising = rw made (rising_changed p (made_zombie w) (keeps_made_zombie w).pid _ i.sound.regular.rising);
    }

pub recheck_where-requires : goal.recheck_where-requires
unfolding with_numbers
recheck_where-requires g c = room_after _ _ c.insert.new.self (c.args.pid ∷ []) c.self.invariant.sound.regular c.self.invariant.listed (here_in c.args.pid (state_is c.self.view_is) c.requires.there, tt) c.insert.ensures.pids c.insert.ensures.room

pub recheck_where-requires-2 : goal.recheck_where-requires-2
unfolding with_numbers
recheck_where-requires-2 g c =
    let p = c.args.pid in
    let i = c.self.invariant in
    let old = state_is c.self.view_is in
    let me = there _ (here_in p old c.requires.there) in
    let up = parent_is p c.change_seen-parent.result.parent _ me.what c.change_seen-parent.ensures.parent me.found in
    let first = listed_more _ c.self.inside.to_recheck c.insert.new.self (p ∷ []) i.listed (here_in p old c.requires.there, tt) c.insert.ensures.pids c.insert.ensures.room in
    has_room _ _ i.sound.regular (listed_where _ c.insert.new.self c.recheck_where.new.to_recheck c.change_seen-parent.result.parent c.is_awaited-awaited.result first (rw up (i.sound.parents p me.what c.requires.other me.found)) (pids_of c.recheck_where.ensures) (room_of c.recheck_where.ensures))

pub adopt-requires-clause-there : goal.adopt-requires-clause-there
adopt-requires-clause-there g c =
    rw (c.is_awaited-awaited.ensures.same, run_as (made_zombie c.args.status) c.change_seen-parent.ensures.run c.self.invariant.sound.regular.rising (λ b d r k q. search rules))
    (there_made_zombie c.args.pid c.args.status c.args.heir _ (heir_there _ c.args.pid c.args.heir c.self.invariant.sound.regular (heir_in (state_is c.self.view_is) c.requires.heir)))

pub invariant_of-self : goal.invariant_of-self
unfolding with_numbers is_in
invariant_of-self g c =
    let m = c.self.inside in
    let i = c.self.invariant in
    let p = c.args.pid in
    let heir = c.args.heir in
    let old = state_is c.self.view_is in
    let s = state_of m.world m.table.processes m.consoles.items m.pids m.order m.births m.ticks m.dropped m.halted in
    let h = heir_in old c.requires.heir in
    let me = there _ c.requires.there in
    let found = found_in s _ old p me.what me.found in
    let parent = c.change_seen-parent.result.parent in
    let awaited = c.is_awaited-awaited.result in
    let told = c.is_some-told.result in
    let made = run_as (made_zombie c.args.status) c.change_seen-parent.ensures.run i.sound.regular.rising (λ b d r k q. search rules) in
    let up = parent_is p c.change_seen-parent.result.parent s.processes me.what c.change_seen-parent.ensures.parent found in
    let sound = sound_departed p heir c.args.status s m.pids m.order c.drop_place.new.self (omega (arith, pid_looked p s.processes me.what found, (i.sound.regular.bounded p me.what found).least)) c.requires.other h (grows_same c.drop_place.ensures.sizes) i.sound in
    let listed = listed_left s p heir c.args.status parent me.what m.to_recheck c.insert.new.self c.recheck_where.new.to_recheck c.recheck_where-2.new.to_recheck awaited told i.sound.regular i.listed found up
    (rw up (i.sound.parents p me.what c.requires.other found)) (heir_there s p heir i.sound.regular h) c.insert.ensures.pids c.insert.ensures.room c.recheck_where.ensures c.recheck_where-2.ensures
    (deaf_parent s p parent c.args.status me.what _ c.change_seen-parent.result.after awaited found up made c.change_seen-parent.ensures.after c.is_awaited-awaited.ensures.value)
    (λ e. quiet_zombie s p c.args.status c.is_awaited-awaited.new.table.processes c.next_wanted.result i.sound.regular (c.is_awaited-awaited.ensures.same ∙ made) c.next_wanted.ensures (sym c.is_some-told.ensures ∙ e)) in
    rw (c.adopt.ensures.processes, c.is_awaited-awaited.ensures.same, made, c.drop_place.ensures.pids) record { sound = search rules; listed = listed; noted = subst (λ n. IsNoted n m.groups_at_risk) (sym (room_of c.recheck_where-2.ensures ∙ room_of c.recheck_where.ensures ∙ c.insert.ensures.room)) i.noted; fresh = fresh_departed m.foregrounds_unchecked p heir c.args.status m.table.processes m.consoles.items i.fresh; indexed = i.indexed; within = within_departed p heir c.args.status _ i.within }

pub returns : goal.returns
returns g c =
    let m = c.self.inside in
    let p = c.args.pid in
    let w = c.args.status in
    let s = state_of m.world m.table.processes m.consoles.items m.pids m.order m.births m.ticks m.dropped m.halted in
    let old = state_is c.self.view_is in
    let rs = c.args.self.now.state.processes in
    let run = run_as (made_zombie w) c.change_seen-parent.ensures.run c.self.invariant.sound.regular.rising (λ b d r k q. search rules) in
    let me = there _ (here_in {s = s} p old c.requires.there) in
    let adopts = subst (λ ts. c.adopt.new.self.visits ≤ c.is_awaited-awaited.new.table.visits + (1 + length (children_in p ts))) (c.is_awaited-awaited.ensures.same ∙ run ∙ ap (λ (s : State). changed p (made_zombie w) s.processes) old) c.adopt.ensures.costs.visits in
    let mine = length_children p (made_zombie w) (keeps_made_zombie w).parent p rs in
    let put = c.change_seen-parent.ensures.put (put_as p _ (made_zombie w) (λ r e. zombie_put w r) (λ b d r k q. search rules)) in
    record {
      state = rw (c.adopt.ensures.processes, c.is_awaited-awaited.ensures.same, run, c.drop_place.ensures.pids, ← c.self.view_is) refl;
      is = λ me e. parent_is p c.change_seen-parent.result.parent _ me c.change_seen-parent.ensures.parent (found_in _ _ old p me e);
      parent = λ me e. rw (c.adopt.ensures.processes, c.is_awaited-awaited.ensures.same, run) (there_after s p c.args.heir w me.parent (c.self.invariant.sound.parents p me c.requires.other (found_in s _ old p me e)));
      zombie = rw (c.adopt.ensures.processes, c.is_awaited-awaited.ensures.same, run) (zombie_after s p c.args.heir w me.what me.found);
      costs = search (rules, arith);
    }

pub change_seen-parent-requires-clause-grouped : goal.change_seen-parent-requires-clause-grouped
change_seen-parent-requires-clause-grouped g c = put_grouped _ _ (put_as c.args.pid _ (made_zombie c.args.status) (λ r e. zombie_put c.args.status r) (λ b d r k q. search rules))
