use Rattle.std.proofs.Common.{◌≡◌, sym, subst, true, ◌∷◌, [], None}
use Rattle.pidset.specs.Indexes.{is_pair_in}
use Rattle.life.specs.Machines.{MachineView, IsNoted}
use Rattle.life.specs.Rechecks.{with_numbers}
use Rattle.life.proofs.RecheckLemmas.{has_room, listed_more}
use Rattle.life.proofs.ReaderLemmas.{readable, reader_there, watched_forgotten, within_marked}
use Rattle.life.proofs.machine.Machine.recheck_reader.Goals as goal

pub insert-requires : goal.insert-requires
insert-requires g c = record { room = λ out. has_room _ _ c.self.invariant.sound.regular c.self.invariant.listed }

pub put-requires-clause-pid : goal.put-requires-clause-pid
put-requires-clause-pid g c =
    let on = subst (λ (m : MachineView). is_pair_in c.args.session c.args.pid m.readers.pairs ≡ true) (sym c.self.view_is) c.requires in
    readable _ c.args.pid c.self.invariant.sound.regular c.self.invariant.within (reader_there _ _ c.args.session c.args.pid c.self.invariant.listed on)

pub invariant_of-self : goal.invariant_of-self
unfolding with_numbers
invariant_of-self g c =
    let i = c.self.invariant in
    let on = subst (λ (m : MachineView). is_pair_in c.args.session c.args.pid m.readers.pairs ≡ true) (sym c.self.view_is) c.requires in
    let l = listed_more _ _ _ (c.args.pid ∷ []) i.listed (reader_there _ _ c.args.session c.args.pid i.listed on, tt) c.insert.ensures.pids c.insert.ensures.room in
    record {
      sound = i.sound;
      listed = record { covers = l.covers; rising = l.rising; there = l.there; room = l.room; watched = watched_forgotten _ c.args.pid _ _ i.listed.watched c.insert.ensures.pids c.put.ensures.moved };
      noted = subst (λ n. IsNoted n c.self.inside.groups_at_risk) (sym c.insert.ensures.room) i.noted;
      fresh = i.fresh;
      indexed = i.indexed;
      within = within_marked c.args.pid None c.put.ensures.moved c.put.ensures.sizes (λ k e. absurd (cc)) i.within;
    }
