use Rattle.std.proofs.Common.{rules, refl, ◌∙◌, ap}
use Rattle.posix.specs.Common.{marked_as}
use Rattle.posix.proofs.RegularLemmas.{regular_change}
use Rattle.posix.proofs.TouchLemmas.{touches_unseen}
use Rattle.jobs.proofs.RunLemmas.{run_as, put_as, put_grouped}
use Rattle.life.specs.Machines.{MachineView}
use Rattle.life.specs.Rechecks.{rechecks}
use Rattle.life.proofs.FunnelLemmas.{machine_changed}
use Rattle.life.proofs.HeirLemmas.{keeps_marked, marked_numbers, marked_put, unseen_marked}
use Rattle.life.proofs.RecheckLemmas.{has_room, listed_change, pids_of, room_of}
use Rattle.life.proofs.SoundLemmas.{here_in}
use Rattle.life.proofs.ViewLemmas.{state_is}
use Rattle.life.proofs.machine.Machine.mark.Goals as goal

pub recheck_later-requires : goal.recheck_later-requires
recheck_later-requires g c = has_room _ _ c.self.invariant.sound.regular c.self.invariant.listed

pub change_seen-requires-clause-grouped : goal.change_seen-requires-clause-grouped
change_seen-requires-clause-grouped g c = put_grouped _ _ (put_as c.args.pid _ (marked_as c.args.mark) (λ r e. marked_put c.args.mark r) (λ b d r k q. search rules))

pub invariant_of-self : goal.invariant_of-self
invariant_of-self g c =
    let f = marked_as c.args.mark in
    let p = c.args.pid in
    let i = c.self.invariant in
    rw (run_as f c.change_seen.ensures.run i.sound.regular.rising (λ b d r k q. search rules))
    (machine_changed _ _ _ _ _ p f (marked_numbers c.args.mark) (regular_change p f _ (keeps_marked c.args.mark) i.sound.regular) i (room_of c.recheck_later.ensures)
    (listed_change _ p f _ _ i.listed (marked_numbers c.args.mark).pid (touches_unseen _ p f (unseen_marked c.args.mark)) (here_in p (state_is c.self.view_is) c.requires) (pids_of c.recheck_later.ensures) (room_of c.recheck_later.ensures)))

pub returns : goal.returns
returns g c = record {
  state = rw (run_as (marked_as c.args.mark) c.change_seen.ensures.run c.self.invariant.sound.regular.rising (λ b d r k q. search rules), ← c.self.view_is) refl;
  to_recheck = pids_of c.recheck_later.ensures ∙ ap (λ (m : MachineView). rechecks c.args.pid m) c.self.view_is;
  foregrounds_unchecked = search rules;
  costs = let put = c.change_seen.ensures.put (put_as c.args.pid _ (marked_as c.args.mark) (λ r e. marked_put c.args.mark r) (λ b d r k q. search rules)) in search rules;
}
