use Rattle.std.proofs.Common.{◌≡◌, ◌≤◌, sym, ap, subst, ◌∙◌, Some}
use Rattle.std.specs.Option.{IfSome}
use Rattle.posix.specs.Common.{State, process, wakes}
use Rattle.pidset.specs.Indexes.{is_key}
use Rattle.pidset.specs.Rows.{HasRoom}
use Rattle.life.specs.Consoles.{reads}
use Rattle.life.proofs.RecheckLemmas.{listed_rechecked}
use Rattle.life.proofs.ReaderLemmas.{readable, reads_within, session_readable, watched_rechecked, within_marked}
use Rattle.life.proofs.SoundLemmas.{here_in}
use Rattle.life.specs.Machines.{IsNoted, state_of}
use Rattle.life.proofs.ViewLemmas.{state_is}
use Rattle.life.proofs.machine.Machine.finish_recheck.Goals as goal

pub put-requires-clause-pid : goal.put-requires-clause-pid
put-requires-clause-pid g c = readable _ c.args.pid c.self.invariant.sound.regular c.self.invariant.within (here_in c.args.pid (state_is c.self.view_is) c.requires.there)

pub put-requires-clause-list : goal.put-requires-clause-list
put-requires-clause-list g c =
    let session = c.requires.session ∙ ap (λ (s : State). reads s c.args.pid) (sym (state_is c.self.view_is)) in
    subst (λ o. IfSome o (λ n. (1 ≤ n) × HasRoom c.self.inside.readers.sizes n)) (sym session) (session_readable _ c.args.pid c.self.invariant.sound.regular c.self.invariant.within)

pub invariant_of-self : goal.invariant_of-self
invariant_of-self g c =
    let i = c.self.invariant in
    let m = c.self.inside in
    let s = state_of m.world m.table.processes m.consoles.items m.pids m.order m.births m.ticks m.dropped m.halted in
    let same = state_is c.self.view_is in
    let session = c.requires.session ∙ ap (λ (s : State). reads s c.args.pid) (sym same) in
    record {
      sound = i.sound;
      listed = listed_rechecked _ c.args.pid _ _ _ i.listed (λ r e. ap (λ (s : State). wakes s r) same ∙ c.requires.waits r (subst (λ (s : State). process s c.args.pid ≡ Some r) same e)) c.remove.ensures.pids c.remove.ensures.room
          (watched_rechecked _ c.args.pid _ _ _ i.listed.watched c.remove.ensures.pids session c.put.ensures.moved);
      noted = subst (λ n. IsNoted n c.self.inside.groups_at_risk) (sym c.remove.ensures.room) i.noted;
      fresh = i.fresh;
      indexed = i.indexed;
      within = within_marked c.args.pid _ c.put.ensures.moved c.put.ensures.sizes (λ k e. reads_within s c.args.pid k (sym (ap (is_key k) session) ∙ e)) i.within;
    }
