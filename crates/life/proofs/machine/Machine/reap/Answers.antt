use Rattle.std.proofs.lemmas.Option.{same_Some}
use Rattle.std.proofs.Common.{◌≡◌, option_map, Some, None, rules, subst, ◌∙◌, ap, sym, arith, refl, List, length}
use Rattle.posix.specs.Common.{Process, State, lookup, removed}
use Rattle.posix.proofs.RegularLemmas.{lookup_kept}
use Rattle.posix.proofs.TableLemmas.{length_removed}
use Rattle.proctable.specs.Records.{snapshot_of}
use Rattle.proctable.specs.declared.snapshot.Snapshot.{Snapshot}
use Rattle.life.specs.Machines.{IsNoted}
use Rattle.life.specs.Foregrounds.{AreFreshBut, also_in}
use Rattle.life.specs.Rechecks.{without_gone}
use Rattle.life.proofs.ForegroundLemmas.{fresh_but_one}
use Rattle.life.proofs.SoundLemmas.{found_in}
use Rattle.life.proofs.PartLemmas.{can_go, sound_gone, within_removed}
use Rattle.life.proofs.RecheckLemmas.{has_room, listed_removed, pids_of, room_of}
use Rattle.life.proofs.ReaderLemmas.{readable, listed_zombie, none_marked, within_marked}
use Rattle.life.proofs.ViewLemmas.{state_is}
use Rattle.life.proofs.machine.Machine.reap.Goals as goal

pub discard-snapshot-requires : goal.discard-snapshot-requires
discard-snapshot-requires g c =
    let it = c.requires.zombie in
    can_go _ _ _ c.args.pid it.0 c.self.invariant.sound (found_in _ _ (state_is c.self.view_is) c.args.pid it.0 it.1) it.2 c.requires.other

pub forget-requires : goal.forget-requires
forget-requires g c = has_room _ _ c.self.invariant.sound.regular c.self.invariant.listed

pub put-requires-clause-pid : goal.put-requires-clause-pid
put-requires-clause-pid g c = readable _ c.args.pid c.self.invariant.sound.regular c.self.invariant.within (let it = c.requires.zombie in rw (found_in _ _ (state_is c.self.view_is) c.args.pid it.0 it.1) refl)

pub invariant_of-self : goal.invariant_of-self
invariant_of-self g c =
    let it = c.requires.zombie in
    let found = found_in _ _ (state_is c.self.view_is) c.args.pid it.0 it.1 in
    let gone = c.discard-snapshot.ensures.counts it.0 found in
    let up = c.self.invariant.sound.parents c.args.pid it.0 c.requires.other found in
    let fields : c.discard-snapshot.result ≡ snapshot_of it.0 = same_Some _ _ (c.discard-snapshot.ensures.value ∙ ap (option_map snapshot_of) found) in
    let parent : c.discard-snapshot.result.parent ≡ it.0.parent = rw fields refl in
    let session : c.discard-snapshot.result.session ≡ it.0.session = rw fields refl in
    rw c.discard-snapshot.ensures.processes (record {
      sound = sound_gone _ _ _ _ c.args.pid _ _ it.0 c.self.invariant.sound found it.2 c.requires.other gone (omega arith);
      listed = listed_removed _ c.args.pid _ _ it.0 _ _ c.self.invariant.sound.regular (listed_zombie _ c.args.pid it.0 _ c.self.invariant.listed found it.2 c.put.ensures.moved) found up
          (pids_of c.forget.ensures ∙ ap (λ n. without_gone c.args.pid n c.self.inside.order.pids c.self.inside.to_recheck.pids) parent) (room_of c.forget.ensures) (none_marked c.args.pid _ _ c.put.ensures.moved);
      noted = subst (λ n. IsNoted n c.self.inside.groups_at_risk) (sym (room_of c.forget.ensures)) c.self.invariant.noted;
      fresh = subst (λ u. AreFreshBut u (removed c.args.pid c.self.inside.table.processes) c.self.inside.consoles.items) (sym (c.also_in-self-inside.ensures ∙ ap (λ g. also_in g c.self.inside.foregrounds_unchecked) session)) (fresh_but_one _ c.args.pid it.0 c.self.inside.table.processes (removed c.args.pid c.self.inside.table.processes) _ c.self.invariant.sound.regular.rising found (λ q r ne e. lookup_kept c.args.pid q _ ne ∙ e) c.self.invariant.fresh);
      indexed = c.self.invariant.indexed;
      within = within_removed c.args.pid _ (none_marked c.args.pid _ _ c.put.ensures.moved) (within_marked c.args.pid None c.put.ensures.moved c.put.ensures.sizes (λ k e. absurd (cc)) c.self.invariant.within);
    })

pub returns : goal.returns
returns g c =
    let it = c.requires.zombie in
    let found = found_in _ _ (state_is c.self.view_is) c.args.pid it.0 it.1 in
    let rs = c.self.inside.table.processes in
    let session = λ (r : Process) (e : lookup c.args.pid rs ≡ Some r). ap (λ (f : Snapshot). f.session) (same_Some _ (snapshot_of r) (c.discard-snapshot.ensures.value ∙ ap (option_map snapshot_of) e)) in
    let one = length_removed c.args.pid it.0 rs c.self.invariant.sound.regular.rising found in
    let left = ap (λ (l : List Process). length l) c.discard-snapshot.ensures.processes in
    let same = c.give_up_unborne_pages.ensures.same in
    record {
      changes = record { state = same.state ∙ rw (c.discard-snapshot.ensures.processes, (c.discard-snapshot.ensures.counts it.0 found).last, ← c.self.view_is) refl; to_recheck = search rules; costs = search rules };
      foregrounds_unchecked = λ r e. same.foregrounds_unchecked ∙ c.also_in-self-inside.ensures ∙ ap (λ g. also_in g c.self.inside.foregrounds_unchecked) (session r (found_in _ _ (state_is c.self.view_is) c.args.pid r e)) ∙ search rules;
      born = omega (arith, one, left, c.self.invariant.sound.counted, ap (λ (s : State). length s.processes) same.state, ap (λ (s : State). s.dropped) same.state, ap (λ (s : State). s.births) same.state);
    }
