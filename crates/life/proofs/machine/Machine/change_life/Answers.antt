use Rattle.std.proofs.Common.{◌∙◌, arith, refl, rules, sym, [], ◌∷◌}
use Rattle.std.proofs.Math.Nat.{le_trans}
use Rattle.posix.proofs.TableLemmas.{rising_changed}
use Rattle.life.specs.Changes.{lives}
use Rattle.life.specs.Rechecks.{with_numbers}
use Rattle.life.proofs.FunnelLemmas.{has_lived, lived_put, machine_told, told_changes, told_nobody, told_parent, told_there}
use Rattle.life.proofs.RecheckLemmas.{has_room, pids_of, room_after, room_of}
use Rattle.life.proofs.SoundLemmas.{here_in}
use Rattle.life.proofs.ViewLemmas.{state_is}
use Rattle.life.proofs.machine.Machine.change_life.Goals as goal

pub insert-requires : goal.insert-requires
insert-requires g c = record { room = λ e. has_room _ _ c.self.invariant.sound.regular c.self.invariant.listed }

pub notice-acts-requires-clause-there : goal.notice-acts-requires-clause-there
notice-acts-requires-clause-there g c =
    let did = c.change_seen-parent.ensures in
    told_there c.self.invariant.sound (has_lived _ _ c.args.pid _ c.args.life c.args.news (state_is c.self.view_is) c.self.invariant.sound.regular c.requires.there did.run (λ b d r k q. search rules) did.parent) (sym c.ne.ensures ∙ c.if-ne.true)

pub notice-acts-requires-clause-rising : goal.notice-acts-requires-clause-rising
notice-acts-requires-clause-rising g c =
    let did = c.change_seen-parent.ensures in
    rw (has_lived _ _ c.args.pid _ c.args.life c.args.news (state_is c.self.view_is) c.self.invariant.sound.regular c.requires.there did.run (λ b d r k q. search rules) did.parent).is
    (rising_changed c.args.pid (lives c.args.life c.args.news) (λ r. refl) _ c.self.invariant.sound.regular.rising)

pub recheck_where-requires : goal.recheck_where-requires
unfolding with_numbers
recheck_where-requires g c =
    room_after _ _ c.insert.new.self (c.args.pid ∷ []) c.self.invariant.sound.regular c.self.invariant.listed (here_in c.args.pid (state_is c.self.view_is) (rw c.requires.there.found refl), tt) c.insert.ensures.pids c.insert.ensures.room

pub invariant_of-self : goal.invariant_of-self
invariant_of-self g c =
    let did = c.change_seen-parent.ensures in
    let k = has_lived _ _ c.args.pid _ c.args.life c.args.news (state_is c.self.view_is) c.self.invariant.sound.regular c.requires.there did.run (λ b d r k q. search rules) did.parent in
    machine_told k c.requires.living c.self.invariant
    (told_parent c.self.invariant.sound k (sym c.ne.ensures ∙ c.if-ne.true) c.notice-acts.ensures.processes did.after c.notice-acts.ensures.acts c.insert.ensures.pids (pids_of c.recheck_where.ensures)) (room_of c.recheck_where.ensures ∙ c.insert.ensures.room)

pub invariant_of-self-else-ne : goal.invariant_of-self-else-ne
invariant_of-self-else-ne g c =
    let did = c.change_seen-parent.ensures in
    let k = has_lived _ _ c.args.pid _ c.args.life c.args.news (state_is c.self.view_is) c.self.invariant.sound.regular c.requires.there did.run (λ b d r k q. search rules) did.parent in
    machine_told {w = c.args.status} k c.requires.living c.self.invariant (told_nobody c.self.invariant.sound.regular k (sym c.ne.ensures ∙ c.if-ne.false) c.insert.ensures.pids) c.insert.ensures.room

pub returns-then-ne : goal.returns-then-ne
returns-then-ne g c =
    let did = c.change_seen-parent.ensures in
    let k = has_lived _ _ c.args.pid _ c.args.life c.args.news (state_is c.self.view_is) c.self.invariant.sound.regular c.requires.there did.run (λ b d r k q. search rules) did.parent in
    let put = did.put (lived_put k c.requires.living (λ b d r k q. search rules)) in
    told_changes c.self.view_is k
    (told_parent c.self.invariant.sound k (sym c.ne.ensures ∙ c.if-ne.true) c.notice-acts.ensures.processes did.after c.notice-acts.ensures.acts c.insert.ensures.pids (pids_of c.recheck_where.ensures)) refl refl refl
    (record { visits = omega (arith, put.visits, c.notice-acts.ensures.costs.visits); no_fewer = le_trans put.no_fewer c.notice-acts.ensures.costs.no_fewer; groups_at_risk = refl; regular = c.self.invariant.sound.regular })

pub returns-else-ne : goal.returns-else-ne
returns-else-ne g c =
    let did = c.change_seen-parent.ensures in
    let k = has_lived _ _ c.args.pid _ c.args.life c.args.news (state_is c.self.view_is) c.self.invariant.sound.regular c.requires.there did.run (λ b d r k q. search rules) did.parent in
    let put = did.put (lived_put k c.requires.living (λ b d r k q. search rules)) in
    told_changes c.self.view_is k (told_nobody c.self.invariant.sound.regular k (sym c.ne.ensures ∙ c.if-ne.false) c.insert.ensures.pids) refl refl refl
    (record { visits = omega (arith, put.visits); no_fewer = put.no_fewer; groups_at_risk = refl; regular = c.self.invariant.sound.regular })
