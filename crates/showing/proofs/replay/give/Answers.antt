use Rattle.std.proofs.Common.{refl}
use Rattle.showing.proofs.PastLemmas.{given_one, same_then}
use Rattle.showing.proofs.replay.give.Goals as goal

pub returns-then-any-clause-given : goal.returns-then-any-clause-given
returns-then-any-clause-given g c =
    let e = c.event-entries in
    given_one c.args.event c.args.replay.now.kernel c.acting-acting.new.self.kernel e.new.self e.new.self e.result.items (same_then c.before-2.ensures c.acting-acting.ensures) e.ensures.step e.ensures.events
    (record { state = refl; events = refl })

pub returns-in_err-note-clause-given : goal.returns-in_err-note-clause-given
returns-in_err-note-clause-given g c =
    let e = c.event-entries in
    given_one c.args.event c.args.replay.now.kernel c.acting-acting.new.self.kernel e.new.self c.note.new.self.kernel e.result.items (same_then c.before-2.ensures c.acting-acting.ensures) e.ensures.step e.ensures.events
    c.note.ensures

pub returns-clause-given : goal.returns-clause-given
returns-clause-given g c =
    let e = c.event-entries in
    given_one c.args.event c.args.replay.now.kernel c.acting-acting.new.self.kernel e.new.self c.after.new.replay.kernel e.result.items (same_then c.before-2.ensures c.acting-acting.ensures) e.ensures.step e.ensures.events
    (same_then c.note.ensures c.after.ensures)
