use Rattle.std.proofs.Common.{refl, replicate}
use Rattle.std.specs.String.{string_bytes}
use Rattle.posix.specs.declared.event.Event.TheVariants.{Step, Tick, Hangup}
use Rattle.schedules.proofs.AddLemmas.{ended_put}
use Rattle.schedules.proofs.eventtext.put_many.Goals as goal

pub returns-in_ok-end_keys-in-Step : goal.returns-in_ok-end_keys-in-Step
returns-in_ok-end_keys-in-Step c =
    let ended = c.in_ok-end_keys-in-Step.ensures in
    rw c.in-Step.is
    (ended_put c.write_counted.result _ (string_bytes c.end_keys.new.text) _ _ (replicate c.args.count Step) c.end_keys.new.keys.console c.end_keys.new.keys.bytes.items ended.adds ended.none (c.write_counted.ensures Step refl))

pub returns-in_ok-end_keys-in-Tick : goal.returns-in_ok-end_keys-in-Tick
returns-in_ok-end_keys-in-Tick c =
    let ended = c.in_ok-end_keys-in-Tick.ensures in
    rw c.in-Tick.is
    (ended_put c.write_counted-in-Tick.result _ (string_bytes c.end_keys-in-Tick.new.text) _ _ (replicate c.args.count Tick) c.end_keys-in-Tick.new.keys.console c.end_keys-in-Tick.new.keys.bytes.items ended.adds ended.none (c.write_counted-in-Tick.ensures Tick refl))

pub returns-in_ok-end_keys-in-Hangup : goal.returns-in_ok-end_keys-in-Hangup
returns-in_ok-end_keys-in-Hangup c =
    let ended = c.in_ok-end_keys-in-Hangup.ensures in
    rw c.in-Hangup.is
    (ended_put c.write_hangups.result _ (string_bytes c.end_keys-in-Hangup.new.text) _ _ (replicate c.args.count (Hangup c.in-Hangup.console)) c.end_keys-in-Hangup.new.keys.console c.end_keys-in-Hangup.new.keys.bytes.items ended.adds ended.none c.write_hangups.ensures)
