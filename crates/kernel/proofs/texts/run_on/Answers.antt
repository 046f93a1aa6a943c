use Rattle.kernel.proofs.HeadlineLemmas.{answered, ok_holds, all_accounts}
use Rattle.kernel.proofs.texts.run_on.Goals as goal

pub returns-clause-headline : goal.returns-clause-headline
returns-clause-headline g c =
    let world_is = answered c.read_world.result _ c.map_err.result c.in_ok-world.world _ c.map_err.ensures.cases c.in_ok-world.was c.read_world.ensures in
    let events_are = answered c.read_events.result _ c.map_err-2.result c.in_ok-events.events _ c.map_err-2.ensures.cases c.in_ok-events.was c.read_events.ensures.answer in
    c.run_read-done.ensures.headline c.args.world.now c.args.events.now world_is (rw c.consoles.ensures.value at events_are)

pub returns-clause-accounts : goal.returns-clause-accounts
returns-clause-accounts g c =
    let world_is = answered c.read_world.result _ c.map_err.result c.in_ok-world.world _ c.map_err.ensures.cases c.in_ok-world.was c.read_world.ensures in
    let events_are = answered c.read_events.result _ c.map_err-2.result c.in_ok-events.events _ c.map_err-2.ensures.cases c.in_ok-events.was c.read_events.ensures.answer in
    let few = ok_holds c.read_events.result c.map_err-2.result c.in_ok-events.events _ _ c.map_err-2.ensures.cases c.in_ok-events.was c.read_events.ensures.within in
    all_accounts _ _ c.args.world.now c.args.events.now _ _ c.run_read-done.result c.in_ok-world.world c.in_ok-events.events world_is (rw c.consoles.ensures.value at events_are)
    c.run_read-done.ensures.least c.range_holds.ensures c.range_holds-2.ensures few (returns-clause-headline g c)
