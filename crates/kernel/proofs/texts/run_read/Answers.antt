use Rattle.posix.proofs.ResultLemmas.{on_ok}
use Rattle.kernel.proofs.HeadlineLemmas.{world_least, ok_holds}
use Rattle.kernel.proofs.texts.run_read.Goals as goal

pub returns-clause-headline : goal.returns-clause-headline
returns-clause-headline g c = λ world_bytes event_bytes world_is events_are.
    let booted = ok_holds c.boot.result c.map_err.result c.in_ok-kernel.kernel _ _ c.map_err.ensures.cases c.in_ok-kernel.was c.boot.ensures.state in
    let none = ok_holds c.boot.result c.map_err.result c.in_ok-kernel.kernel _ _ c.map_err.ensures.cases c.in_ok-kernel.was c.boot.ensures.events in
    c.run_kernel-done.ensures world_bytes event_bytes c.args.world.now world_is events_are booted none

pub returns-clause-least : goal.returns-clause-least
returns-clause-least g c =
    let booted = ok_holds c.boot.result c.map_err.result c.in_ok-kernel.kernel _ _ c.map_err.ensures.cases c.in_ok-kernel.was c.boot.ensures.state in
    let regular = ok_holds c.boot.result c.map_err.result c.in_ok-kernel.kernel _ _ c.map_err.ensures.cases c.in_ok-kernel.was c.boot.ensures.regular in
    on_ok c.run_kernel-done.result (world_least c.args.world.now c.in_ok-kernel.kernel.state booted regular)
