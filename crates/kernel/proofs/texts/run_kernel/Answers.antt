use Rattle.kernel.proofs.HeadlineLemmas.{traces, cuts_short}
use Rattle.kernel.proofs.texts.run_kernel.Goals as goal

pub returns-in-Ok : goal.returns-in-Ok
returns-in-Ok g c = λ world_bytes event_bytes world world_is events_are booted none.
    traces world_bytes event_bytes world c.args.events.now c.args.kernel.now c.write_trace.new.kernel _ _ c.in-Ok.ends c.summary.result
    world_is events_are booted none c.in-Ok.ensures.ok c.in-Ok.ensures.events c.summary.ensures.value

pub returns-in-Err : goal.returns-in-Err
returns-in-Err g c = λ world_bytes event_bytes world world_is events_are booted none.
    cuts_short world_bytes event_bytes world c.args.events.now c.args.kernel.now _ _ world_is events_are booted none c.in-Err.ensures.err
