use Rattle.std.proofs.Common.{rules}
use Rattle.inputs.proofs.ReadLemmas.{events_unread, handed_on, world_unread}
use Rattle.inputs.proofs.read_inputs.Goals as goal

pub returns-in_err-world-clause-reads : goal.returns-in_err-world-clause-reads
returns-in_err-world-clause-reads g c =
    let bytes = c.in_ok-world_text.world_text.items in
    let refused = rw c.as_slice.ensures.value at c.in_err-world.ensures in
    handed_on _ _ c.from_residual-in_err-world.result c.in_err-world.field-0.0 c.from_residual-in_err-world.ensures.1
    (world_unread _ _ bytes c.in_ok-event_text.event_text.items _ (search rules) refused)

pub returns-in_err-events-clause-reads : goal.returns-in_err-events-clause-reads
returns-in_err-events-clause-reads g c =
    let bytes = c.in_ok-world_text.world_text.items in
    let is = rw c.as_slice.ensures.value at c.in_ok-world.ensures in
    let refused = rw c.as_slice-2.ensures.value at c.in_err-events.ensures.events in
    handed_on _ _ c.from_residual-in_err-events.result c.in_err-events.field-0.0 c.from_residual-in_err-events.ensures.1
    (events_unread _ _ bytes c.in_ok-event_text.event_text.items c.in_ok-world.world _ (search rules) is refused)
