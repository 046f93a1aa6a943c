use Rattle.std.proofs.Common.{ap, ◌∙◌, true, length, filter}
use Rattle.std.specs.List.{list_any}
use Rattle.posix.specs.Common.{has_full_queue, queuers_among, number_of, sending, sending_granted}
use Rattle.life.specs.Callers.{process_like}
use Rattle.life.specs.Rechecks.{is_candidate, slots_of_survey}
use Rattle.life.proofs.QueueLemmas.{goes_on, room_none, sends_found, sends_more, standard_queuers}
use Rattle.life.proofs.machine.Machine.send.Goals as goal

pub send_from_pools-requires : goal.send_from_pools-requires
send_from_pools-requires g c =
    let none = standard_queuers (process_like c.args.me.now) c.args.target c.args.signal c.args.self.now.state.processes (c.realtime.ensures.none c.in-None.is) in
    record { room = room_none 0 _ none }

pub returns-in-None-clause-sending : goal.returns-in-None-clause-sending
unfolding sending_granted
returns-in-None-clause-sending g c =
    let r = process_like c.args.me.now in
    let rs = c.args.self.now.state.processes in
    let none = standard_queuers r c.args.target c.args.signal rs (c.realtime.ensures.none c.in-None.is) in
    (true, c.send_from_pools.ensures.sending ∙ goes_on (queuers_among r c.args.target (number_of c.args.signal) rs) (sending r c.args.target (number_of c.args.signal) rs) (ap (list_any has_full_queue) none))

pub returns-in-None-clause-changes : goal.returns-in-None-clause-changes
returns-in-None-clause-changes g c =
    let r = process_like c.args.me.now in
    let target = c.args.target in
    let old = c.args.self.now in
    sends_more (slots_of_survey (number_of c.args.signal) (length (filter (is_candidate r target) old.state.processes))) r target c.args.signal old _ _ (sends_found r target c.args.signal old _ _ c.send_from_pools.ensures.sending c.send_from_pools.ensures.changes)
