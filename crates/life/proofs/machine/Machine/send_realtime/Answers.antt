use Rattle.std.proofs.Common.{◌≡◌, ◌+◌, ◌*◌, ap, sym, ◌∙◌, arith, subst, true, false, filter, length, Option, Some}
use Rattle.std.specs.List.{list_any}
use Rattle.posix.specs.declared.process.PendingSignal.{PendingSignal}
use Rattle.posix.specs.Common.{State, has_full_queue, queuers_among, sending, sending_granted}
use Rattle.life.specs.Callers.{process_like}
use Rattle.life.specs.Machines.{Looks, MachineView}
use Rattle.life.specs.Queues.{HaveRoom, Sends, is_sent}
use Rattle.life.specs.Rechecks.{is_candidate, slots_of_send}
use Rattle.life.proofs.QueueLemmas.{full_refuses, goes_on, memory_refuses, sends_found, sends_looked, sends_none, surveyed}
use Rattle.life.proofs.machine.Machine.send_realtime.Goals as goal
use Rattle.life.proofs.machine.Machine.send_realtime.Goals.{then-reserve_pools, else-reserve_pools}

pub returns-then-survey-clause-sending : goal.returns-then-survey-clause-sending
unfolding sending_granted
returns-then-survey-clause-sending g c =
    let r = process_like c.args.me.now in
    let n = c.args.signal.sig in
    let rs = c.args.self.now.state.processes in
    let told = surveyed r c.args.target n rs c.survey-survey.result c.survey-survey.ensures.finds.value in
    (true, full_refuses (queuers_among r c.args.target (Some n) rs) (sending r c.args.target (Some n) rs) (sym told.0 ∙ c.if-survey.true))

pub send_from_pools-sending-requires : goal.send_from_pools-sending-requires
send_from_pools-sending-requires g c =
    let r = process_like c.args.me.now in
    let n = c.args.signal.sig in
    let rs = c.args.self.now.state.processes in
    let told = surveyed r c.args.target n rs c.survey-survey.result c.survey-survey.ensures.finds.value in
    let state : c.reserve_pools.new.self.state ≡ c.args.self.now.state = ap (λ (m : MachineView). m.state) (c.reserve_pools.ensures.same ∙ c.self.view_is) ∙ c.survey-survey.ensures.finds.looks.same.state in
    let enough = c.reserve_pools.ensures.enough c.if-reserve_pools.true in
    record {
      room =
          subst (λ (t : State). HaveRoom c.reserve_pools.new.granted_pools.pools (queuers_among r c.args.target (Some n) t.processes)) (sym state)
          (record { free = sym told.0 ∙ c.if-survey.false; enough = omega (arith, enough, told.1) });
    }

pub returns-clause-sending : goal.returns-clause-sending
unfolding sending_granted
returns-clause-sending g c =
    let r = process_like c.args.me.now in
    let n = c.args.signal.sig in
    let rs = c.args.self.now.state.processes in
    let qs = queuers_among r c.args.target (Some n) rs in
    let told = surveyed r c.args.target n rs c.survey-survey.result c.survey-survey.ensures.finds.value in
    let state : c.reserve_pools.new.self.state ≡ c.args.self.now.state = ap (λ (m : MachineView). m.state) (c.reserve_pools.ensures.same ∙ c.self.view_is) ∙ c.survey-survey.ensures.finds.looks.same.state in
    let free : list_any has_full_queue qs ≡ false = sym told.0 ∙ c.if-survey.false in
    elim c.if-reserve_pools.branch [
      | then-reserve_pools w ↦ (true, w.sending-is ∙ w.send_from_pools-sending.ensures.sending ∙ ap (λ (t : State). sending r c.args.target (Some n) t.processes) state ∙ goes_on qs (sending r c.args.target (Some n) rs) free)
      | else-reserve_pools w ↦ (false, w.sending-is ∙ memory_refuses qs (sending r c.args.target (Some n) rs) free (let some = c.reserve_pools.ensures.lack w.if-reserve_pools.false in omega (arith, some, told.1)))
    ]

pub returns-clause-changes : goal.returns-clause-changes
returns-clause-changes g c =
    let r = process_like c.args.me.now in
    let target = c.args.target in
    let k : Option PendingSignal = Some c.args.signal in
    let old = c.args.self.now in
    let mid = c.reserve_pools.new.self in
    let same : mid ≡ c.survey-survey.new.self = c.reserve_pools.ensures.same ∙ c.self.view_is in
    let looks : Looks (1 + 3 * length (filter (is_candidate r target) old.state.processes)) old mid = subst (Looks (1 + 3 * length (filter (is_candidate r target) old.state.processes)) old) (sym same) c.survey-survey.ensures.finds.looks in
    elim c.if-reserve_pools.branch [
      | then-reserve_pools w ↦
          let now = c.self-2.view_is ∙ w.self-is in
          let did = sends_found r target k mid w.send_from_pools-sending.new.self w.send_from_pools-sending.result w.send_from_pools-sending.ensures.sending w.send_from_pools-sending.ensures.changes in
          let all = sends_looked r target k old mid w.send_from_pools-sending.new.self w.send_from_pools-sending.result looks (subst (λ (t : State). Sends w.send_from_pools-sending.result r target k (1 + (2 + slots_of_send (Some c.args.signal.sig)) * length (filter (is_candidate r target) t.processes)) mid w.send_from_pools-sending.new.self) looks.same.state did) in
          subst (Sends c.if-reserve_pools.sending r target k _ old) (sym now) (subst (λ a. Sends a r target k _ old w.send_from_pools-sending.new.self) (sym w.sending-is) all)
      | else-reserve_pools w ↦
          let now = c.self-2.view_is ∙ w.self-is in
          subst (Sends c.if-reserve_pools.sending r target k _ old) (sym now) (sends_none (1 + (2 + slots_of_send (Some c.args.signal.sig)) * length (filter (is_candidate r target) old.state.processes)) r target k old mid c.if-reserve_pools.sending (ap is_sent w.sending-is) looks)
    ]
