use Rattle.std.proofs.Common.{arith, ◌≡◌, ◌∙◌, ap, sym, refl, subst, true, false, cond, pos, [], ◌∷◌, ◌++◌}
use Rattle.std.specs.Option.{IsSome}
use Rattle.posix.specs.declared.errno.Errno.TheVariants.{ECHILD, EINVAL}
use Rattle.posix.specs.declared.call.Call.{Call}
use Rattle.posix.specs.declared.entry.Entry.TheVariants.{Called}
use Rattle.posix.specs.Common.{call_of_wait, removed, State, process, change, has_place, Block, refusal, WNOHANG, has_option, news_told, wait_for, gives_nothing, results_of_nothing}
use Rattle.posix.specs.declared.process.Blocked.TheVariants as blocked
use Rattle.posix.specs.declared.process.Report.TheVariants as found
use Rattle.jobs.proofs.RunLemmas.{parent_is}
use Rattle.life.specs.Rechecks.{without_gone}
use Rattle.calls.proofs.BriefLemmas.{quiet_on, brief_on, brief_behind, brief_look, brief_more, brief_done, brief_reaped}
use Rattle.posix.proofs.OrderLemmas.{placed_some}
use Rattle.posix.proofs.RegularLemmas.{keeps_news_told, placed_least}
use Rattle.calls.specs.declared.outcome.Attempt.TheVariants as came
use Rattle.calls.specs.Outcomes.{Comes}
use Rattle.life.specs.Callers.{process_like}
use Rattle.life.specs.Machines.{MachineView}
use Rattle.calls.proofs.CallLemmas.{shows_is, wait_is, wait_finds}
use Rattle.posix.proofs.ReportLemmas.{reported, not_first, caller_stays, some_changed}
use Rattle.calls.proofs.waits.wait_as.Goals as goal
use Rattle.calls.proofs.waits.wait_as.Goals.{then-not-leaves, else-not-leaves, then-not-leaves-2, else-not-leaves-2}

pub returns-in_default-clause-comes : goal.returns-in_default-clause-comes
returns-in_default-clause-comes g c =
    let s = c.args.machine.now.state in
    let me = c.args.me.now in
    let call = c.args.call in
    let is = wait_is s (process_like me) call _ c.asked.ensures ∙ ap (wait_for s me.pid me.group call) c.in_default.is in
    let shown = c.refuse.ensures.shown ∙ ap (λ (k : Call). c.args.entries.now.items ++ Called me.pid k (refusal EINVAL) ∷ []) c.call.ensures in
    shows_is s s _ _ _ me.pid ((0, refusal EINVAL) ∷ []) (Called me.pid (call_of_wait call) (refusal EINVAL)) _ _ _ is c.refuse.ensures.done c.refuse.ensures.state refl shown

pub returns-in-NoChild-clause-comes : goal.returns-in-NoChild-clause-comes
returns-in-NoChild-clause-comes g c =
    let s = c.args.machine.now.state in
    let me = c.args.me.now in
    let call = c.args.call in
    let a = c.in-Some.asked in
    let is = wait_finds s (process_like me) call _ a _ (found.NoChild) c.asked.ensures c.in-Some.is c.wait_attempt.ensures.value c.in-NoChild.is in
    let r = c.refuse-in-NoChild in
    let shown = r.ensures.shown ∙ ap (λ (k : Call). c.args.entries.now.items ++ Called me.pid k (refusal ECHILD) ∷ []) c.call-in-NoChild.ensures in
    shows_is s s _ _ _ me.pid ((0, refusal ECHILD) ∷ []) (Called me.pid (call_of_wait call) (refusal ECHILD)) _ _ _ is r.ensures.done r.ensures.state c.wait_attempt.ensures.looks.same.state shown

pub returns-then-contains-clause-comes : goal.returns-then-contains-clause-comes
returns-then-contains-clause-comes g c =
    let s = c.args.machine.now.state in
    let me = c.args.me.now in
    let call = c.args.call in
    let a = c.in-Some.asked in
    let is = wait_finds s (process_like me) call _ a _ (found.Nothing) c.asked.ensures c.in-Some.is c.wait_attempt.ensures.value c.in-Nothing.is in
    let at_once : has_option a.options.0 WNOHANG ≡ true = sym {b = has_option a.options.0 WNOHANG} (c.contains.ensures tt) ∙ c.if-contains.true in
    let value = is ∙ ap (λ b. cond b (gives_nothing s me.pid call) (Block (blocked.Wait call))) at_once in
    shows_is s s _ _ _ me.pid (results_of_nothing call) (Called me.pid (call_of_wait call) (pos 0)) _ _ _ value c.find_nothing.ensures.done c.find_nothing.ensures.state c.wait_attempt.ensures.looks.same.state c.find_nothing.ensures.shown

pub returns-else-contains-clause-comes : goal.returns-else-contains-clause-comes
returns-else-contains-clause-comes g c =
    let s = c.args.machine.now.state in
    let me = c.args.me.now in
    let call = c.args.call in
    let a = c.in-Some.asked in
    let is = wait_finds s (process_like me) call _ a _ (found.Nothing) c.asked.ensures c.in-Some.is c.wait_attempt.ensures.value c.in-Nothing.is in
    let hangs : has_option a.options.0 WNOHANG ≡ false = sym {b = has_option a.options.0 WNOHANG} (c.contains.ensures tt) ∙ c.if-contains.false in
    let value = is ∙ ap (λ b. cond b (gives_nothing s me.pid call) (Block (blocked.Wait call))) hangs in
    subst (λ a. Comes s a (came.Block (blocked.Wait call)) c.args.entries.now.items c.args.entries.now.items c.wait_attempt.new.self.state) (sym value) (refl, refl, c.wait_attempt.ensures.looks.same.state)

pub reap-requires-clause-other : goal.reap-requires-clause-other
reap-requires-clause-other g c =
    let s = c.args.machine.now.state in
    let me = c.args.me.now in
    let child = reported s.processes c.requires.regular.rising me.pid me.group _ _ (found.End c.in-End.child c.in-End.status) c.in-End.child (sym c.wait_attempt.ensures.value ∙ c.in-End.is) refl in
    not_first s c.requires.regular me.pid c.in-End.child true (placed_least s c.requires.regular me.pid c.requires.placed) child

pub reap-requires-clause-zombie : goal.reap-requires-clause-zombie
reap-requires-clause-zombie g c =
    let s = c.args.machine.now.state in
    let me = c.args.me.now in
    let child = reported s.processes c.requires.regular.rising me.pid me.group _ _ (found.End c.in-End.child c.in-End.status) c.in-End.child (sym c.wait_attempt.ensures.value ∙ c.in-End.is) refl in
    (child.what, ap (λ (t : State). process t c.in-End.child) c.wait_attempt.ensures.looks.same.state ∙ child.found, child.dead)

pub report-requires-clause-there : goal.report-requires-clause-there
report-requires-clause-there g c =
    let s = c.args.machine.now.state in
    let me = c.args.me.now in
    let child = reported s.processes c.requires.regular.rising me.pid me.group _ _ (found.End c.in-End.child c.in-End.status) c.in-End.child (sym c.wait_attempt.ensures.value ∙ c.in-End.is) refl in
    let same = c.wait_attempt.ensures.looks.same.state in
    elim c.if-not-leaves.branch [
      | then-not-leaves w ↦
          let now = ap (λ (m : MachineView). m.state) w.machine-is ∙ w.reap.ensures.changes.state ∙ ap (λ (t : State). record t { processes = removed c.in-End.child t.processes }) same in
          subst (λ (t : State). IsSome (process t me.pid)) (sym now) (caller_stays s.processes me.pid c.in-End.child c.requires.placed child)
      | else-not-leaves w ↦ subst (λ (t : State). IsSome (process t me.pid)) (sym (ap (λ (m : MachineView). m.state) w.machine-is ∙ same)) (placed_some s.processes me.pid c.requires.placed)
    ]

pub clear_news-requires : goal.clear_news-requires
clear_news-requires g c =
    let s = c.args.machine.now.state in
    let me = c.args.me.now in
    let child = reported s.processes c.requires.regular.rising me.pid me.group _ _ (found.Change c.in-Change.child c.in-Change.status) c.in-Change.child (sym c.wait_attempt.ensures.value ∙ c.in-Change.is) refl in
    subst (λ (t : State). IsSome (process t c.in-Change.child)) (sym c.wait_attempt.ensures.looks.same.state) (subst IsSome (sym child.found) refl)

pub report-requires-in-Change-clause-there : goal.report-requires-in-Change-clause-there
report-requires-in-Change-clause-there g c =
    let s = c.args.machine.now.state in
    let me = c.args.me.now in
    let same = c.wait_attempt.ensures.looks.same.state in
    elim c.if-not-leaves-2.branch [
      | then-not-leaves-2 w ↦
          let now = ap (λ (m : MachineView). m.state) w.machine-is ∙ w.clear_news.ensures.state ∙ ap (λ (t : State). change t c.in-Change.child news_told) same in
          subst (λ (t : State). IsSome (process t me.pid)) (sym now) (some_changed c.in-Change.child me.pid news_told (keeps_news_told {now = 0}).pid s.processes (placed_some s.processes me.pid c.requires.placed))
      | else-not-leaves-2 w ↦ subst (λ (t : State). IsSome (process t me.pid)) (sym (ap (λ (m : MachineView). m.state) w.machine-is ∙ same)) (placed_some s.processes me.pid c.requires.placed)
    ]

pub returns-in_default-clause-brief : goal.returns-in_default-clause-brief
returns-in_default-clause-brief g c = λ quiet. brief_more 1 _ c.args.machine.now _ (omega arith) (brief_done c.args.me.now.pid _ c.args.machine.now _ quiet c.refuse.ensures.state c.refuse.ensures.costs)

pub returns-in-NoChild-clause-brief : goal.returns-in-NoChild-clause-brief
returns-in-NoChild-clause-brief g c = λ quiet.
    let looks = c.wait_attempt.ensures.looks in
    let r = c.refuse-in-NoChild in
    brief_on 1 _ _ c.args.machine.now c.wait_attempt.new.self _ looks.same looks.visits (omega arith) (brief_done c.args.me.now.pid _ c.wait_attempt.new.self _ (quiet_on _ c.args.machine.now _ looks.same quiet) r.ensures.state r.ensures.costs)

pub returns-then-contains-clause-brief : goal.returns-then-contains-clause-brief
returns-then-contains-clause-brief g c = λ quiet.
    let looks = c.wait_attempt.ensures.looks in
    brief_on 1 _ _ c.args.machine.now c.wait_attempt.new.self _ looks.same looks.visits (omega arith) (brief_done c.args.me.now.pid _ c.wait_attempt.new.self _ (quiet_on _ c.args.machine.now _ looks.same quiet) c.find_nothing.ensures.state c.find_nothing.ensures.costs)

pub returns-else-contains-clause-brief : goal.returns-else-contains-clause-brief
returns-else-contains-clause-brief g c = λ quiet.
    let looks = c.wait_attempt.ensures.looks in
    brief_more _ _ c.args.machine.now _ (omega arith) (brief_look c.args.me.now.pid _ c.args.machine.now _ quiet looks.same looks.visits)

pub returns-after-not-leaves-clause-brief : goal.returns-after-not-leaves-clause-brief
returns-after-not-leaves-clause-brief g c = λ quiet.
    let s = c.args.machine.now.state in
    let me = c.args.me.now in
    let looks = c.wait_attempt.ensures.looks in
    let mid = c.wait_attempt.new.self in
    let still = quiet_on me.pid c.args.machine.now mid looks.same quiet in
    let r = c.report in
    elim c.if-not-leaves.branch [
      | then-not-leaves w ↦
          let child = reported s.processes c.requires.regular.rising me.pid me.group _ _ (found.End c.in-End.child c.in-End.status) c.in-End.child (sym c.wait_attempt.ensures.value ∙ c.in-End.is) refl in
          let there_child = ap (λ (t : State). process t c.in-End.child) looks.same.state ∙ child.found in
          let parent = parent_is c.in-End.child _ mid.state.processes child.what refl there_child ∙ child.parent in
          let gone = w.reap.ensures in
          brief_on 4 _ _ c.args.machine.now mid _ looks.same looks.visits (omega arith)
          (brief_reaped me.pid c.in-End.child _ mid c.if-not-leaves.machine _ child.what (c.requires.regular.bounded c.in-End.child child.what child.found).session_least still (ap (λ (m : MachineView). m.state) w.machine-is ∙ gone.changes.state)
          (ap (λ (m : MachineView). m.to_recheck) w.machine-is ∙ gone.changes.to_recheck ∙ ap (λ p. without_gone c.in-End.child p mid.state.order mid.to_recheck) parent)
          (ap (λ (m : MachineView). m.foregrounds_unchecked) w.machine-is ∙ gone.foregrounds_unchecked child.what there_child) (rw w.machine-is gone.changes.costs.visits) r.ensures.state r.ensures.costs)
      | else-not-leaves w ↦ brief_on 1 _ _ c.args.machine.now mid _ looks.same looks.visits (omega arith) (rw (← w.machine-is) (brief_done me.pid _ c.if-not-leaves.machine _ (rw w.machine-is still) r.ensures.state r.ensures.costs))
    ]

pub returns-after-not-leaves-2-clause-brief : goal.returns-after-not-leaves-2-clause-brief
returns-after-not-leaves-2-clause-brief g c = λ quiet.
    let s = c.args.machine.now.state in
    let me = c.args.me.now in
    let looks = c.wait_attempt.ensures.looks in
    let mid = c.wait_attempt.new.self in
    let still = quiet_on me.pid c.args.machine.now mid looks.same quiet in
    let r = c.report-in-Change in
    elim c.if-not-leaves-2.branch [
      | then-not-leaves-2 w ↦
          let told = w.clear_news.ensures in
          brief_on 2 _ _ c.args.machine.now mid _ looks.same looks.visits (omega arith)
          (brief_behind 1 1 2 mid w.clear_news.new.self _ (ap (λ (t : State). t.consoles) told.state) told.costs.visits (omega arith)
          (rw (← w.machine-is) (brief_done me.pid _ c.if-not-leaves-2.machine _ (rw w.machine-is (record { none = told.to_recheck ∙ still.none; checked = told.foregrounds_unchecked ∙ still.checked; place = ap (λ (t : State). has_place t me.pid) told.state ∙ still.place })) r.ensures.state r.ensures.costs)))
      | else-not-leaves-2 w ↦ brief_on 1 _ _ c.args.machine.now mid _ looks.same looks.visits (omega arith) (rw (← w.machine-is) (brief_done me.pid _ c.if-not-leaves-2.machine _ (rw w.machine-is still) r.ensures.state r.ensures.costs))
    ]
