use Rattle.std.proofs.Common.{subst, ◌≡◌, ◌≢◌, ◌∙◌, ap, sym, true, Some, None, List, ◌++◌}
use Rattle.posix.specs.declared.entry.Entry.{Entry}
use Rattle.posix.specs.Common.{KILL, killed, chosen, end_process}
use Rattle.posix.proofs.ResultLemmas.{mapped_is}
use Rattle.proctable.specs.declared.snapshot.Snapshot.{Snapshot}
use Rattle.proctable.specs.Records.{snapshot_of}
use Rattle.calls.proofs.CallLemmas.{same_outcome}
use Rattle.calls.proofs.ChosenLemmas.{act_killed, act_blocked, act_delivers, act_runs, kill_chosen, no_kill_chosen, chosen_is, chosen_not}
use Rattle.std.specs.Option.{IfSome}
use Rattle.calls.specs.Outcomes.{CostsWithRechecks}
use Rattle.kernel.specs.Counts.{slots_of_acting}
use Rattle.kernel.proofs.CountLemmas.{acting_blocked}
use Rattle.kernel.proofs.step.act.Goals as goal

pub returns-then-eq-clause-acts : goal.returns-then-eq-clause-acts
returns-then-eq-clause-acts g c = λ me e.
    let s = c.args.machine.now.state in
    let is = mapped_is _ snapshot_of me c.args.snapshot c.requires.snapshot e in
    let takes : chosen me.life me.signals ≡ Some KILL = ap (λ (f : Snapshot). f.chosen) (sym is) ∙ chosen_is c.args.snapshot.chosen KILL (sym c.eq.ensures ∙ c.if-eq.true) in (
      true,
      act_killed true s me (kill_chosen me.life me.signals takes)
          ∙ same_outcome (end_process s me (killed KILL)).state c.end.new.machine.state (end_process s me (killed KILL)).entries c.end.new.entries.items
          (sym (c.end.ensures.state me e ∙ ap (λ w. (end_process s me w).state) c.killed.ensures))
          (sym (c.end.ensures.entries me e ∙ ap (λ (l : List Entry). l ++ (end_process s me c.killed.result).entries) c.requires.none ∙ ap (λ w. (end_process s me w).entries) c.killed.ensures)),
    )

pub returns-in-Some-clause-acts : goal.returns-in-Some-clause-acts
returns-in-Some-clause-acts g c = λ me e.
    let s = c.args.machine.now.state in
    let is = mapped_is _ snapshot_of me c.args.snapshot c.requires.snapshot e in
    let other : chosen me.life me.signals ≢ Some KILL = λ k. chosen_not c.args.snapshot.chosen KILL (sym c.eq.ensures ∙ c.if-eq.false) (ap (λ (f : Snapshot). f.chosen) is ∙ k) in
    let in_call : me.blocked ≡ Some c.in-Some.blocked = ap (λ (f : Snapshot). f.blocked) (sym is) ∙ c.in-Some.is in
    (true, act_blocked true s me c.in-Some.blocked (no_kill_chosen me.life me.signals other) in_call ∙ c.go_on.ensures.goes_on me e)

pub returns-in-Some-chosen-clause-acts : goal.returns-in-Some-chosen-clause-acts
returns-in-Some-chosen-clause-acts g c = λ me e.
    let s = c.args.machine.now.state in
    let is = mapped_is _ snapshot_of me c.args.snapshot c.requires.snapshot e in
    let other : chosen me.life me.signals ≢ Some KILL = λ k. chosen_not c.args.snapshot.chosen KILL (sym c.eq.ensures ∙ c.if-eq.false) (ap (λ (f : Snapshot). f.chosen) is ∙ k) in
    let free : me.blocked ≡ None = ap (λ (f : Snapshot). f.blocked) (sym is) ∙ c.in_default.is in
    let takes : chosen me.life me.signals ≡ Some c.in-Some-chosen.sig = ap (λ (f : Snapshot). f.chosen) (sym is) ∙ c.in-Some-chosen.is in
    (true, act_delivers true s me c.in-Some-chosen.sig (no_kill_chosen me.life me.signals other) free takes ∙ c.deliver.ensures.state me e)

pub returns-in-None-clause-acts : goal.returns-in-None-clause-acts
returns-in-None-clause-acts g c = λ me e.
    let is = mapped_is _ snapshot_of me c.args.snapshot c.requires.snapshot e in
    let ran = c.run_instruction.ensures.runs me e in
    (ran.0, act_runs ran.0 c.args.machine.now.state me (ap (λ (f : Snapshot). f.blocked) (sym is) ∙ c.in_default.is) (ap (λ (f : Snapshot). f.chosen) (sym is) ∙ c.in-None.is) ∙ ran.1)

pub returns-in-Some-clause-brief : goal.returns-in-Some-clause-brief
returns-in-Some-clause-brief g c = λ me e quiet.
    let old = c.args.machine.now in
    let is = mapped_is _ snapshot_of me c.args.snapshot c.requires.snapshot e in
    let in_call : me.blocked ≡ Some c.in-Some.blocked = ap (λ (f : Snapshot). f.blocked) (sym is) ∙ c.in-Some.is in
    subst (λ b. IfSome (slots_of_acting old.state me b) (λ n. CostsWithRechecks n old c.go_on.new.machine)) (sym in_call)
    (acting_blocked old.state me c.in-Some.blocked (λ n. CostsWithRechecks n old c.go_on.new.machine)
    (c.go_on.ensures.brief me e quiet))
