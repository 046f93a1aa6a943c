use Rattle.std.proofs.Common.{rules, arith, sym, ◌∙◌}
use Rattle.posix.proofs.ReportingLemmas.{wanted_some, wanted_none}
use Rattle.life.specs.Waits.{is_meant}
use Rattle.life.proofs.machine.Machine.report_of_children.Goals as goal

pub returns-in-Some : goal.returns-in-Some
returns-in-Some g c =
    let rs = c.args.self.now.state.processes in
    let first = c.first_wanted.ensures in
    let w = wanted_some rs first.regular.rising c.args.parent (is_meant c.args.group.now) c.args.options.0 _ (sym first.value ∙ c.in-Some.is) in
    let value = c.report_of.ensures.value w.what w.found ∙ sym w.says in
    search (rules, arith)

pub returns-in-None : goal.returns-in-None
returns-in-None g c =
    let rs = c.args.self.now.state.processes in
    let first = c.first_wanted.ensures in
    let value = c.without_report.ensures ∙ sym (wanted_none rs c.args.parent (is_meant c.args.group.now) c.args.options.0 _ (sym first.value ∙ c.in-None.is) c.has_child.ensures) in
    search (rules, arith)
