use Rattle.std.proofs.Common.{◌∙◌, ap, sym}
use Rattle.counting.specs.Tallies.{TallyView}
use Rattle.exploring.proofs.ReportLemmas.{find_alone, find_with_first}
use Rattle.exploring.proofs.report.write_find.Goals as goal

pub returns-in_default : goal.returns-in_default
returns-in_default c =
    find_alone _ _ c.args.family.now.loose.now c.args.family.now.events.now c.args.find.now (sym (c.in_default.ensures ∙ ap (λ (t : TallyView). t.first) c.tally-2.ensures))
    (rw (c.text-sought.ensures, c.plural_behind-s.ensures, c.in_ok-count.ensures, c.count-count.ensures, c.tally.ensures) at c.in_ok-writeln.ensures.bytes)

pub returns : goal.returns
returns c =
    find_with_first _ _ _ _ c.args.family.now.loose.now c.args.family.now.events.now c.args.find.now c.in-Some.spots.now c.write_schedule.result
    (c.in-Some.ensures ∙ ap (λ (t : TallyView). t.first) c.tally-2.ensures)
    (rw (c.text-sought.ensures, c.plural_behind-s.ensures, c.in_ok-count.ensures, c.count-count.ensures, c.tally.ensures) at c.in_ok-writeln.ensures.bytes)
    c.in_ok-push_str.ensures.bytes c.write_schedule.ensures
