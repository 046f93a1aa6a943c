use Rattle.std.proofs.Common.{◌≡◌, length, rules}
use Rattle.std.specs.List.Sorted.{IsNonDecreasing}
use Rattle.counting.proofs.PlacingLemmas.{schedule_of_ticks}
use Rattle.counting.proofs.families.is_schedule.Goals as goal

pub returns-then-do_rise : goal.returns-then-do_rise
returns-then-do_rise c = λ below.
    let f = c.args.family.now in
    let none : length f.loose.now ≡ 0 = search rules in
    let rise : IsNonDecreasing c.args.spots.now = search rules in
    schedule_of_ticks f.upto f.ticks (length f.loose.now) c.args.spots.now none c.if-spots-family.false rise (c.are_below.ensures below)
