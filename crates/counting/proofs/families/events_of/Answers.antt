use Rattle.std.proofs.Common.{◌≡◌, List, ap, arith, length}
use Rattle.std.proofs.lemmas.Result.{IfOk-weaker}
use Rattle.posix.specs.declared.event.Event.{Event}
use Rattle.schedules.specs.Schedules.{scheduled}
use Rattle.schedules.proofs.ScheduledLemmas.{length_scheduled}
use Rattle.counting.proofs.families.events_of.Goals as goal

pub returns-clause-len : goal.returns-clause-len
returns-clause-len c =
    let f = c.args.family.now in
    let ps = c.args.spots.now in
    IfOk-weaker c.scheduled.result _ _ (λ (list : List Event) (is : list ≡ scheduled f.loose.now f.events.now ps). omega (arith, ap length is, length_scheduled f.loose.now f.events.now ps, f.short, c.requires.few)) c.scheduled.ensures
