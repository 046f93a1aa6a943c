use Rattle.std.proofs.Common.{map}
use Rattle.std.specs.String.{string_bytes}
use Rattle.posix.specs.declared.event.Event.TheVariants.{Key}
use Rattle.schedules.proofs.AddLemmas.{first_nothing}
use Rattle.schedules.proofs.eventtext.make_room.Goals as goal

pub returns-then-not-is_full-clause-adds : goal.returns-then-not-is_full-clause-adds
returns-then-not-is_full-clause-adds c = first_nothing (string_bytes c.args.text.now) (map (Key c.args.keys.now.console) c.args.keys.now.bytes.items)
