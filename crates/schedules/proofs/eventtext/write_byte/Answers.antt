use Rattle.std.proofs.Common.{rules, true}
use Rattle.std.proofs.lemmas.Fmt.{hex_byte}
use Rattle.schedules.proofs.eventtext.write_byte.Goals as goal

pub returns : goal.returns
returns c = search (rules, hex_byte true)
