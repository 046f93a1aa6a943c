use Rattle.std.proofs.Common.{rules}
use Rattle.counting.proofs.LineLemmas.{behind_number}
use Rattle.counting.proofs.lines.shown.Goals as goal

pub returns : goal.returns
returns c = behind_number c.write_entry-end.new.room c.write_entry-end.result c.args.entry.now c.write_entry-end.ensures.text (search rules)
