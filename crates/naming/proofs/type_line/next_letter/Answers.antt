use Rattle.std.proofs.Common.{◌-◌, length}
use Rattle.naming.proofs.LineLemmas.{range_one_line}
use Rattle.naming.proofs.type_line.next_letter.Goals as goal

pub returns-in-34-clause-one_line : goal.returns-in-34-clause-one_line
returns-in-34-clause-one_line c = range_one_line c.args.text.now (length c.args.text.now - 1) 1

pub returns-in-92-clause-one_line : goal.returns-in-92-clause-one_line
returns-in-92-clause-one_line c = λ h. c.escaped.ensures.one_line (range_one_line c.args.text.now (length c.args.text.now - 1) 1 h)

pub returns-in-len1-up-clause-one_line : goal.returns-in-len1-up-clause-one_line
returns-in-len1-up-clause-one_line c = range_one_line c.args.text.now (length c.args.text.now - 1) 1
