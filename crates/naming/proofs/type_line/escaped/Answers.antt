use Rattle.std.proofs.Common.{◌-◌, arith, get_or, length}
use Rattle.naming.proofs.LineLemmas.{range_one_line, two_one_line}
use Rattle.naming.proofs.type_line.escaped.Goals as goal

pub returns-in-120-clause-one_line : goal.returns-in-120-clause-one_line
returns-in-120-clause-one_line c = λ h.
    let text = c.args.text.now in
    (two_one_line (get_or text 1 0) (get_or text 2 0) (h 1 0 (omega arith)) (h 2 0 (omega arith)), range_one_line text (length text - 3) 3 h)

pub returns-in-Some-clause-one_line : goal.returns-in-Some-clause-one_line
returns-in-Some-clause-one_line c = range_one_line c.args.text.now (length c.args.text.now - 1) 1
