use Rattle.std.proofs.Common.{◌≡◌, ◌∙◌, arith}
use Rattle.naming.specs.Names.{names_in}
use Rattle.naming.proofs.NameLemmas.{cut, cut_last, cut_more, names_cut}
use Rattle.naming.proofs.number.first_name.Goals as goal

pub returns-in-len1-up-clause-names : goal.returns-in-len1-up-clause-names
returns-in-len1-up-clause-names c =
    let is : names_in c.args.form c.args.names.now ≡ cut c.args.form c.split_at.result.0.now c.split_at.result.1.now =
    rw (c.split_at.ensures.front, c.split_at.ensures.back, c.name_len.ensures.len) (names_cut c.args.form c.args.names.now) in
    is ∙ cut_more c.args.form c.split_at.result.0.now c.split_at.result.1.now (omega arith)

pub returns-in-empty-clause-names : goal.returns-in-empty-clause-names
returns-in-empty-clause-names c =
    let is : names_in c.args.form c.args.names.now ≡ cut c.args.form c.split_at.result.0.now c.split_at.result.1.now =
    rw (c.split_at.ensures.front, c.split_at.ensures.back, c.name_len.ensures.len) (names_cut c.args.form c.args.names.now) in
    is ∙ cut_last c.args.form c.split_at.result.0.now c.split_at.result.1.now (omega arith)
