use Rattle.std.proofs.Common.{◌∙◌, ◌≡◌, arith}
use Rattle.pidset.specs.Indexes.{is_key}
use Rattle.jobs.proofs.IndexLemmas.{is_listed}
use Rattle.jobs.proofs.indexed_table.IndexedTable.is_member.Goals as goal

pub returns : goal.returns
returns g c =
    let key : c.eq.result ≡ is_key c.args.group c.list.result = grind arith in
    rw (← c.self.view_is) (key ∙ is_listed c.args.group c.args.pid _ c.self.inside.indexes c.list.result c.self.invariant.indexes c.list.ensures)
