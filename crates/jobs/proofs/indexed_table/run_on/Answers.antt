use Rattle.std.proofs.Common.{refl, rules}
use Rattle.jobs.proofs.indexed_table.run_on.Goals as goal

pub returns-clause-run : goal.returns-clause-run
returns-clause-run g c = (
  record {
    before = c.update-it.result.now;
    after = c.change-result.new.arg2;
    found = c.update-it.ensures.value;
    ran = record { shown = _; shows = refl; left = _; met = c.change-result.ensures; leaves = refl };
    is = g.met.K.ProcessTable.puts _ _ _;
  },
  c.of_record-before.ensures,
  c.of_record-after.ensures,
  search rules,
)
