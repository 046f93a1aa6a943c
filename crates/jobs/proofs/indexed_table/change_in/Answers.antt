use Rattle.std.proofs.Common.{refl}
use Rattle.jobs.proofs.indexed_table.change_in.Goals as goal

pub returns-clause-run : goal.returns-clause-run
returns-clause-run g c = (
  record {
    before = c.update-it.result.now;
    after = c.change.new.arg2;
    found = c.update-it.ensures.value;
    ran = record { shown = _; shows = refl; left = _; met = c.change.ensures; leaves = refl };
    is = g.met.K.ProcessTable.puts _ _ _;
  },
  c.of_record-before.ensures,
  c.of_record-after.ensures,
)
