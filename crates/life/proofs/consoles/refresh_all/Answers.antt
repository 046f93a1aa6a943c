use Rattle.std.proofs.Common.{◌∙◌, ap, arith, length, slice_set, List, ◌<◌}
use Rattle.std.proofs.Math.Nat.{le_trans}
use Rattle.posix.specs.Common.{Process, refreshed}
use Rattle.life.proofs.ReaderLemmas.{refreshed_step}
use Rattle.life.proofs.consoles.refresh_all.Goals as goal

pub loop-console_index-preserved : goal.loop-console_index-preserved
loop-console_index-preserved g c = record {
  consoles =
      let within : c.loop-console_index.console_index < length c.args.consoles.now.items = omega (arith, c.loop-console_index-test.true, c.len-console_index-end.ensures) in
      ap (slice_set c.loop-console_index.consoles.items c.loop-console_index.console_index) (c.refresh.ensures.console ∙ ap (λ (rs : List Process). refreshed rs c.index_mut.result.now) c.loop-console_index.invariant.processes)
      ∙ refreshed_step (refreshed c.args.table.now.processes) c.loop-console_index.console_index c.index_mut.result.now c.args.consoles.now.items c.loop-console_index.consoles.items c.loop-console_index.invariant.consoles within c.index_mut.ensures.value;
  processes = c.refresh.ensures.processes ∙ c.loop-console_index.invariant.processes;
  no_fewer = le_trans c.loop-console_index.invariant.no_fewer c.refresh.ensures.no_fewer;
  visits = omega (arith, c.refresh.ensures.visits, c.loop-console_index.invariant.visits);
}
