use Rattle.std.proofs.Common.{◌∙◌, ap, sym}
use Rattle.posix.specs.Common.{stopped, stopped_by, told_of_change, stop_process, process, lose_place, is_in, changed}
use Rattle.posix.proofs.TableLemmas.{pid_looked}
use Rattle.life.proofs.FunnelLemmas.{told_lost}
use Rattle.life.proofs.machine.Machine.stop_process.Goals as goal

pub returns : goal.returns
unfolding stop_process stopped_by
returns g c = λ me found.
    let s = c.args.self.now.state in
    let p = c.args.pid in
    let n = c.args.sig in
    let named = pid_looked p s.processes me found in
    let did = (rw c.lose_place.ensures.is at (c.change_life.ensures me)) found in
    record {
      state =
          did.state ∙ ap (λ w. record (lose_place s p) { processes = told_of_change w me (changed p (stopped_by n) s.processes) }) c.stopped.ensures
          ∙ ap (λ q. record (lose_place s q) { processes = told_of_change (stopped n) me (changed q (stopped_by n) s.processes) }) (sym named);
      to_recheck = did.to_recheck ∙ told_lost (is_in p s.order) p (stopped_by n me) named (process c.change_life.new.self.state me.parent) _ c.args.self.now.to_recheck;
      foregrounds_unchecked = did.foregrounds_unchecked;
      costs = record { visits = did.costs.visits; no_fewer = did.costs.no_fewer; groups_at_risk = did.costs.groups_at_risk; regular = c.lose_place.ensures.regular };
    }
