use Rattle.std.proofs.Common.{rules, ap, sym, ◌∙◌, arith, inl, filter, length, ◌+◌, ◌*◌, ◌≤◌}
use Rattle.posix.specs.Common.{targets}
use Rattle.posix.proofs.TableLemmas.{length_removed}
use Rattle.posix.proofs.WalkLemmas.{numbered}
use Rattle.life.specs.Callers.{process_like}
use Rattle.life.specs.Queues.{survey_of}
use Rattle.life.specs.Rechecks.{is_candidate}
use Rattle.life.proofs.ViewLemmas.{read_more}
use Rattle.life.proofs.SendLemmas.{all_candidates, targets_numbered, targets_nobody}
use Rattle.life.proofs.SurveyLemmas.{survey_missed}
use Rattle.life.proofs.machine.Machine.survey.Goals as goal

-- process 1 is there
pub returns-in-Process-clause-finds : goal.returns-in-Process-clause-finds
returns-in-Process-clause-finds g c =
    let r = process_like c.args.me.now in
    let rs = c.args.self.now.state.processes in
    let one = c.survey_one.ensures in
    let first = one.looks.regular.first in
    let some = length_removed 1 first.what rs one.looks.regular.rising first.found in
    let all = ap length (all_candidates r c.args.target.now rs (inl (c.in-Process.pid, c.in-Process.is))) in
    let enough : 2 ≤ 1 + 3 * length (filter (is_candidate r c.args.target.now) rs) = omega (arith, some, all) in
    record {
      value =
          one.value
          ∙ ap (λ target. survey_of r c.args.sig (targets r target (numbered c.in-Process.pid rs))) c.in-Process.is
          ∙ ap (survey_of r c.args.sig) (targets_numbered r c.in-Process.pid rs)
          ∙ ap (λ target. survey_of r c.args.sig (targets r target rs)) (sym c.in-Process.is);
      looks = read_more one.looks enough;
    }

pub returns-in-Nobody-clause-finds : goal.returns-in-Nobody-clause-finds
returns-in-Nobody-clause-finds g c =
    let r = process_like c.args.me.now in
    let rs = c.args.self.now.state.processes in
    record {
      value =
          survey_missed r c.args.sig _ (targets_nobody r rs)
          ∙ ap (λ target. survey_of r c.args.sig (targets r target rs)) (sym c.in-Nobody.is);
      looks = search (rules, arith);
    }
