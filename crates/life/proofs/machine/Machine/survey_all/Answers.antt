use Rattle.std.proofs.Common.{ap, ◌∙◌, arith, filter, length, subst}
use Rattle.std.proofs.Math.Nat.{le_trans}
use Rattle.posix.specs.Common.{IsNext, above, first_pid, State, is_target, targets}
use Rattle.posix.proofs.WalkLemmas.{numbered, walk_begins, next_begins, one_here, one_less}
use Rattle.posix.proofs.PassingLemmas.{left_at_most}
use Rattle.life.specs.Callers.{process_like}
use Rattle.life.specs.Queues.{survey_of}
use Rattle.life.specs.Rechecks.{is_candidate}
use Rattle.life.proofs.SoundLemmas.{not_many}
use Rattle.life.proofs.ViewLemmas.{same_then, state_is}
use Rattle.life.proofs.SurveyLemmas.{few_so_far, none_surveys, surveyed_all, surveyed_on}
use Rattle.life.proofs.machine.Machine.survey_all.Goals as goal

pub loop-next-init : goal.loop-next-init
unfolding targets
loop-next-init g c =
    let r = process_like c.args.me.now in
    let rs = c.args.self.now.state.processes in
    let finds = c.next_target-next.ensures.finds in
    let all = walk_begins (is_target r c.args.target.now) rs c.next_target-next.result finds.looks.regular.rising (λ p r e. (finds.looks.regular.bounded p r e).least) finds.value in
    record {
      same = finds.looks.same;
      there = finds.value.there;
      begins = next_begins 0 (filter (is_candidate r c.args.target.now) rs) c.next_target-next.result c.next_target-next.ensures.is;
      read = omega (arith, left_at_most c.next_target-next.result (filter (is_candidate r c.args.target.now) rs), finds.looks.visits);
      no_fewer = finds.looks.no_fewer;
      surveyed = none_surveys _ ∙ ap (survey_of r c.args.sig) all;
    }

pub and-survey-requires : goal.and-survey-requires
and-survey-requires g c =
    let r = process_like c.args.me.now in
    let i = c.loop-next.invariant in
    let here = λ (s : State). survey_of r c.args.sig (targets r c.args.target.now (numbered c.in-Some.pid s.processes)) in
    let few = few_so_far r c.args.sig c.args.target.now c.in-Some.pid c.args.self.now.state.processes c.loop-next.next c.loop-next.survey c.survey_one.result c.next_target-next.ensures.finds.looks.regular.rising c.in-Some.is (c.survey_one.ensures.value ∙ ap here i.same.state) i.surveyed in
    omega (arith, few, ap (λ (s : State). length s.processes) (state_is c.self.view_is), not_many _ _ _ c.self.invariant.sound)

pub loop-next-preserved : goal.loop-next-preserved
loop-next-preserved g c =
    let r = process_like c.args.me.now in
    let target = c.args.target.now in
    let rs = c.args.self.now.state.processes in
    let pid = c.in-Some.pid in
    let i = c.loop-next.invariant in
    let one = c.survey_one.ensures in
    let comes = c.next_target-next-in-Some.ensures in
    let next = c.next_target-next-in-Some.result in
    let up = c.next_target-next.ensures.finds.looks.regular.rising in
    let same = one.looks.same.state ∙ i.same.state in
    let here = λ (s : State). survey_of r c.args.sig (targets r target (numbered pid s.processes)) in
    let is_next = subst (λ (s : State). IsNext (is_target r target) pid s.processes next) same comes.finds.value in
    let is = comes.is ∙ ap (λ (s : State). first_pid (above pid (filter (is_candidate r target) s.processes))) same in
    let less = one_less (is_candidate r target) pid rs c.loop-next.next next (one_here (is_candidate r target) pid rs c.loop-next.next up c.in-Some.is i.begins) c.in-Some.is is in
    record {
      same = same_then i.same (same_then one.looks.same comes.finds.looks.same);
      there = is_next.there;
      begins = next_begins pid (filter (is_candidate r target) rs) next is;
      read = omega (arith, less, i.read, one.looks.visits, comes.finds.looks.visits);
      no_fewer = le_trans i.no_fewer (le_trans one.looks.no_fewer comes.finds.looks.no_fewer);
      surveyed = surveyed_on r c.args.sig target pid rs c.loop-next.next next c.loop-next.survey c.survey_one.result c.and-survey.result _ up c.in-Some.is is_next (one.value ∙ ap here i.same.state) c.and-survey.ensures i.surveyed;
    }

pub returns : goal.returns
returns g c =
    let i = c.loop-next.invariant in
    record {
      value = surveyed_all (process_like c.args.me.now) c.args.sig c.args.target.now c.args.self.now.state.processes c.loop-next.next c.loop-next.survey _ c.in_default.is i.surveyed;
      looks = record { same = i.same; visits = omega (arith, i.read); no_fewer = i.no_fewer; regular = c.next_target-next.ensures.finds.looks.regular };
    }
