use Rattle.std.proofs.Common.{◌≡◌, ◌∙◌, ap, sym, List, arith, rules, ◌<◌, ◌+◌, ◌++◌, ◌∷◌, [], length, subst, to_z, of_z, w64}
use Rattle.life.specs.declared.noted_bursts.Note.{Note}
use Rattle.life.specs.NotedBursts.{most_notes, exec_with_notes}
use Rattle.life.proofs.NotedBurstLemmas.{rest_after, with_notes, note_given, none_given, is_filled, within_all}
use Rattle.life.proofs.noted_bursts.run_with_notes.Goals as goal

pub returns-in_default : goal.returns-in_default
returns-in_default c =
    let r = c.run_until-count in
    let i = c.loop-cpu.invariant in
    let room : length c.loop-cpu.notes.items < most_notes = grind arith in
    let all = within_all _ _ _ r.ensures.within in
    record {
      taken = none_given _ c.args.before c.loop-cpu.done c.args.last _ _ c.args.cpu.now c.loop-cpu.cpu _ _ room r.ensures.count r.ensures.trap r.ensures.cpu c.in_default.not-Note i.taken;
      from = omega (arith, i.from);
      within = omega (arith, i.within, all.0);
      short = λ other. omega (arith, i.within, all.1 other);
    }

pub loop-cpu-preserved : goal.loop-cpu-preserved
loop-cpu-preserved c =
    let r = c.run_until-count in
    let i = c.loop-cpu.invariant in
    let room : length c.loop-cpu.notes.items < most_notes = grind arith in
    let kept : to_z w64 (of_z w64 c.in-Note.value) ≡ c.in-Note.value = search rules in
    let pushed = c.push.ensures.items ∙ ap (λ z. c.loop-cpu.notes.items ++ record { step = (c.loop-cpu.done + r.result.0) + 1; value = z } ∷ []) kept in
    record {
      taken = subst
          (λ (l : List Note). exec_with_notes c.args.program.now.instructions most_notes c.args.before c.args.last c.args.cpu.now ≡ with_notes l (rest_after c.args.program.now.instructions c.args.last r.new.self ((c.loop-cpu.done + r.result.0) + 1) l))
          (sym pushed) (note_given _ c.args.before c.loop-cpu.done c.args.last _ _ c.in-Note.value c.args.cpu.now c.loop-cpu.cpu _ _ room r.ensures.count r.ensures.trap r.ensures.cpu c.in-Note.is i.taken);
      from = omega (arith, i.from);
      within = omega (arith, i.within, rw c.in-Note.is at r.ensures.within);
    }

pub returns-clause-taken : goal.returns-clause-taken
returns-clause-taken c = is_filled _ c.args.before c.loop-cpu.done c.args.last c.args.cpu.now c.loop-cpu.cpu _ (grind arith) c.loop-cpu.invariant.taken
