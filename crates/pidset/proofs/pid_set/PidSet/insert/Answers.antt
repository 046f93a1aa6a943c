use Rattle.std.proofs.Common.{◌∙◌, sym, ap, subst, insert, length, arith}
use Rattle.pidset.specs.Numbers.{Rises}
use Rattle.pidset.proofs.NumberLemmas.{with_point, with_there, rises_with, out_point, in_at}
use Rattle.pidset.proofs.pid_set.PidSet.insert.Goals as goal

pub insert-requires-clause-room : goal.insert-requires-clause-room
insert-requires-clause-room c =
    let out = out_point _ c.search.ensures.rising c.args.pid c.in-Err.at c.in-Err.ensures.absent in
    let fits = c.requires.room out in
    let long = ap (λ v. length v.pids) c.self.view_is in
    let room = ap (λ v. v.room) c.self.view_is in
    omega (arith, fits, long, room)

pub invariant_of-self : goal.invariant_of-self
invariant_of-self c =
    let kept = ap (λ v. v.pids) c.self.view_is in
    let is = c.insert.ensures.items ∙ ap (λ ns. insert ns c.in-Err.at c.args.pid) kept ∙ sym (with_point _ c.args.pid c.in-Err.at c.in-Err.ensures.absent) in
    subst Rises (sym is) (rises_with c.args.pid _ c.search.ensures.rising)

pub returns-in-Err-clause-pids : goal.returns-in-Err-clause-pids
returns-in-Err-clause-pids c =
    let kept = ap (λ v. v.pids) c.self.view_is in
    c.insert.ensures.items ∙ ap (λ ns. insert ns c.in-Err.at c.args.pid) kept ∙ sym (with_point _ c.args.pid c.in-Err.at c.in-Err.ensures.absent)

pub returns-in_default-clause-pids : goal.returns-in_default-clause-pids
returns-in_default-clause-pids c = sym (with_there _ c.search.ensures.rising c.args.pid (in_at _ c.args.pid _ c.in_default.ensures.found))
