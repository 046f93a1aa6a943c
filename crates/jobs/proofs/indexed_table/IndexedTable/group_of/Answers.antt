use Rattle.std.proofs.Common.{Some, None, ap, arith, cond, refl, sym, ◌∙◌}
use Rattle.posix.specs.Common.{first_pid, members_in}
use Rattle.jobs.proofs.MoveLemmas.{by_first, no_number}
use Rattle.jobs.proofs.indexed_table.IndexedTable.group_of.Goals as goal

pub returns : goal.returns
returns g c =
    let first = ap (λ k. first_pid (members_in k c.args.self.now.processes)) (sym c.in_ok-number.ensures.some) ∙ sym c.first_member.ensures.first ∙ c.in_ok-first.was in
    let it = by_first c.args.session c.args.group c.in_ok-first.first _ c.first_member.ensures.rising c.requires first in
    record { value = c.group_at.ensures.value it.0 it.1 ∙ ap (λ b. cond b (Some c.args.group) None) (sym it.2); looks = c.group_at.ensures.looks }

pub returns-in_err-number : goal.returns-in_err-number
returns-in_err-number g c =
    let no = no_number c.args.session c.args.group _ _ c.self.invariant.rising c.self.invariant.within (c.group_number.ensures.none c.in_err-number.was) in
    record {
      value = rw (← c.self.view_is, no) c.from_residual.ensures;
      looks = record { processes = refl; room = refl; sizes = refl; visits = grind (arith); no_fewer = grind (arith); rising = rw (← c.self.view_is) c.self.invariant.rising; numbers = rw (← c.self.view_is) c.self.invariant.numbers };
    }
