use Rattle.std.proofs.Common.{sym, ◌∙◌}
use Rattle.posix.proofs.ReportingLemmas.{at_wanted, wanted_found, wanted_begins, wanted_here, wanted_on, wanted_over, wanted_less}
use Rattle.life.specs.Waits.{is_meant}
use Rattle.life.proofs.machine.Machine.first_wanted.Goals as goal

pub loop-next-init : goal.loop-next-init
loop-next-init g c = let i = c.next_wanted-next.ensures.regular in wanted_begins _ i.rising (λ q r e. (i.bounded q r e).least) c.args.parent (is_meant c.args.group.now) c.args.options.0 _ c.next_wanted-next.ensures.value

pub returns-then-is_meant : goal.returns-then-is_meant
returns-then-is_meant g c =
    let i = c.is_meant.ensures.regular in
    let walk = c.loop-next.invariant in
    let at = at_wanted i.rising walk c.in-Some.is in
    record {
      value = wanted_here i.rising walk c.in-Some.is (sym (c.is_meant.ensures.meant at.what (wanted_found _ i.rising _ _ _ at)) ∙ c.if-is_meant.true);
      regular = i;
    }

pub loop-next-preserved : goal.loop-next-preserved
loop-next-preserved g c =
    let i = c.is_meant.ensures.regular in
    let walk = c.loop-next.invariant in
    let at = at_wanted i.rising walk c.in-Some.is in
    wanted_on i.rising walk c.in-Some.is (sym (c.is_meant.ensures.meant at.what (wanted_found _ i.rising _ _ _ at)) ∙ c.if-is_meant.false) c.next_wanted-next-in-Some.ensures.value

pub loop-next-smaller : goal.loop-next-smaller
loop-next-smaller g c = wanted_less c.is_meant.ensures.regular.rising c.loop-next.invariant c.in-Some.is c.next_wanted-next-in-Some.ensures.value

pub returns : goal.returns
returns g c = record { value = wanted_over c.loop-next.invariant c.in_default.is; regular = c.next_wanted-next.ensures.regular }
