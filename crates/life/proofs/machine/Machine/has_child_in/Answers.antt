use Rattle.std.proofs.Common.{ap, sym, ◌∙◌, ◌==◌, ℕ, Option, false}
use Rattle.std.specs.Option.{option_map_or}
use Rattle.posix.specs.Common.{Process, is_member}
use Rattle.life.proofs.ChildLemmas.{child_here, child_less}
use Rattle.life.proofs.MemberLemmas.{member_here, seek_begins, child_is, member_is, seek_on}
use Rattle.life.proofs.machine.Machine.has_child_in.Goals as goal

pub loop-next_child-init : goal.loop-next_child-init
loop-next_child-init g c = seek_begins _ c.next_child-next_child.ensures.regular c.args.parent c.args.group _ _ c.next_child-next_child.ensures.value c.next_member-next_member.ensures.value

pub returns-then-is_member : goal.returns-then-is_member
returns-then-is_member g c =
    let walk = c.loop-next_child.invariant in
    let is = ap (λ (o : Option Process). option_map_or (is_member c.args.group) o false) (sym (child_here walk.at_child c.in-Some.is).found) ∙ sym c.is_member.ensures ∙ c.if-is_member.true in
    sym (child_is walk c.in-Some.is is)

pub returns-then-eq : goal.returns-then-eq
returns-then-eq g c =
    let walk = c.loop-next_child.invariant in
    let at = member_here walk c.in-Some-next_member.is in
    sym (member_is walk c.in-Some-next_member.is (ap (λ (n : ℕ). n == c.args.parent) (sym (c.parent.ensures.value at.what at.found)) ∙ sym c.eq.ensures ∙ c.if-eq.true))

pub loop-next_child-smaller : goal.loop-next_child-smaller
loop-next_child-smaller g c = child_less c.loop-next_child.invariant.at_child c.in-Some.is c.next_child-next_child-in-Some.ensures.value

pub loop-next_child-preserved : goal.loop-next_child-preserved
loop-next_child-preserved g c =
    let walk = c.loop-next_child.invariant in
    let member = member_here walk c.in-Some-next_member.is in
    let no_member = ap (λ (o : Option Process). option_map_or (is_member c.args.group) o false) (sym (child_here walk.at_child c.in-Some.is).found) ∙ sym c.is_member.ensures ∙ c.if-is_member.false in
    let no_child = ap (λ (n : ℕ). n == c.args.parent) (sym (c.parent.ensures.value member.what member.found)) ∙ sym c.eq.ensures ∙ c.if-eq.false in
    seek_on walk c.in-Some.is c.in-Some-next_member.is no_member no_child c.next_child-next_child-in-Some.ensures.value c.next_member-next_member-in-Some.ensures.value
