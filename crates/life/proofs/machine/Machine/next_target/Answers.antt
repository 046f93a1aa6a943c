use Rattle.std.proofs.Common.{sym, ap, refl}
use Rattle.posix.specs.Common.{is_member, members_in, above, first_pid, next_above, is_target}
use Rattle.posix.proofs.WalkLemmas.{passing_is_next, least_is_next}
use Rattle.life.specs.Callers.{process_like}
use Rattle.life.proofs.SendLemmas.{all_candidates}
use Rattle.life.proofs.ViewLemmas.{none_read}
use Rattle.life.proofs.machine.Machine.next_target.Goals as goal

pub returns-in-OwnGroup : goal.returns-in-OwnGroup
unfolding members_in
returns-in-OwnGroup g c =
    let i = c.next_member.ensures.regular in
    rw (c.in-OwnGroup.is, c.next_member.ensures.value) record { finds = record { value = passing_is_next (is_member c.args.me.now.group) c.args.after _ i.rising; looks = none_read i }; is = refl }

pub returns-in-Group : goal.returns-in-Group
unfolding members_in
returns-in-Group g c =
    let i = c.next_member-in-Group.ensures.regular in
    rw (c.in-Group.is, c.next_member-in-Group.ensures.value) record { finds = record { value = passing_is_next (is_member c.in-Group.group) c.args.after _ i.rising; looks = none_read i }; is = refl }

pub returns-in-Process : goal.returns-in-Process
unfolding next_above
returns-in-Process g c =
    let r = process_like c.args.me.now in
    let looks = c.next_after.ensures.looks in
    rw c.next_after.ensures.value record {
      finds = record { value = least_is_next (is_target r c.args.target.now) c.args.after _ looks.regular.rising; looks = looks };
      is = ap (λ l. first_pid (above c.args.after l)) (sym (all_candidates r c.args.target.now _ c.in-Process.is));
    }
