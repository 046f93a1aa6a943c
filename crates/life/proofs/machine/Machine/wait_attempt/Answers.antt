use Rattle.std.proofs.Common.{◌∙◌, sym}
use Rattle.posix.proofs.ReportingLemmas.{report_own}
use Rattle.life.proofs.ChildLemmas.{report_any, report_in}
use Rattle.life.proofs.machine.Machine.wait_attempt.Goals as goal

pub returns-in-Process : goal.returns-in-Process
returns-in-Process g c = let did = c.report_of_one.ensures in rw c.in-Process.is (record { value = did.value c.args.me.now.group; looks = did.looks })

pub returns-in-All : goal.returns-in-All
returns-in-All g c = let did = c.report_of_children.ensures in rw c.in-All.is (record { value = did.value ∙ sym (report_any _ _ c.args.me.now.group _); looks = did.looks })

pub returns-in-OwnGroup : goal.returns-in-OwnGroup
returns-in-OwnGroup g c = let did = c.report_of_children-in-OwnGroup.ensures in rw c.in-OwnGroup.is (record { value = did.value ∙ sym (report_own _ _ c.args.me.now.group _ ∙ report_in _ _ c.args.me.now.group _ _); looks = did.looks })

pub returns-in-Group : goal.returns-in-Group
returns-in-Group g c = let did = c.report_of_children-in-Group.ensures in rw c.in-Group.is (record { value = did.value ∙ sym (report_in _ _ c.args.me.now.group _ _); looks = did.looks })
