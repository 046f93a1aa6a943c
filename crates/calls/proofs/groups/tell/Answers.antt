use Rattle.std.proofs.Common.{◌≡◌, ◌∙◌, ap, sym, refl, pos, rules, to_z, of_z, w64}
use Rattle.posix.specs.declared.errno.Errno.TheVariants.{ESRCH}
use Rattle.posix.specs.Common.{finish_with, refused, refusal, tells}
use Rattle.posix.proofs.TableLemmas.{pid_looked}
use Rattle.proctable.specs.Records.{snapshot_of}
use Rattle.posix.proofs.ResultLemmas.{back, none_mapped}
use Rattle.calls.specs.Outcomes.{id_told}
use Rattle.calls.proofs.CallLemmas.{gives_is}
use Rattle.calls.proofs.groups.tell.Goals as goal

pub returns-in_default-clause-comes : goal.returns-in_default-clause-comes
returns-in_default-clause-comes g c = λ me e.
    let s = c.args.machine.now.state in
    let p = c.args.pid in
    let call = c.args.call in
    let none = none_mapped _ _ (sym c.in_default.is ∙ c.named.ensures.value me e) in
    let is = ap (tells s me call (λ r. id_told call (snapshot_of r))) none ∙ ap (λ q. refused s q call ESRCH) (pid_looked p s.processes me e) in
    gives_is s s _ _ _ p call (refusal ESRCH) (refusal ESRCH) _ _ _ is c.refuse.ensures.done c.refuse.ensures.state c.named.ensures.same c.refuse.ensures.shown refl

pub returns-clause-comes : goal.returns-clause-comes
returns-clause-comes g c = λ me e.
    let s = c.args.machine.now.state in
    let p = c.args.pid in
    let call = c.args.call in
    let it = back _ _ _ (sym c.in-Some.is ∙ c.named.ensures.value me e) in
    let id = id_told call (snapshot_of it.what) in
    let kept : to_z w64 (of_z w64 c.from.result) ≡ c.from.result = search rules in
    let value = kept ∙ c.from.ensures ∙ ap pos (c.number.ensures.value ∙ c.told_by-id.ensures ∙ ap (id_told call) it.is) in
    let is = ap (tells s me call (λ r. id_told call (snapshot_of r))) it.found ∙ ap (λ q. finish_with s q call (pos id)) (pid_looked p s.processes me e) in
    gives_is s s _ _ _ p call (to_z w64 (of_z w64 c.from.result)) (pos id) _ _ _ is c.finish_with.ensures.done c.finish_with.ensures.state c.named.ensures.same c.finish_with.ensures.shown value
