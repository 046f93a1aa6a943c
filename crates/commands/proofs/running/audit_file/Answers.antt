use Rattle.std.proofs.Common.{◌≡◌, ◌∙◌, rules}
use Rattle.std.specs.Prelude.{IfSome}
use Rattle.commands.proofs.RunningLemmas.{audit_weaker, same_known}
use Rattle.commands.proofs.running.audit_file.Goals as goal

pub returns : goal.returns
returns g c =
    let known : IfSome (g.F.ReadFiles.contents c.args.files.now c.args.trace.now) (λ known. c.in_ok-bytes.bytes.items ≡ known) = search rules in
    audit_weaker c.args.tells_law _ _ _ _ _ _ c.audit_trace.result
    (λ t e. same_known (g.F.ReadFiles.contents c.args.files.now c.args.trace.now) t c.in_ok-bytes.bytes.items (e ∙ c.as_slice.ensures.value) known)
    c.audit_trace.ensures
