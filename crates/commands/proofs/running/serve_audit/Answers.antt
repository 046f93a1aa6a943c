use Rattle.commands.proofs.RunningLemmas.{audit_means}
use Rattle.commands.proofs.running.serve_audit.Goals as goal

pub returns-in-Ok-clause-meaning : goal.returns-in-Ok-clause-meaning
returns-in-Ok-clause-meaning g c = rw (c.ended.ensures, c.in-Ok.ensures) (audit_means c.args.tells_law _ _ _ _ _ _ _ c.audit_file.ensures)
