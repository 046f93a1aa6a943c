use Rattle.std.proofs.Common.{refl}
use Rattle.posix.specs.Common.{inserted}
use Rattle.jobs.proofs.ReadLemmas.{processes_of}
use Rattle.life.proofs.machine.put_first.Goals as goal

pub returns-clause-processes : goal.returns-clause-processes
unfolding inserted
returns-clause-processes g c = rw (c.insert.ensures.processes, processes_of c.in_ok-reserve.ensures.rest, c.requires, c.in_ok-first.ensures) refl
