use Rattle.posix.specs.Common.{resumed}
use Rattle.life.proofs.machine.Machine.continue_process.Goals as goal

pub returns : goal.returns
unfolding resumed
returns g c = rw c.continued.ensures at c.change_life.ensures
