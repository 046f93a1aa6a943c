use Rattle.std.proofs.Common.{Err, Ok}
use Rattle.page.proofs.answers.answer_to.Goals as goal

pub returns-in-Ok : goal.returns-in-Ok
returns-in-Ok c = record { said = Ok c.as_slice.result; are = rw c.as_slice.ensures.value c.in-Ok.ensures; served = c.served.ensures }

pub returns-in-Err : goal.returns-in-Err
returns-in-Err c = record { said = Err c.in-Err.fault; are = c.in-Err.ensures; served = c.served-in-Err.ensures }
