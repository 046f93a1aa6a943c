use Rattle.std.proofs.Common.{[], ◌∷◌, ◌++◌, codes}
use Rattle.trace.proofs.SinkLemmas.{break_on}
use Rattle.posix.proofs.ResultLemmas.{on_err}
use Rattle.inputs.proofs.PutLemmas.{break_behind, take_behind}
use Rattle.inputs.proofs.files.ReadFault.tell.Goals as goal

pub returns-in_err-put_all-in-CannotRead-clause-err : goal.returns-in_err-put_all-in-CannotRead-clause-err
returns-in_err-put_all-in-CannotRead-clause-err g c =
    rw c.in-CannotRead.is (on_err c.from_residual.result (break_on _ _ (codes "jobk: cannot read ") (c.in-CannotRead.name.now ++ 10 ∷ []) c.in_err-put_all-in-CannotRead.ensures.err))

pub returns-in_ok-put_all-in-CannotRead-clause-ok : goal.returns-in_ok-put_all-in-CannotRead-clause-ok
returns-in_ok-put_all-in-CannotRead-clause-ok g c =
    rw c.in-CannotRead.is (take_behind c.put_both.result _ _ _ (codes "jobk: cannot read ") (c.in-CannotRead.name.now ++ 10 ∷ []) c.in_ok-put_all-in-CannotRead.ensures.ok (rw c.as_bytes.ensures.value at c.put_both.ensures.ok))

pub returns-in_ok-put_all-in-CannotRead-clause-err : goal.returns-in_ok-put_all-in-CannotRead-clause-err
returns-in_ok-put_all-in-CannotRead-clause-err g c =
    rw c.in-CannotRead.is (break_behind c.put_both.result _ _ _ (codes "jobk: cannot read ") (c.in-CannotRead.name.now ++ 10 ∷ []) c.in_ok-put_all-in-CannotRead.ensures.ok (rw c.as_bytes.ensures.value at c.put_both.ensures.err))
