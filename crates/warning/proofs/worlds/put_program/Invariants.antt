use Rattle.wording.specs.Proses.{Grows}
use Rattle.warning.proofs.worlds.put_program.Given as goal

abbrev pub invariant-loop-place : goal.invariant-loop-place
invariant-loop-place l = Grows l.fn.text.text l.text.text
