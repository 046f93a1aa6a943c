use Rattle.wording.specs.Proses.{Grows}
use Rattle.warning.proofs.worlds.put_warnings.Given as goal

abbrev pub invariant-loop-number : goal.invariant-loop-number
invariant-loop-number l = Grows l.fn.text.text l.text.text
