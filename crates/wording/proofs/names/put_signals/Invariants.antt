use Rattle.wording.specs.Proses.{Grows}
use Rattle.wording.proofs.names.put_signals.Given as goal

abbrev pub invariant-loop-sig : goal.invariant-loop-sig
invariant-loop-sig l = Grows l.fn.text.text l.text.text
