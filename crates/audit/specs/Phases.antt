-- What may come next: any line but `halt`, only `halt`, or nothing.
use Rattle.laws.specs.Keeping as laws
use Rattle.audit.specs.declared.tests_of_lines.Phase.{Phase}
use Rattle.audit.specs.declared.tests_of_lines.Phase.TheVariants.{Going, FirstEnded, Over}

abbrev pub phase_said : Phase → laws.Phase
phase_said Going = laws.Going
phase_said FirstEnded = laws.FirstEnded
phase_said Over = laws.Over
