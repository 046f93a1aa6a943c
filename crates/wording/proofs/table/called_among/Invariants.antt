use Rattle.std.proofs.Common.{◌≡◌, drop, map}
use Rattle.wording.specs.Names.{called_among, said}
use Rattle.wording.proofs.table.called_among.Given as goal

-- The word names no entry so far.
abbrev pub invariant-loop-kind : goal.invariant-loop-kind
invariant-loop-kind l = called_among (map said (drop l.kind-index l.entries)) l.word ≡ called_among (map said l.entries) l.word
