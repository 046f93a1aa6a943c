use Rattle.std.proofs.Common.{◌≡◌, drop, map}
use Rattle.wording.specs.Names.{named_among, said}
use Rattle.wording.proofs.table.named_among.Given as goal

-- No entry so far has the name.
abbrev pub invariant-loop-kind : goal.invariant-loop-kind
invariant-loop-kind l = named_among (map said (drop l.kind-index l.entries)) l.word ≡ named_among (map said l.entries) l.word
