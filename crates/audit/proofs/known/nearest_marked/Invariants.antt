use Rattle.std.proofs.Common.{◌≡◌}
use Rattle.laws.specs.Keeping.{heir_of}
use Rattle.audit.specs.Records.{kept_by}
use Rattle.audit.proofs.HeirLemmas.{walk_from}
use Rattle.audit.proofs.known.nearest_marked.Given as goal

abbrev pub invariant-loop-left : goal.invariant-loop-left
invariant-loop-left l = walk_from l.records.entries l.pid l.left l.forebear ≡ heir_of (kept_by l.records.entries) l.pid

abbrev pub decreases-loop-left : goal.decreases-loop-left
decreases-loop-left l = l.left
