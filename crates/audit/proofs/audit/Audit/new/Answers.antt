use Rattle.std.proofs.Common.{[], refl, ◌∙◌}
use Rattle.laws.proofs.LawfulLemmas.{laws_none}
use Rattle.audit.proofs.ViewLemmas.{all_at}
use Rattle.audit.proofs.audit.Audit.new.Goals as goal

pub returns : goal.returns
returns c = record {
  lines = [];
  say = tt;
  laws = laws_none;
  kept = λ n. all_at c.in_ok-new.field-0 n ∙ c.in_ok-new.ensures n;
  last = refl;
  phase = refl;
  fault = refl;
}
