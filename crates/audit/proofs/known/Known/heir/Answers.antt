use Rattle.std.proofs.Common.{rules, ap, sym, ◌∙◌}
use Rattle.std.proofs.lemmas.Bool.{eqb-true}
use Rattle.laws.specs.Keeping.{heir_of}
use Rattle.audit.specs.Records.{kept_by}
use Rattle.audit.proofs.HeirLemmas.{heir_first, heir_unmarked}
use Rattle.audit.proofs.known.Known.heir.Goals as goal

pub returns-then-not-self : goal.returns-then-not-self
returns-then-not-self c = sym (heir_unmarked (kept_by c.self.inside.records.entries) c.args.pid (c.self.invariant.1 (search rules))) ∙ ap (λ es. heir_of (kept_by es) c.args.pid) c.self.view_is

pub returns-then-eq : goal.returns-then-eq
returns-then-eq c = sym (heir_first (kept_by c.args.self.now) c.args.pid (eqb-true c.args.pid 1 (sym c.eq.ensures ∙ c.if-eq.true)))

pub returns : goal.returns
returns c = c.nearest_marked.ensures ∙ ap (λ es. heir_of (kept_by es) c.args.pid) c.self.view_is
