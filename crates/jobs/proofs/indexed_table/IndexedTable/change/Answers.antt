use Rattle.std.proofs.Common.{◌∙◌, ap, sym, Some}
use Rattle.pidset.proofs.IndexLemmas.{can_replace}
use Rattle.jobs.specs.Indexes.{alarm_key}
use Rattle.jobs.proofs.IndexLemmas.{sees}
use Rattle.jobs.proofs.KeptLemmas.{kept_alarmed, record_found, seen_same}
use Rattle.jobs.proofs.indexed_table.IndexedTable.change.Goals as goal

pub replace-requires-clause-can : goal.replace-requires-clause-can
replace-requires-clause-can g c =
    let r = c.run_on-result.ensures.run in
    rw (r.1, ← (sees c.args.pid _ _ r.0.found).alarmed) (can_replace alarm_key c.args.pid _ c.self.inside.indexes.alarmed c.self.invariant.rising c.self.invariant.indexes.alarmed (λ none. let no = sym none ∙ r.0.found in absurd (cc)))

pub invariant_of-self : goal.invariant_of-self
invariant_of-self g c =
    let r = c.run_on-result.ensures.run in
    kept_alarmed _ _ _ c.args.pid r.0.before r.0.after _ _ r.0.found r.0.is (seen_same r.0.before r.0.after (c.requires.signals r.0.before r.0.after _ r.0.ran)) (rw r.2 at c.replace.ensures) c.self.invariant

pub returns-clause-takes : goal.returns-clause-takes
returns-clause-takes g c = let r = c.run_on-result.ensures.run in rw (r.0.is, record_found _ c.args.pid r.0.before r.0.after r.0.found) (ap Some (sym r.3))
