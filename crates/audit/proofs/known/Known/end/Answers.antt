use Rattle.std.proofs.Common.{◌≡◌, ◌==◌, if◌then◌else◌, ℕ, ap, sym, ◌∙◌, subst}
use Rattle.laws.specs.Keeping.{ended_with, given_on}
use Rattle.audit.specs.Records.{kept_by, record_in}
use Rattle.audit.proofs.RecordLemmas.{not_living}
use Rattle.audit.proofs.HeirLemmas.{heir_other, heir_still}
use Rattle.audit.proofs.ChildLemmas.{same_links}
use Rattle.audit.proofs.KeptLemmas.{end_kept, sound_end, first_still}
use Rattle.audit.proofs.known.Known.end.Goals as goal

pub give_on-requires-clause-linked : goal.give_on-requires-clause-linked
give_on-requires-clause-linked c = same_links (record_in c.self.inside.records.entries) (record_in c.apply.new.records.entries) c.apply.ensures.links c.self.invariant.0

pub give_on-requires-clause-other : goal.give_on-requires-clause-other
give_on-requires-clause-other c = heir_other (kept_by c.args.self.now) c.args.pid c.heir-heir.result c.heir-heir.ensures

pub give_on-requires-clause-heir : goal.give_on-requires-clause-heir
give_on-requires-clause-heir c = heir_still c.args.pid c.heir-heir.result c.args.status c.args.self.now c.self.inside.records.entries c.apply.new.records.entries c.self.view_is c.apply.ensures.kept c.heir-heir.ensures

pub give_on-requires-clause-first_child : goal.give_on-requires-clause-first_child
give_on-requires-clause-first_child c =
    first_still c.args.pid c.in-Some.was (record_in c.self.inside.records.entries) (record_in c.apply.new.records.entries) (sym c.apply.ensures.was ∙ c.in-Some.is) c.apply.ensures.links

pub invariant_of-self : goal.invariant_of-self
invariant_of-self c =
    sound_end c.args.pid c.heir-heir.result c.args.status c.self.inside.may_be_marked c.self.inside.records.entries c.apply.new.records.entries c.give_on.new.records.entries c.apply.ensures.kept c.give_on.ensures c.self.invariant

pub returns-in-Some : goal.returns-in-Some
returns-in-Some c =
    subst (λ (h : ℕ). (q : ℕ) → kept_by c.give_on.new.records.entries q ≡ (if c.args.pid == q then ended_with c.args.status (given_on c.args.pid h (kept_by c.args.self.now q)) else given_on c.args.pid h (kept_by c.args.self.now q))) c.heir-heir.ensures
    (subst (λ es. (q : ℕ) → kept_by c.give_on.new.records.entries q ≡ (if c.args.pid == q then ended_with c.args.status (given_on c.args.pid c.heir-heir.result (kept_by es q)) else given_on c.args.pid c.heir-heir.result (kept_by es q))) c.self.view_is
    (end_kept c.args.pid c.heir-heir.result c.args.status c.self.inside.records.entries c.apply.new.records.entries c.give_on.new.records.entries c.apply.ensures.kept c.give_on.ensures))

pub invariant_of-self-in_default : goal.invariant_of-self-in_default
invariant_of-self-in_default c = absurd (not_living c.args.pid c.args.self.now c.requires.living (ap (λ es. record_in es c.args.pid) (sym c.self.view_is) ∙ sym c.apply.ensures.was ∙ c.in_default.is))

pub returns-in_default : goal.returns-in_default
returns-in_default c = absurd (not_living c.args.pid c.args.self.now c.requires.living (ap (λ es. record_in es c.args.pid) (sym c.self.view_is) ∙ sym c.apply.ensures.was ∙ c.in_default.is))
