use Rattle.std.proofs.Common.{ap, arith, nat_eq, sym, subst, refl, rules, true, ◌≡◌, ◌∙◌}
use Rattle.std.proofs.Math.Nat.{le_trans}
use Rattle.std.specs.Option.{option_map_or}
use Rattle.std.proofs.lemmas.Bool.{and_parts, eqb-true}
use Rattle.posix.specs.Common.{Process}
use Rattle.posix.proofs.MapLemmas.{length_children}
use Rattle.proctable.specs.Records.{give_record}
use Rattle.jobs.specs.Indexes.{keeps_group_and_session}
use Rattle.jobs.specs.IndexedTables.{StaysPut}
use Rattle.jobs.proofs.KeptLemmas.{record_found, none_record, elsewhere_record, kept_moved, kept_unseen, ready_run}
use Rattle.proctable.proofs.RecordLemmas.{record_rises}
use Rattle.jobs.proofs.ChildLemmas.{kin_record, parent_listed}
use Rattle.jobs.proofs.ReadLemmas.{processes_of}
use Rattle.jobs.specs.declared.indexes.IndexedFields.{IndexedFields}
use Rattle.jobs.specs.contracts.indexes.IndexedFieldsPartialEq.TheImpl.{ghosts}
use Rattle.posix.specs.contracts.process.LifePartialEq.TheImpl.{ghosts as life}
use Rattle.posix.specs.contracts.process.NewsPartialEq.TheImpl.{ghosts as news}
use Rattle.posix.specs.declared.process.Life.{Life}
use Rattle.posix.specs.declared.process.News.{News}
use Rattle.jobs.proofs.indexed_table.IndexedTable.change_seen.Goals as goal

same_life : (a b : Life) → life.eq a b ≡ true → a ≡ b
same_life a b e = search rules

same_news : (a b : News) → news.eq a b ≡ true → a ≡ b
same_news a b e = search rules

-- fields that compare as equal are the same
same : (a b : IndexedFields) → ghosts.eq a b ≡ true → a ≡ b
same a b e =
    let group = and_parts (nat_eq a.group b.group) _ e in
    let session = and_parts (nat_eq a.session b.session) _ group.1 in
    let lives = and_parts (life.eq a.life b.life) _ session.1 in
    let told = and_parts (news.eq a.news b.news) _ lives.1 in
    grind (arith, eqb-true a.group b.group group.0, eqb-true a.session b.session session.0, same_life a.life b.life lives.0, same_news a.news b.news told.0, told.1)

pub change_in-seen-requires-clause-parent : goal.change_in-seen-requires-clause-parent
change_in-seen-requires-clause-parent g c = c.unwrap_or-parent.ensures ∙ parent_listed c.args.pid _ _ _ c.self.invariant.children c.list.ensures (rw (← c.self.view_is) at c.requires.there)

pub reindex-requires-clause-can : goal.reindex-requires-clause-can
reindex-requires-clause-can g c =
    let r = c.change_in-seen.ensures.run in
    rw (c.change_in-seen.ensures.parent, r.1) (ready_run r.0 (processes_of c.self.view_is) c.requires.grouped c.self.invariant).0

pub reindex-requires-clause-inside : goal.reindex-requires-clause-inside
reindex-requires-clause-inside g c = let r = c.change_in-seen.ensures.run in rw r.2 (ready_run r.0 (processes_of c.self.view_is) c.requires.grouped c.self.invariant).1

pub update_anchors-requires-clause-after : goal.update_anchors-requires-clause-after
update_anchors-requires-clause-after g c = let r = c.change_in-seen.ensures.run in rw (r.0.is, record_found _ c.args.pid r.0.before r.0.after r.0.found, r.2) refl

pub update_anchors-requires-clause-parent : goal.update_anchors-requires-clause-parent
update_anchors-requires-clause-parent g c =
    let r = c.change_in-seen.ensures.run in
    rw (c.change_in-seen.ensures.parent, r.0.is) (sym (ap (λ o. option_map_or (λ (q : Process). q.parent) o 0) (record_found _ c.args.pid r.0.before r.0.after r.0.found)))

pub update_anchors-requires-clause-within : goal.update_anchors-requires-clause-within
update_anchors-requires-clause-within g c = rw c.reindex.ensures.anchors (ready_run c.change_in-seen.ensures.run.0 (processes_of c.self.view_is) c.requires.grouped c.self.invariant).2

pub update_anchors-requires-clause-kin : goal.update_anchors-requires-clause-kin
update_anchors-requires-clause-kin g c =
    let r = c.change_in-seen.ensures.run.0 in
    let k = c.self.invariant in
    rw (r.is, c.reindex.ensures.children) (record { rising = record_rises _ k.rising c.args.pid r.after; none = none_record _ c.args.pid r.after k.numbers; index = kin_record _ c.args.pid r.after _ k.children })

pub returns-then-eq-clause-after : goal.returns-then-eq-clause-after
returns-then-eq-clause-after g c = let r = c.change_in-seen.ensures.run in rw (r.0.is, record_found _ c.args.pid r.0.before r.0.after r.0.found, r.2) refl

pub returns-clause-after : goal.returns-clause-after
returns-clause-after g c = let r = c.change_in-seen.ensures.run in rw (c.update_anchors.ensures.contents, r.0.is, record_found _ c.args.pid r.0.before r.0.after r.0.found, r.2) refl

pub invariant_of-self : goal.invariant_of-self
invariant_of-self g c =
    let r = c.change_in-seen.ensures.run in
    kept_unseen _ _ _ c.args.pid r.0.before r.0.after c.self.inside.indexes r.0.found r.0.is (sym r.2 ∙ sym (same _ _ (sym c.eq.ensures ∙ c.if-eq.true)) ∙ r.1) c.self.invariant

pub invariant_of-self-2 : goal.invariant_of-self-2
invariant_of-self-2 g c =
    let rs = g.K.ProcessTable.contents c.self.inside.table in
    let r = c.change_in-seen.ensures.run in
    let parent = c.change_in-seen.ensures.parent in
    let index = (rw (r.0.is, c.reindex.ensures.anchors) at c.update_anchors.ensures.index) rs (elsewhere_record rs c.args.pid r.0.after) (rw (r.0.found, r.1) refl) (sym parent) c.self.invariant.anchors.index in
    kept_moved _ rs _ c.args.pid r.0.before r.0.after c.self.inside.indexes c.reindex.new.self c.update_anchors.new.anchors r.0.found (c.update_anchors.ensures.contents ∙ r.0.is) (rw (parent, r.2) at c.reindex.ensures.moved)
    (ready_run r.0 (processes_of c.self.view_is) c.requires.grouped c.self.invariant).1 index (rw c.reindex.ensures.anchors at c.update_anchors.ensures.sizes) c.reindex.ensures.children c.self.invariant

pub returns-clause-costs : goal.returns-clause-costs
unfolding give_record
returns-clause-costs g c =
    let r = c.change_in-seen.ensures.run in
    let kids = rw (← r.0.is) at (length_children c.args.pid (give_record r.0.after) (λ r. refl) c.args.pid (g.K.ProcessTable.contents c.self.inside.table)) in
    let fewer = le_trans c.change_in-seen.ensures.costs.no_fewer c.update_anchors.ensures.costs.no_fewer in
    rw (← c.self.view_is) record { room = search rules; sizes = rw (c.update_anchors.ensures.sizes, c.reindex.ensures.anchors, c.reindex.ensures.children, c.reindex.ensures.moved.sizes) refl; visits = grind (arith, c.update_anchors.ensures.costs.visits, kids, c.change_in-seen.ensures.costs.visits); no_fewer = fewer }

pub returns-clause-put : goal.returns-clause-put
returns-clause-put g c = λ h.
    let r = c.change_in-seen.ensures.run in
    let put = subst (λ rs. StaysPut g.F.FnOnce c.args.change rs c.args.pid) (sym (processes_of c.self.view_is)) h in
    let keeps : keeps_group_and_session c.change_in-seen.result.before c.change_in-seen.result.after ≡ true = rw (r.1, r.2) (put _ _ _ r.0.found r.0.ran) in
    let fewer = le_trans c.change_in-seen.ensures.costs.no_fewer c.update_anchors.ensures.costs.no_fewer in
    rw (← c.self.view_is) record { room = search rules; sizes = rw (c.update_anchors.ensures.sizes, c.reindex.ensures.anchors, c.reindex.ensures.children, c.reindex.ensures.moved.sizes) refl; visits = grind (arith, keeps, c.update_anchors.ensures.costs.visits, c.change_in-seen.ensures.costs.visits); no_fewer = fewer }
